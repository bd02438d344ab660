-- What makes the reduction of an angle good up to ANGLE_LIMIT: how many quarter turns it takes off, and that their products with the first two parts of pi / 2 are not
-- rounded. The proof is in proofs/Reduction.antt.
use Rattle.std.specs.Prelude.{◌≡◌, ℕ, zero, suc, ◌*◌, Bool, ◌&&◌, T, pos, ◌==◌, Float}
use Rattle.std.specs.Float.{binary64}
use Rattle.std.specs.Float.Ieee.{neg, of_int}
use Rattle.std.specs.Float.Ieee.Positive.{num, den}
use Rattle.floats.specs.Notation.{rounded}
use Rattle.floats.specs.Order.{Within}
use Rattle.numbers.specs.Constants.{ANGLE_LIMIT, TWO_OVER_PI, P1, P2, MAGIC}
use Rattle.numbers.specs.Sines.{reduce}
open rounded binary64 use {◌⊕◌, ◌⊖◌, ◌⊗◌}

abbrev pub whole : ℕ → Float
whole k = of_int binary64 (pos k)

abbrev pub most : ℕ
most = 163

-- the k of `reduce`
abbrev pub quarter_turns : Float → Float
quarter_turns x = x ⊗ TWO_OVER_PI ⊕ MAGIC ⊖ MAGIC

-- the product is in size k times x
abbrev pub exact : ℕ → Float → Bool
exact k x = let p = whole k ⊗ x in let n = neg (whole k) ⊗ x in (num p * den x == k * num x * den p) && num n * den x == k * num x * den n

-- from 0 to n
abbrev pub all_up_to : ℕ → (ℕ → Bool) → Bool
all_up_to zero p = p zero
all_up_to (suc n) p = all_up_to n p && p (suc n)

pub record Reduction : Type 0 where
  pub of_reduce : (x : Float) → (reduce x).r ≡ x ⊖ quarter_turns x ⊗ P1 ⊖ quarter_turns x ⊗ P2
  pub at_most : (x : Float) → Within x (neg ANGLE_LIMIT) ANGLE_LIMIT → Within (quarter_turns x) (neg (whole most)) (whole most)
  pub products : T (all_up_to most (λ k. exact k P1 && exact k P2))
