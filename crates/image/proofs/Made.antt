-- A list that calls at each number below n made, where a call gives the same at any time; and so a bank that is read channel by channel.
use Rattle.std.specs.Array.{IsFromFnResult, IsFromFnResultFrom}
use Rattle.std.specs.Fn.{Mut, Called}
use Rattle.std.proofs.Math.Seq.{take-suc}
use Rattle.std.proofs.lemmas.List.{take_all}
use Rattle.floats.specs.Prelude.{◌≡◌, refl, sym, subst, ◌∙◌, List, [], ◌∷◌, ◌++◌, ℕ, zero, suc, ◌+◌, ◌*◌, ◌<◌, ◌≤◌, zero-add, add-zero, le_of_eq, arith, length, get_or, take, Float}
use Rattle.filters.specs.declared.channel.Channel.{Channel}
use Rattle.image.specs.Unpack.{channel_at, channels}

module _ {F B : Type 0} (g : Mut F (ℕ × Unit {0}) B) (P : ℕ → B) (f : F) (pure : (i : ℕ) (y : B) (q : F) → Called g f (i, tt) y q → (y ≡ P i) × (q ≡ f)) where
  each : (ys : List B) (i n : ℕ) → IsFromFnResultFrom g f ys i n → (k : ℕ) (d : B) → k < n → get_or ys (i + k) d ≡ P (i + k)
  each ys i zero h k d lt = absurd (omega arith)
  each ys i (suc n) h zero d lt = rw add-zero (h.2.1 d ∙ (pure i h.1 h.0 h.3).0)
  each ys i (suc n) h (suc k) d lt =
      let e : i + suc k ≡ (i + 1) + k = omega arith in
      rw e (each ys (i + 1) n (subst (λ (p : F). IsFromFnResultFrom g p ys (i + 1) n) (pure i h.1 h.0 h.3).1 h.4) k d (omega arith))

  pub made : (ys : List B) (n : ℕ) → IsFromFnResult g f ys n → (k : ℕ) (d : B) → k < n → get_or ys k d ≡ P k
  made ys n h k d lt = let e = each ys 0 n h.each k d lt in rw zero-add at e

-- a bank whose channels are those of its places
pub bank_made : (s : List Float) (at n : ℕ) (c : List Channel) → length c ≡ n → ((k : ℕ) (d : Channel) → k < n → get_or c k d ≡ channel_at s (at + 3 * k)) → c ≡ channels n s at
unfolding channels
bank_made s at n c e h = sym (take_all n c (le_of_eq e)) ∙ go n (omega arith)
  where
    go : (k : ℕ) → k ≤ n → take k c ≡ channels k s at
    go zero lt = refl
    go (suc k) lt = take-suc c k (channel_at s at) (omega arith) ∙ (λ j. go k (omega arith) j ++ h k (channel_at s at) (omega arith) j ∷ [])
