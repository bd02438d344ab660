-- What a scaled number is, by which way its power goes and how far.
use Rattle.floats.specs.Prelude.{◌≡◌, refl, Bool, ℕ, ◌+◌, ◌-◌, ◌*◌, ◌^◌, ◌≤◌, ◌<◌, arith, binary64, round, false, le-leb, le-ltb, lt-leb, lt-ltb}
use Rattle.std.proofs.Common.{Ok, Err}
use Rattle.words.specs.Decimals.{scaled, signs}
use Rattle.words.specs.declared.decimal.NoNumber.TheVariants.{TooFar}
use Rattle.words.proofs.Exact.{sign_rounded}

pub scaled_up : (s : Bool) (n u d : ℕ) → d ≤ u → u - d ≤ 22 → scaled s n u d ≡ Ok (signs s (round binary64 false (n * 10 ^ (u - d)) 1))
unfolding scaled
scaled_up s n u d h k = simp (le-ltb (d + 22) u (omega arith), le-ltb (u + 22) d (omega arith), le-leb d u h, sign_rounded s) refl

pub scaled_down : (s : Bool) (n u d : ℕ) → u < d → d - u ≤ 22 → scaled s n u d ≡ Ok (signs s (round binary64 false n (10 ^ (d - u))))
unfolding scaled
scaled_down s n u d h k = simp (le-ltb (d + 22) u (omega arith), le-ltb (u + 22) d (omega arith), lt-leb d u h, sign_rounded s) refl

pub far_up : (s : Bool) (n u d : ℕ) → d ≤ u → 22 < u - d → scaled s n u d ≡ Err TooFar
unfolding scaled
far_up s n u d h k = simp (lt-ltb (d + 22) u (omega arith)) refl

pub far_down : (s : Bool) (n u d : ℕ) → u < d → 22 < d - u → scaled s n u d ≡ Err TooFar
unfolding scaled
far_down s n u d h k = simp (le-ltb (d + 22) u (omega arith), lt-ltb (u + 22) d (omega arith)) refl
