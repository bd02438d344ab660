-- x - x is a zero where x is finite, and a NaN elsewhere: a program's test for a finite value.
use Rattle.std.specs.Prelude.{◌≡◌, ℕ, ◌+◌, ◌-◌, ◌*◌, ◌<◌, Bool, true, false, not, T, Float}
use Rattle.std.proofs.Math.Path.{refl}
use Rattle.std.proofs.Common.{ap, inl, inr, add_comm, arith}
use Rattle.std.specs.Float.{nan, inf, fin, Format}
use Rattle.std.specs.Float.Ieee.{up, down, round, add, sub, neg, level, eq}
use Rattle.std.specs.Float.Ieee.Scale.{finite}
use Rattle.std.specs.Float.Ieee.Positive.{num, den}
use Rattle.floats.specs.Fractions.{pl, mi, plus, less, signed→eq}
use Rattle.floats.specs.Order.{nought, pl_not, mi_not}
use Rattle.floats.specs.Rounding.{zero_value, value_zero, Rnd, rnd_at, add_rnd}
use Rattle.floats.specs.Sums.{dens}

-- ---- x - x is a zero exactly where x is finite: a program's test for a finite value
rnd_zero : (f : Format) (z : Float) (p c : ℕ) → 0 < c → Rnd f z p p c → T (finite z) × (num z ≡ 0)
rnd_zero f z p c C (inl (g, u)) = rw (u, none_left p) (value_zero (round f false 0 c) false c C (zero_value f false c C))
  where
    none_left : (p : ℕ) → p - p ≡ 0
    none_left p = omega arith
rnd_zero f z p c C (inr (g, u)) = rw (u, none_left p) (value_zero (round f true 0 c) true c C (zero_value f true c C))
  where
    none_left : (p : ℕ) → p - p ≡ 0
    none_left p = omega arith

T_true : (b : Bool) → T b → b ≡ true
T_true true t = refl
T_true false t = absurd t

no_size : (s : Bool) (a b : ℕ) → a ≡ 0 → b ≡ 0 → pl s a + 0 ≡ b + mi s a
no_size true a b h k = omega arith
no_size false a b h k = omega arith

zero_eq : (z : Float) → T (finite z) → num z ≡ 0 → eq z nought ≡ true
unfolding eq
zero_eq nan p h = absurd p
zero_eq (inf s) p h = absurd p
zero_eq (fin s m e) p h = T_true (level s (m * up e * 1) false (0 * down e)) (signed→eq s (m * up e * 1) false (0 * down e) (no_size s (m * up e * 1) (0 * down e) (omega arith) (omega arith)))

pub sub_rnd : (f : Format) (x y : Float) → T (finite x) → T (finite y) → Rnd f (sub f x y) (plus x * den y + less y * den x) (less x * den y + plus y * den x) (den x * den y)
unfolding sub
sub_rnd f x nan p q = absurd q
sub_rnd f x (inf t) p q = absurd q
sub_rnd f x (fin t n d) p q =
    rnd_at f (add f x (neg (fin t n d))) _ _ _ _ (den x * down d)
    (ap (λ (z : ℕ). plus x * down d + z * den x) (pl_not t (n * up d)))
    (ap (λ (z : ℕ). less x * down d + z * den x) (mi_not t (n * up d)))
    (add_rnd f x (fin (not t) n d) p tt)

self : (f : Format) (x : Float) → T (finite x) → eq (sub f x x) nought ≡ true
self f x p =
    let z = rnd_zero f (sub f x x) (plus x * den x + less x * den x) (den x * den x) (dens x x) (rnd_at f (sub f x x) _ _ _ _ (den x * den x) refl (add_comm (less x * den x) (plus x * den x)) (sub_rnd f x x p p)) in
    zero_eq (sub f x x) z.0 z.1

pub finite_test : (f : Format) (x : Float) → eq (sub f x x) nought ≡ finite x
finite_test f nan = unfold eq sub in refl
finite_test f (inf true) = unfold eq sub in refl
finite_test f (inf false) = unfold eq sub in refl
finite_test f (fin s m e) = self f (fin s m e) tt
