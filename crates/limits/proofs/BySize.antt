-- For a number x, -limit <= x <= limit says as much as |x| <= limit, and that is the opposite of limit < |x|.
use Rattle.floats.specs.Prelude.{◌≡◌, refl, subst, ◌∙◌, Bool, true, false, not, ◌&&◌, ◌||◌, T, Float, nan, inf, fin, neg, le}
use Rattle.floats.specs.Definitions.{magnitude}
use Rattle.floats.specs.Tests.{both, alike}
use Rattle.floats.specs.Order.{number, nlt→le, lt→nle, le→number, Within, neg_le}
use Rattle.floats.proofs.FromZero.{magnitude_within}
use Rattle.floats.proofs.Kept.{neg_neg}
use Rattle.algebra.specs.declared.vector.Vector.{Vector}
use Rattle.limits.specs.Limits.{within, all_within}
use Rattle.limits.specs.BySize.{beyond, all_numbers, BySize}

magnitude_number : (x : Float) → T (number x) → T (number (magnitude x))
unfolding magnitude
magnitude_number nan p = absurd p
magnitude_number (inf s) p = tt
magnitude_number (fin s m e) p = tt

-- the larger of x and -x
size_up_to : (limit x : Float) → Within x (neg limit) limit → T (le (magnitude x) limit)
unfolding magnitude neg
size_up_to limit nan h = absurd (le→number nan limit h.1).0
size_up_to limit (inf true) h = subst (λ (l : Float). T (le (inf false) l)) (neg_neg limit) (neg_le (neg limit) (inf true) h.0)
size_up_to limit (inf false) h = h.1
size_up_to limit (fin true m e) h = subst (λ (l : Float). T (le (fin false m e) l)) (neg_neg limit) (neg_le (neg limit) (fin true m e) h.0)
size_up_to limit (fin false m e) h = h.1

up_to_size : (limit x : Float) → T (number x) → T (le (magnitude x) limit) → Within x (neg limit) limit
unfolding magnitude
up_to_size limit nan p h = absurd p
up_to_size nan (inf s) p h = absurd (le→number (inf false) nan h).1
up_to_size (inf true) (inf s) p h = absurd (unfold le in h)
up_to_size (inf false) (inf true) p h = unfold neg le in (tt, tt)
up_to_size (inf false) (inf false) p h = unfold neg le in (tt, tt)
up_to_size (fin t n d) (inf s) p h = absurd (unfold le in h)
up_to_size limit (fin s m e) p h = magnitude_within (fin s m e) limit tt h

refuted : (b : Bool) → (T b → ⊥) → T (not b)
refuted true h = h tt
refuted false h = tt

abbrev One : Type 0
One = (limit x : Float) → T (number limit) → within (neg limit) limit x ≡ (number x && not (beyond limit x))

one : One
one limit x p =
    alike (within (neg limit) limit x) (number x && not (beyond limit x))
    (λ t.
    let h = simp both at t in
    simp both ((le→number x limit h.1).0, refuted (beyond limit x) (λ l. lt→nle limit (magnitude x) l (size_up_to limit x h))))
    (λ t.
    let h = simp both at t in
    simp both (up_to_size limit x h.0 (nlt→le limit (magnitude x) p (magnitude_number x h.0) h.1)))

gathered : (a b c x y z : Bool) → ((a && not x) && (b && not y) && (c && not z)) ≡ ((a && b && c) && not (x || y || z))
gathered true true true true y z = refl
gathered true true true false true z = refl
gathered true true true false false z = refl
gathered true true false true y z = refl
gathered true true false false true z = refl
gathered true true false false false z = refl
gathered true false c true y z = refl
gathered true false c false y z = refl
gathered false b c x y z = refl

all : One → (limit : Float) (v : Vector) → T (number limit)
    → all_within limit v ≡ (all_numbers v && not (beyond limit v.0 || beyond limit v.1 || beyond limit v.2))
unfolding all_within
all each limit v p =
    (λ i. each limit v.0 p i && each limit v.1 p i && each limit v.2 p i)
    ∙ gathered (number v.0) (number v.1) (number v.2) (beyond limit v.0) (beyond limit v.1) (beyond limit v.2)

pub by_size : BySize
by_size = record { one = one; all = all one }
