-- By cases on the two tests; a determinant that is too small lies between two finite numbers, so it is finite.
use Rattle.floats.specs.Prelude.{◌≡◌, refl, Bool, true, false, not, cond, T, Float, Result, Ok, Err, Format, binary64, neg, of_bits}
use lib.Ieee.Scale as scale
use Rattle.floats.specs.Tests.{both}
use Rattle.floats.specs.Order.{within_finite}
use Rattle.algebra.specs.Vectors.{epsilon}
use Rattle.algebra.specs.Matrices.{too_small, invert}
use Rattle.algebra.specs.Inverses.{is_too_small, is_not_finite, det, Inverses}
use Rattle.algebra.specs.Types.{Matrix, NoInverse}
use Rattle.algebra.specs.declared.matrix.NoInverse.TheVariants.{TooSmall, NotFinite}

small_finite : (x : Float) → T (too_small x) → T (scale.finite x)
unfolding neg of_bits
small_finite x h = let (a, b) = simp both at h in within_finite x (neg (epsilon binary64)) (epsilon binary64) tt tt (a, b)

abbrev answer : Bool → Bool → Matrix → Result Matrix NoInverse
answer small finite i = cond small (Err TooSmall) (cond finite (Ok i) (Err NotFinite))

is_small : (small finite : Bool) (i : Matrix) → is_too_small (answer small finite i) ≡ small
is_small true finite i = refl
is_small false true i = refl
is_small false false i = refl

is_unbounded : (small finite : Bool) (i : Matrix) → (T small → T finite) → is_not_finite (answer small finite i) ≡ not finite
is_unbounded true true i h = refl
is_unbounded true false i h = absurd (h tt)
is_unbounded false true i h = refl
is_unbounded false false i h = refl

is_inverted : (small finite : Bool) (x y : Result Matrix NoInverse) (i : Matrix) → T (not small) → T finite → cond small x (cond finite (Ok i) y) ≡ Ok i
is_inverted true finite x y i h k = absurd h
is_inverted false true x y i h k = refl
is_inverted false false x y i h k = absurd k

pub inverses : (w : Format) → Inverses w
unfolding invert
inverses w = record {
  small = λ m. is_small (too_small (det m)) (scale.finite (det m)) _;
  not_finite = λ m. is_unbounded (too_small (det m)) (scale.finite (det m)) _ (small_finite (det m));
  inverted = λ m. is_inverted (too_small (det m)) (scale.finite (det m)) _ _ _;
}
