-- What the inverse answers, exactly by the determinant, over the format w. The proof is in proofs/Inverses.antt.
use Rattle.std.specs.Prelude.{◌≡◌, Bool, true, false, not, T, Float, Result, Ok, Err}
use Rattle.std.specs.Float.{Format}
use Rattle.std.specs.Float.Ieee.Scale as scale
use Rattle.algebra.specs.Matrices.{adjugate, determinant, divided, too_small, invert}
use Rattle.algebra.specs.declared.matrix.Matrix.{Matrix}
use Rattle.algebra.specs.declared.matrix.NoInverse.{NoInverse}
use Rattle.algebra.specs.declared.matrix.NoInverse.TheVariants.{TooSmall, NotFinite}

abbrev pub is_too_small : Result Matrix NoInverse → Bool
is_too_small (Err TooSmall) = true
is_too_small (Err NotFinite) = false
is_too_small (Ok i) = false

abbrev pub is_not_finite : Result Matrix NoInverse → Bool
is_not_finite (Err TooSmall) = false
is_not_finite (Err NotFinite) = true
is_not_finite (Ok i) = false

abbrev pub det : Matrix → Float
det m = determinant m (adjugate m)

-- no determinant is both, and what is neither is divided by
pub record Inverses (w : Format) : Type 0 where
  pub small : (m : Matrix) → is_too_small (invert w m) ≡ too_small (det m)
  pub not_finite : (m : Matrix) → is_not_finite (invert w m) ≡ not (scale.finite (det m))
  pub inverted : (m : Matrix) → T (not (too_small (det m))) → T (scale.finite (det m)) → invert w m ≡ Ok (divided w (adjugate m) (det m))
