-- Matrices of three rows and three columns, over the format w.
use Rattle.std.specs.Prelude.{◌≡◌, refl, Bool, ◌&&◌, cond, List, [], ◌∷◌, ℕ, get_or, Float, Result, Ok, Err}
use Rattle.std.specs.Float.{nan, Format, binary64}
use Rattle.std.specs.Float.Ieee.{neg, le}
use Rattle.std.specs.Float.Ieee.Scale as scale
use Rattle.floats.specs.Notation.{rounded, zero, wide, narrow}
use Rattle.algebra.specs.Vectors.{epsilon, vector}
use Rattle.algebra.specs.Vectors as vectors
use Rattle.algebra.specs.declared.vector.Vector.{Vector}
use Rattle.algebra.specs.declared.matrix.Matrix.{Matrix}
use Rattle.algebra.specs.declared.matrix.NoInverse.{NoInverse}
use Rattle.algebra.specs.declared.matrix.NoInverse.TheVariants.{TooSmall, NotFinite}

abbrev pub row0 : Matrix → Vector
row0 m = vector m.m00 m.m01 m.m02

abbrev pub row1 : Matrix → Vector
row1 m = vector m.m10 m.m11 m.m12

abbrev pub row2 : Matrix → Vector
row2 m = vector m.m20 m.m21 m.m22

abbrev pub column0 : Matrix → Vector
column0 m = vector m.m00 m.m10 m.m20

abbrev pub column1 : Matrix → Vector
column1 m = vector m.m01 m.m11 m.m21

abbrev pub column2 : Matrix → Vector
column2 m = vector m.m02 m.m12 m.m22

-- row by row
abbrev pub rows : Vector → Vector → Vector → Matrix
rows r s t = record { m00 = r.0; m01 = r.1; m02 = r.2; m10 = s.0; m11 = s.1; m12 = s.2; m20 = t.0; m21 = t.1; m22 = t.2 }

-- entry by entry
abbrev pub each : (Float → Float) → Matrix → Matrix
each f a = rows (vectors.each f (row0 a)) (vectors.each f (row1 a)) (vectors.each f (row2 a))

abbrev pub both : (Float → Float → Float) → Matrix → Matrix → Matrix
both f a b = rows (vectors.both f (row0 a) (row0 b)) (vectors.both f (row1 a) (row1 b)) (vectors.both f (row2 a) (row2 b))

module _ (w : Format) where
  open rounded w use {◌⊕◌, ◌⊖◌, ◌⊗◌, ◌⊘◌}

  unfoldable pub plus : Matrix → Matrix → Matrix
  plus = both ◌⊕◌

  unfoldable pub minus : Matrix → Matrix → Matrix
  minus = both ◌⊖◌

  -- a sum in a product starts at 0.0 and runs over k
  unfoldable pub dot : Vector → Vector → Float
  dot row column = zero w ⊕ row.0 ⊗ column.0 ⊕ row.1 ⊗ column.1 ⊕ row.2 ⊗ column.2

  unfoldable pub times : Matrix → Matrix → Matrix
  times a b =
      rows
      (vector (dot (row0 a) (column0 b)) (dot (row0 a) (column1 b)) (dot (row0 a) (column2 b)))
      (vector (dot (row1 a) (column0 b)) (dot (row1 a) (column1 b)) (dot (row1 a) (column2 b)))
      (vector (dot (row2 a) (column0 b)) (dot (row2 a) (column1 b)) (dot (row2 a) (column2 b)))

  -- p on the diagonal
  unfoldable pub diagonal : Float → Matrix
  diagonal p = rows (vector p (zero w) (zero w)) (vector (zero w) p (zero w)) (vector (zero w) (zero w) p)

unfoldable pub transpose : Matrix → Matrix
transpose m = rows (column0 m) (column1 m) (column2 m)

-- row after row
unfoldable pub flatten : Matrix → List Float
flatten m = m.m00 ∷ m.m01 ∷ m.m02 ∷ m.m10 ∷ m.m11 ∷ m.m12 ∷ m.m20 ∷ m.m21 ∷ m.m22 ∷ []

unfoldable pub unflatten : List Float → Matrix
unflatten l =
    let at : ℕ → Float = λ i. get_or l i nan in
    rows (vector (at 0) (at 1) (at 2)) (vector (at 3) (at 4) (at 5)) (vector (at 6) (at 7) (at 8))

pub unflatten_flatten : (m : Matrix) → unflatten (flatten m) ≡ m
unfolding flatten unflatten
unflatten_flatten m = refl

unfoldable pub finite : Matrix → Bool
finite m = vectors.finite (row0 m) && vectors.finite (row1 m) && vectors.finite (row2 m)

-- ---- the inverse, which is worked out in binary64 whatever the format
open rounded binary64 use {◌⊕◌, ◌⊖◌, ◌⊗◌, ◌⊘◌}

-- of [a b c; d e f; g h i] the nine cofactors, each named by the entry that it belongs to, and put where the inverse has it
unfoldable pub adjugate : Matrix → Matrix
adjugate m =
    let x = each wide m in
    let a = x.m11 ⊗ x.m22 ⊖ x.m12 ⊗ x.m21 in
    let d = x.m02 ⊗ x.m21 ⊖ x.m01 ⊗ x.m22 in
    let g = x.m01 ⊗ x.m12 ⊖ x.m02 ⊗ x.m11 in
    let b = x.m12 ⊗ x.m20 ⊖ x.m10 ⊗ x.m22 in
    let e = x.m00 ⊗ x.m22 ⊖ x.m02 ⊗ x.m20 in
    let h = x.m02 ⊗ x.m10 ⊖ x.m00 ⊗ x.m12 in
    let c = x.m10 ⊗ x.m21 ⊖ x.m11 ⊗ x.m20 in
    let f = x.m01 ⊗ x.m20 ⊖ x.m00 ⊗ x.m21 in
    let i = x.m00 ⊗ x.m11 ⊖ x.m01 ⊗ x.m10 in
    rows (vector a d g) (vector b e h) (vector c f i)

-- along the first row
unfoldable pub determinant : Matrix → Matrix → Float
determinant m cofactors = wide m.m00 ⊗ cofactors.m00 ⊕ wide m.m01 ⊗ cofactors.m10 ⊕ wide m.m02 ⊗ cofactors.m20

unfoldable pub divided : Format → Matrix → Float → Matrix
divided w cofactors det = each (λ x. narrow w (x ⊘ det)) cofactors

-- the source's test `(-EPSILON..=EPSILON).contains(&det)`
abbrev pub too_small : Float → Bool
too_small det = le (neg (epsilon binary64)) det && le det (epsilon binary64)

-- the source divides by a determinant that is not finite, too
unfoldable pub invert : Format → Matrix → Result Matrix NoInverse
invert w m =
    let cofactors = adjugate m in
    let det = determinant m cofactors in
    cond (too_small det) (Err TooSmall) (cond (scale.finite det) (Ok (divided w cofactors det)) (Err NotFinite))
