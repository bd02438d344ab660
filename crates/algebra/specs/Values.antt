-- Worked values of the quaternion and the matrix, computed from the definitions at binary64.
use Rattle.std.specs.Prelude.{◌≡◌, refl, false, ℕ, ◌^◌, pos, Float, Ok, Err}
use Rattle.std.specs.Float.{nan, binary64}
use Rattle.std.specs.Float.Ieee.{add, sub, mul, div, neg, le, of_int, round, of_bits}
use Rattle.algebra.specs.Vectors.{vector}
use Rattle.algebra.specs.Quaternions.{quaternion, rotate, times}
use Rattle.algebra.specs.Matrices.{rows, invert, adjugate, determinant, divided}
use Rattle.algebra.specs.declared.matrix.Matrix.{Matrix}
use Rattle.algebra.specs.declared.matrix.NoInverse.TheVariants.{TooSmall, NotFinite}

-- n and 1 / n
abbrev pub whole : ℕ → Float
whole n = of_int binary64 (pos n)

abbrev pub part : ℕ → Float
part n = round binary64 false 1 n

abbrev diagonal : Float → Float → Float → Matrix
diagonal a b c = rows (vector a (whole 0) (whole 0)) (vector (whole 0) b (whole 0)) (vector (whole 0) (whole 0) c)

pub values :
    (times binary64 (quaternion (whole 1) (whole 2) (whole 3) (whole 4)) (quaternion (whole 5) (whole 6) (whole 7) (whole 8)) ≡ quaternion (neg (whole 60)) (whole 12) (whole 30) (whole 24))
    × (rotate binary64 (quaternion (part 2) (part 2) (part 2) (part 2)) (vector (whole 1) (whole 2) (whole 3)) ≡ vector (whole 3) (whole 1) (whole 2))
    × (invert binary64 (diagonal (whole 2) (whole 4) (whole 8)) ≡ Ok (diagonal (part 2) (part 4) (part 8)))
    × (invert binary64 (diagonal (whole 1) (whole 1) (part (2 ^ 52))) ≡ Err TooSmall)
    × (invert binary64 (diagonal (whole 1) (whole 1) (part (2 ^ 51))) ≡ Ok (diagonal (whole 1) (whole 1) (whole (2 ^ 51))))
    × (invert binary64 (diagonal (whole 1) (whole 1) (whole (2 ^ 1023))) ≡ Ok (diagonal (whole 1) (whole 1) (part (2 ^ 1023))))
    × (invert binary64 (diagonal (whole 2) (whole 1) (whole (2 ^ 1023))) ≡ Err NotFinite)
    × (invert binary64 (diagonal (neg (whole 2)) (whole 1) (whole (2 ^ 1023))) ≡ Err NotFinite)
    × (invert binary64 (diagonal (whole 1) (whole 1) nan) ≡ Err NotFinite)
unfolding times rotate invert adjugate determinant divided add sub mul div neg le of_int round of_bits
values = (refl, refl, refl, refl, refl, refl, refl, refl, refl)
