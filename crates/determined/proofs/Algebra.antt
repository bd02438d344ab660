-- Both results are the definition's.
use Rattle.determined.specs.Algebra.{Algebra}
use Rattle.determined.proofs.OneResult.{equal}

pub algebra : Algebra
algebra = record {
  Matrix_diagonal = λ κs a z z' e e'. equal;
  Matrix_finite = λ κs a z z' e e'. equal;
  Matrix_flatten = λ κs a z z' e e'. equal;
  Matrix_invert = λ κs a z z' e e'. equal;
  Matrix_minus = λ κs a z z' e e'. equal;
  Matrix_plus = λ κs a z z' e e'. equal;
  Matrix_times = λ κs a z z' e e'. equal;
  Matrix_transpose = λ κs a z z' e e'. equal;
  Matrix_unflatten = λ κs a z z' e e'. equal;
  Quaternion_apply_delta = λ κs a z z' e e'. equal;
  Quaternion_finite = λ κs a z z' e e'. equal;
  Quaternion_norm = λ κs a z z' e e'. equal;
  Quaternion_normalize = λ κs a z z' e e'. equal;
  Quaternion_rotate = λ κs a z z' e e'. equal;
  Quaternion_times = λ κs a z z' e e'. equal;
  Vector_clip = λ κs a z z' e e'. equal;
  Vector_finite = λ κs a z z' e e'. equal;
  Vector_norm = λ κs a z z' e e'. equal;
  Vector_normalize = λ κs a z z' e e'. equal;
}
