-- Every public function of `algebra`: vectors, quaternions and matrices.
use Rattle.determined.specs.OneResult.{OneResult}
use Rattle.algebra.proofs.matrix.Matrix.diagonal.Reads as Matrix_diagonal
use Rattle.algebra.proofs.matrix.Matrix.finite.Reads as Matrix_finite
use Rattle.algebra.proofs.matrix.Matrix.flatten.Reads as Matrix_flatten
use Rattle.algebra.proofs.matrix.Matrix.invert.Reads as Matrix_invert
use Rattle.algebra.proofs.matrix.Matrix.minus.Reads as Matrix_minus
use Rattle.algebra.proofs.matrix.Matrix.plus.Reads as Matrix_plus
use Rattle.algebra.proofs.matrix.Matrix.times.Reads as Matrix_times
use Rattle.algebra.proofs.matrix.Matrix.transpose.Reads as Matrix_transpose
use Rattle.algebra.proofs.matrix.Matrix.unflatten.Reads as Matrix_unflatten
use Rattle.algebra.proofs.quaternion.Quaternion.apply_delta.Reads as Quaternion_apply_delta
use Rattle.algebra.proofs.quaternion.Quaternion.finite.Reads as Quaternion_finite
use Rattle.algebra.proofs.quaternion.Quaternion.norm.Reads as Quaternion_norm
use Rattle.algebra.proofs.quaternion.Quaternion.normalize.Reads as Quaternion_normalize
use Rattle.algebra.proofs.quaternion.Quaternion.rotate.Reads as Quaternion_rotate
use Rattle.algebra.proofs.quaternion.Quaternion.times.Reads as Quaternion_times
use Rattle.algebra.proofs.vector.Vector.clip.Reads as Vector_clip
use Rattle.algebra.proofs.vector.Vector.finite.Reads as Vector_finite
use Rattle.algebra.proofs.vector.Vector.norm.Reads as Vector_norm
use Rattle.algebra.proofs.vector.Vector.normalize.Reads as Vector_normalize

pub record Algebra : Type 0 where
  pub Matrix_diagonal : OneResult Matrix_diagonal.Learnt
  pub Matrix_finite : OneResult Matrix_finite.Learnt
  pub Matrix_flatten : OneResult Matrix_flatten.Learnt
  pub Matrix_invert : OneResult Matrix_invert.Learnt
  pub Matrix_minus : OneResult Matrix_minus.Learnt
  pub Matrix_plus : OneResult Matrix_plus.Learnt
  pub Matrix_times : OneResult Matrix_times.Learnt
  pub Matrix_transpose : OneResult Matrix_transpose.Learnt
  pub Matrix_unflatten : OneResult Matrix_unflatten.Learnt
  pub Quaternion_apply_delta : OneResult Quaternion_apply_delta.Learnt
  pub Quaternion_finite : OneResult Quaternion_finite.Learnt
  pub Quaternion_norm : OneResult Quaternion_norm.Learnt
  pub Quaternion_normalize : OneResult Quaternion_normalize.Learnt
  pub Quaternion_rotate : OneResult Quaternion_rotate.Learnt
  pub Quaternion_times : OneResult Quaternion_times.Learnt
  pub Vector_clip : OneResult Vector_clip.Learnt
  pub Vector_finite : OneResult Vector_finite.Learnt
  pub Vector_norm : OneResult Vector_norm.Learnt
  pub Vector_normalize : OneResult Vector_normalize.Learnt
