-- What `set_bias_estimate` takes for a bias, over the format w. The proof is in proofs/BiasLimit.antt.
use Rattle.std.specs.Prelude.{◌≡◌, not, ◌&&◌, List, T, Float}
use Rattle.std.specs.Float.{Format}
use Rattle.std.specs.Float.Ieee.{le}
use Rattle.algebra.specs.declared.vector.Vector.{Vector}
use Rattle.limits.specs.Limits.{threshold_taken}
use Rattle.limits.specs.BySize.{all_numbers}
use Rattle.tilt.specs.Scalars.{square, radians}
use Rattle.tilt.specs.Gyr.{gyr_stirred}
use Rattle.inertial.specs.Setup.{new}
use Rattle.inertial.specs.Setters.{bias_taken}
use Rattle.inertial.specs.Calls.{Call, run}
use Rattle.inertial.specs.declared.types.InertialParams.{InertialParams}
use Rattle.tilt.specs.declared.types.RestParams.{RestParams}

pub record BiasLimit (w : Format) : Type 0 where
  -- "beyond `bias_clip` times PI/180, worked out as the gyro step works it out": a bias is taken exactly where none of its components is a NaN and
  -- the gyro step would find a filtered rate of the same numbers quiet, were its squared deviation d below the threshold
  pub as_the_gyro_step :
      (p : RestParams) (v : Vector) (d : Float)
      → T (threshold_taken w p.bias_clip) → T (not (le (square w (radians w p.rest_th_gyr)) d))
      → bias_taken w p.bias_clip v ≡ (all_numbers v && not (gyr_stirred w p d v))
  -- the clip is that of the construction: no call changes it
  pub kept : (p : InertialParams) (gyr_ts acc_ts : Float) (calls : List Call) → (run w (new w p gyr_ts acc_ts) calls).params.rest.bias_clip ≡ p.rest.bias_clip
