-- Both results are the definition's.
use Rattle.determined.specs.Tilt.{Tilt}
use Rattle.determined.proofs.OneResult.{gyr_call, equal}

pub tilt : Tilt
tilt = record {
  acc_rest = λ κs a z z' e e'. equal;
  inclined = λ κs a z z' e e'. equal;
  radians = λ κs a z z' e e'. equal;
  quat_6d = λ κs a z z' e e'. equal;
  relative_rest_deviations = λ κs a z z' e e'. equal;
  BeforeGyr_update = λ κs a z z' e e'. gyr_call;
  gyr_rest = λ κs a z z' e e'. equal;
  predicted = λ κs a z z' e e'. equal;
  broken = λ κs a z z' e e'. equal;
  squared_deviation = λ κs a z z' e e'. equal;
  adapted_inclination = λ κs a z z' e e'. equal;
  rest_params_taken = λ κs a z z' e e'. equal;
  Inclination_fresh = λ κs a z z' e e'. equal;
  Rest_fresh = λ κs a z z' e e'. equal;
}
