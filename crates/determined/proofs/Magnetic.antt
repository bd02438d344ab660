-- Both results are the definition's.
use Rattle.determined.specs.Magnetic.{Magnetic}
use Rattle.determined.proofs.OneResult.{call, equal}

pub magnetic : Magnetic
magnetic = record {
  field_step = λ κs a z z' e e'. equal;
  finite_field = λ κs a z z' e e'. equal;
  corrected = λ κs a z z' e e'. equal;
  finite_heading = λ κs a z z' e e'. equal;
  rejected = λ κs a z z' e e'. equal;
  wrapped = λ κs a z z' e e'. equal;
  restarted_field = λ κs a z z' e e'. equal;
  taken = λ κs a z z' e e'. equal;
  Magnetic_new = λ κs a z z' e e'. equal;
  Magnetic_reset_state = λ κs a z z' e e'. equal;
  Magnetic_restarted = λ κs a z z' e e'. equal;
  Magnetic_set_mag_ref = λ κs a z z' e e'. call;
  Magnetic_set_tau_mag = λ κs a z z' e e'. call;
  Magnetic_update_mag = λ κs a z z' e e'. call;
  MagneticParams_house = λ κs a z z' e e'. equal;
  MagneticState_fresh = λ κs a z z' e e'. equal;
}
