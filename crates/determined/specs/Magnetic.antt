-- Every public function of `magnetic`: the magnetic half.
use Rattle.determined.specs.OneResult.{OneResult}
use Rattle.magnetic.proofs.field.field_step.Reads as field_step
use Rattle.magnetic.proofs.field.finite_field.Reads as finite_field
use Rattle.magnetic.proofs.heading.corrected.Reads as corrected
use Rattle.magnetic.proofs.heading.finite_heading.Reads as finite_heading
use Rattle.magnetic.proofs.heading.rejected.Reads as rejected
use Rattle.magnetic.proofs.heading.wrapped.Reads as wrapped
use Rattle.magnetic.proofs.setup.restarted_field.Reads as restarted_field
use Rattle.magnetic.proofs.setup.taken.Reads as taken
use Rattle.magnetic.proofs.types.Magnetic.new.Reads as Magnetic_new
use Rattle.magnetic.proofs.types.Magnetic.reset_state.Reads as Magnetic_reset_state
use Rattle.magnetic.proofs.types.Magnetic.restarted.Reads as Magnetic_restarted
use Rattle.magnetic.proofs.types.Magnetic.set_mag_ref.Reads as Magnetic_set_mag_ref
use Rattle.magnetic.proofs.types.Magnetic.set_tau_mag.Reads as Magnetic_set_tau_mag
use Rattle.magnetic.proofs.types.Magnetic.update_mag.Reads as Magnetic_update_mag
use Rattle.magnetic.proofs.types.MagneticParams.house.Reads as MagneticParams_house
use Rattle.magnetic.proofs.types.MagneticState.fresh.Reads as MagneticState_fresh

pub record Magnetic : Type 0 where
  pub field_step : OneResult field_step.Learnt
  pub finite_field : OneResult finite_field.Learnt
  pub corrected : OneResult corrected.Learnt
  pub finite_heading : OneResult finite_heading.Learnt
  pub rejected : OneResult rejected.Learnt
  pub wrapped : OneResult wrapped.Learnt
  pub restarted_field : OneResult restarted_field.Learnt
  pub taken : OneResult taken.Learnt
  pub Magnetic_new : OneResult Magnetic_new.Learnt
  pub Magnetic_reset_state : OneResult Magnetic_reset_state.Learnt
  pub Magnetic_restarted : OneResult Magnetic_restarted.Learnt
  pub Magnetic_set_mag_ref : OneResult Magnetic_set_mag_ref.Learnt
  pub Magnetic_set_tau_mag : OneResult Magnetic_set_tau_mag.Learnt
  pub Magnetic_update_mag : OneResult Magnetic_update_mag.Learnt
  pub MagneticParams_house : OneResult MagneticParams_house.Learnt
  pub MagneticState_fresh : OneResult MagneticState_fresh.Learnt
