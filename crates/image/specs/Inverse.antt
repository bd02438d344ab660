-- `unpack` undoes `pack`. A bank of channels is a list here, so the law asks that each has its length, as it has in every filter of the code (`round_trip` of src/lib.rt).
-- The proof is in proofs/Inverse.antt.
use Rattle.std.specs.Prelude.{◌≡◌, length}
use Rattle.vqf.specs.declared.types.VQF.{VQF}
use Rattle.image.specs.Pack.{pack}
use Rattle.image.specs.Image.{unpack}

-- each bank has its length
pub record FullBanks (f : VQF) : Type 0 where
  pub acc_lp : length f.inertial.state.inclination.acc_lp_state ≡ 3
  pub rlp : length f.inertial.state.bias.motion_bias_est_rlp_state ≡ 9
  pub bias_lp : length f.inertial.state.bias.motion_bias_est_bias_lp_state ≡ 2
  pub rest_gyr_lp : length f.inertial.state.rest.rest_gyr_lp_state ≡ 3
  pub rest_acc_lp : length f.inertial.state.rest.rest_acc_lp_state ≡ 3
  pub norm_dip_lp : length f.magnetic.state.field.mag_norm_dip_lp_state ≡ 2

abbrev pub Inverse : Type 0
Inverse = (f : VQF) → FullBanks f → unpack (pack f) ≡ f
