-- A filter as a list of numbers: each stored number as itself, in the order of the fields, each flag and phase as its mark. The settings come first.
use Rattle.std.specs.Prelude.{Bool, true, false, List, [], ◌∷◌, ◌++◌, ℕ, zero as none, suc, Option, None, Some, Float}
use Rattle.std.specs.Float.{binary64}
use Rattle.floats.specs.Notation.{zero}
use Rattle.filters.specs.Banks.{channel}
use Rattle.filters.specs.declared.channel.Channel.{Channel}
use Rattle.filters.specs.declared.coeffs.Coeffs.{Coeffs}
use Rattle.inertial.specs.declared.types.InertialParams.{InertialParams}
use Rattle.inertial.specs.declared.types.InertialCoefficients.{InertialCoefficients}
use Rattle.tilt.specs.declared.types.Inclination.{Inclination}
use Rattle.inertial.specs.declared.types.Bias.{Bias}
use Rattle.tilt.specs.declared.types.Rest.{Rest}
use Rattle.magnetic.specs.declared.types.MagneticParams.{MagneticParams}
use Rattle.magnetic.specs.declared.types.MagneticCoefficients.{MagneticCoefficients}
use Rattle.magnetic.specs.declared.types.MagneticState.{MagneticState}
use Rattle.vqf.specs.declared.types.VQF.{VQF}
use Rattle.image.specs.Marks.{flag, marked}
use Rattle.image.specs.declared.marks.Mark.{Mark}

-- ---- banks of channels
abbrev pub triple : Mark → List Float
triple m = m.0 ∷ m.1 ∷ m.2 ∷ []

abbrev pub one_channel : List Channel → ℕ → List Float
one_channel c i = triple (marked (channel c i))

-- the first n channels of c
unfoldable pub channels : ℕ → List Channel → List Float
channels none c = []
channels (suc n) c = channels n c ++ one_channel c n

-- ---- settings
unfoldable pub inertial_params : InertialParams → List Float
inertial_params p =
    p.tau_acc ∷ flag p.rest.rest_bias_est_enabled ∷ flag p.rest.mag_dist_rejection_enabled ∷ p.rest.bias_clip ∷
    p.rest.rest_min_t ∷ p.rest.rest_filter_tau ∷ p.rest.rest_th_gyr ∷ p.rest.rest_th_acc ∷
    flag p.bias.motion_bias_est_enabled ∷ p.bias.bias_sigma_init ∷ p.bias.bias_forgetting_time ∷
    p.bias.bias_sigma_motion ∷ p.bias.bias_vertical_forgetting_factor ∷ p.bias.bias_sigma_rest ∷ []

unfoldable pub magnetic_params : MagneticParams → List Float
magnetic_params p =
    p.tau_mag ∷ p.mag_current_tau ∷ p.mag_ref_tau ∷ p.mag_norm_th ∷ p.mag_dip_th ∷ p.mag_new_time ∷
    p.mag_new_first_time ∷ p.mag_new_min_gyr ∷ p.mag_min_undisturbed_time ∷ p.mag_max_rejection_time ∷
    p.mag_rejection_factor ∷ []

-- ---- coefficients
unfoldable pub inertial_coeffs : InertialCoefficients → List Float
inertial_coeffs k =
    k.gyr_ts ∷ k.acc_ts ∷ k.acc_lp.b0 ∷ k.acc_lp.b1 ∷ k.acc_lp.b2 ∷ k.acc_lp.a1 ∷ k.acc_lp.a2 ∷
    k.rest_gyr_lp.b0 ∷ k.rest_gyr_lp.b1 ∷ k.rest_gyr_lp.b2 ∷ k.rest_gyr_lp.a1 ∷ k.rest_gyr_lp.a2 ∷
    k.rest_acc_lp.b0 ∷ k.rest_acc_lp.b1 ∷ k.rest_acc_lp.b2 ∷ k.rest_acc_lp.a1 ∷ k.rest_acc_lp.a2 ∷
    k.bias.bias_p0 ∷ k.bias.bias_v ∷ k.bias.bias_motion_w ∷ k.bias.bias_vertical_w ∷ k.bias.bias_rest_w ∷ []

-- five zeros where the filter is absent
abbrev present : Option Coeffs → Bool
present None = false
present (Some k) = true

abbrev coeffs_of : Option Coeffs → Coeffs
coeffs_of None = record { b0 = zero binary64; b1 = zero binary64; b2 = zero binary64; a1 = zero binary64; a2 = zero binary64 }
coeffs_of (Some k) = k

abbrev pub smoothing : Option Coeffs → List Float
smoothing s =
    let k = coeffs_of s in
    flag (present s) ∷ k.b0 ∷ k.b1 ∷ k.b2 ∷ k.a1 ∷ k.a2 ∷ []

unfoldable pub magnetic_coeffs : MagneticCoefficients → List Float
magnetic_coeffs k = k.mag_ts ∷ k.k_mag ∷ k.k_mag_ref ∷ smoothing k.mag_norm_dip_lp

-- ---- the state, without its channels
unfoldable pub inclination : Inclination → List Float
inclination s =
    s.gyr_quat.0 ∷ s.gyr_quat.1 ∷ s.gyr_quat.2 ∷ s.gyr_quat.3 ∷ s.acc_quat.0 ∷ s.acc_quat.1 ∷
    s.acc_quat.2 ∷ s.acc_quat.3 ∷ s.last_acc_lp.0 ∷ s.last_acc_lp.1 ∷ s.last_acc_lp.2 ∷
    s.last_acc_corr_angular_rate ∷ []

unfoldable pub bias : Bias → List Float
bias s =
    s.bias.0 ∷ s.bias.1 ∷ s.bias.2 ∷ s.bias_p.m00 ∷ s.bias_p.m01 ∷ s.bias_p.m02 ∷ s.bias_p.m10 ∷
    s.bias_p.m11 ∷ s.bias_p.m12 ∷ s.bias_p.m20 ∷ s.bias_p.m21 ∷ s.bias_p.m22 ∷ []

unfoldable pub rest : Rest → List Float
rest s =
    flag s.rest_detected ∷ s.rest_last_squared_deviations.0 ∷ s.rest_last_squared_deviations.1 ∷ s.rest_t ∷
    s.rest_last_gyr_lp.0 ∷ s.rest_last_gyr_lp.1 ∷ s.rest_last_gyr_lp.2 ∷ s.rest_last_acc_lp.0 ∷
    s.rest_last_acc_lp.1 ∷ s.rest_last_acc_lp.2 ∷ []

unfoldable pub magnetic_state : MagneticState → List Float
magnetic_state s =
    s.heading.delta ∷ s.heading.k_mag_init ∷ s.heading.last_mag_dis_angle ∷ s.heading.last_mag_corr_angular_rate ∷
    flag s.field.mag_dist_detected ∷ s.field.mag_ref_norm ∷ s.field.mag_ref_dip ∷ s.field.mag_undisturbed_t ∷
    s.field.mag_reject_t ∷ s.field.mag_candidate_norm ∷ s.field.mag_candidate_dip ∷ s.field.mag_candidate_t ∷
    s.field.mag_norm_dip.0 ∷ s.field.mag_norm_dip.1 ∷ []

-- ---- each part with its channels
unfoldable pub all_params : InertialParams → MagneticParams → List Float
all_params i m = inertial_params i ++ magnetic_params m

unfoldable pub all_coeffs : InertialCoefficients → MagneticCoefficients → List Float
all_coeffs i m = inertial_coeffs i ++ magnetic_coeffs m

unfoldable pub all_inclination : Inclination → List Float
all_inclination s = inclination s ++ channels 3 s.acc_lp_state

unfoldable pub all_bias : Bias → List Float
all_bias s = (bias s ++ channels 9 s.motion_bias_est_rlp_state) ++ channels 2 s.motion_bias_est_bias_lp_state

unfoldable pub all_rest : Rest → List Float
all_rest s = (rest s ++ channels 3 s.rest_gyr_lp_state) ++ channels 3 s.rest_acc_lp_state

unfoldable pub all_magnetic_state : MagneticState → List Float
all_magnetic_state s = magnetic_state s ++ channels 2 s.field.mag_norm_dip_lp_state

-- ---- the whole
unfoldable pub pack : VQF → List Float
pack f =
    let i = f.inertial in
    let m = f.magnetic in
    ((((all_params i.params m.params ++ all_coeffs i.coeffs m.coeffs)
    ++ all_inclination i.state.inclination)
    ++ all_bias i.state.bias)
    ++ all_rest i.state.rest)
    ++ all_magnetic_state m.state
