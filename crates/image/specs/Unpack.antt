-- A list of numbers as a filter. Any list is read: past its end is a NaN, and a mark is read as `Marks` says.
use Rattle.std.specs.Prelude.{cond, List, [], ◌∷◌, ◌++◌, ℕ, zero, suc, ◌+◌, ◌*◌, get_or, Option, None, Some, Float}
use Rattle.std.specs.Float.{nan}
use Rattle.algebra.specs.declared.matrix.Matrix.{Matrix}
use Rattle.algebra.specs.declared.quaternion.Quaternion.{Quaternion}
use Rattle.algebra.specs.declared.vector.Vector.{Vector}
use Rattle.filters.specs.declared.channel.Channel.{Channel}
use Rattle.filters.specs.declared.coeffs.Coeffs.{Coeffs}
use Rattle.inertial.specs.declared.types.InertialParams.{InertialParams}
use Rattle.inertial.specs.declared.types.InertialCoefficients.{InertialCoefficients}
use Rattle.tilt.specs.declared.types.Inclination.{Inclination}
use Rattle.inertial.specs.declared.types.Bias.{Bias}
use Rattle.tilt.specs.declared.types.Rest.{Rest}
use Rattle.inertial.specs.declared.types.Inertial.{Inertial}
use Rattle.magnetic.specs.declared.types.MagneticParams.{MagneticParams}
use Rattle.magnetic.specs.declared.types.MagneticCoefficients.{MagneticCoefficients}
use Rattle.magnetic.specs.declared.types.MagneticState.{MagneticState}
use Rattle.magnetic.specs.declared.types.Magnetic.{Magnetic}
use Rattle.vqf.specs.declared.types.VQF.{VQF}
use Rattle.vqf.specs.declared.types.Params.{Params}
use Rattle.image.specs.Marks.{on, channel}

abbrev pub number : List Float → ℕ → Float
number s i = get_or s i nan

-- ---- at a place i
abbrev pub vector : List Float → ℕ → Vector
vector s i = record { 0 = number s i; 1 = number s (i + 1); 2 = number s (i + 2) }

abbrev pub quaternion : List Float → ℕ → Quaternion
quaternion s i = record { 0 = number s i; 1 = number s (i + 1); 2 = number s (i + 2); 3 = number s (i + 3) }

abbrev pub matrix : List Float → ℕ → Matrix
matrix s i =
    record { m00 = number s i; m01 = number s (i + 1); m02 = number s (i + 2); m10 = number s (i + 3); m11 = number s (i + 4); m12 = number s (i + 5); m20 = number s (i + 6); m21 = number s (i + 7); m22 = number s (i + 8) }

abbrev pub coeffs : List Float → ℕ → Coeffs
coeffs s i = record { b0 = number s i; b1 = number s (i + 1); b2 = number s (i + 2); a1 = number s (i + 3); a2 = number s (i + 4) }

abbrev pub smoothing : List Float → ℕ → Option Coeffs
smoothing s i = cond (on (number s i)) (Some (coeffs s (i + 1))) None

abbrev pub channel_at : List Float → ℕ → Channel
channel_at s i = channel (number s i) (number s (i + 1)) (number s (i + 2))

-- n channels, one after the other
unfoldable pub channels : ℕ → List Float → ℕ → List Channel
channels zero s i = []
channels (suc n) s i = channels n s i ++ channel_at s (i + 3 * n) ∷ []

-- ---- settings
unfoldable pub inertial_params : List Float → InertialParams
inertial_params s = record {
  tau_acc = number s 0;
  rest = record {
    rest_bias_est_enabled = on (number s 1);
    mag_dist_rejection_enabled = on (number s 2);
    bias_clip = number s 3;
    rest_min_t = number s 4;
    rest_filter_tau = number s 5;
    rest_th_gyr = number s 6;
    rest_th_acc = number s 7;
  };
  bias = record {
    motion_bias_est_enabled = on (number s 8);
    bias_sigma_init = number s 9;
    bias_forgetting_time = number s 10;
    bias_sigma_motion = number s 11;
    bias_vertical_forgetting_factor = number s 12;
    bias_sigma_rest = number s 13;
  };
}

unfoldable pub magnetic_params : List Float → MagneticParams
magnetic_params s = record {
  tau_mag = number s 14;
  mag_current_tau = number s 15;
  mag_ref_tau = number s 16;
  mag_norm_th = number s 17;
  mag_dip_th = number s 18;
  mag_new_time = number s 19;
  mag_new_first_time = number s 20;
  mag_new_min_gyr = number s 21;
  mag_min_undisturbed_time = number s 22;
  mag_max_rejection_time = number s 23;
  mag_rejection_factor = number s 24;
}

abbrev pub read_params : List Float → Params
read_params s = record { inertial = inertial_params s; magnetic = magnetic_params s }

-- ---- coefficients
unfoldable pub inertial_coeffs : List Float → InertialCoefficients
inertial_coeffs s = record {
  gyr_ts = number s 25;
  acc_ts = number s 26;
  acc_lp = coeffs s 27;
  rest_gyr_lp = coeffs s 32;
  rest_acc_lp = coeffs s 37;
  bias = record {
    bias_p0 = number s 42;
    bias_v = number s 43;
    bias_motion_w = number s 44;
    bias_vertical_w = number s 45;
    bias_rest_w = number s 46;
  };
}

unfoldable pub magnetic_coeffs : List Float → MagneticCoefficients
magnetic_coeffs s = record { mag_ts = number s 47; k_mag = number s 48; k_mag_ref = number s 49; mag_norm_dip_lp = smoothing s 50 }

-- ---- the state
unfoldable pub inclination : List Float → Inclination
inclination s = record {
  gyr_quat = quaternion s 56;
  acc_quat = quaternion s 60;
  last_acc_lp = vector s 64;
  acc_lp_state = channels 3 s 68;
  last_acc_corr_angular_rate = number s 67;
}

unfoldable pub bias : List Float → Bias
bias s = record {
  bias = vector s 77;
  bias_p = matrix s 80;
  motion_bias_est_rlp_state = channels 9 s 89;
  motion_bias_est_bias_lp_state = channels 2 s 116;
}

unfoldable pub rest : List Float → Rest
rest s = record {
  rest_detected = on (number s 122);
  rest_last_squared_deviations = record { 0 = number s 123; 1 = number s 124 };
  rest_t = number s 125;
  rest_last_gyr_lp = vector s 126;
  rest_gyr_lp_state = channels 3 s 132;
  rest_last_acc_lp = vector s 129;
  rest_acc_lp_state = channels 3 s 141;
}

unfoldable pub magnetic_state : List Float → MagneticState
magnetic_state s = record {
  heading = record {
    delta = number s 150;
    k_mag_init = number s 151;
    last_mag_dis_angle = number s 152;
    last_mag_corr_angular_rate = number s 153;
  };
  field = record {
    mag_dist_detected = on (number s 154);
    mag_ref_norm = number s 155;
    mag_ref_dip = number s 156;
    mag_undisturbed_t = number s 157;
    mag_reject_t = number s 158;
    mag_candidate_norm = number s 159;
    mag_candidate_dip = number s 160;
    mag_candidate_t = number s 161;
    mag_norm_dip = record { 0 = number s 162; 1 = number s 163 };
    mag_norm_dip_lp_state = channels 2 s 164;
  };
}

-- ---- the whole
abbrev pub inertial : List Float → Inertial
inertial s = record {
  params = inertial_params s;
  coeffs = inertial_coeffs s;
  state = record { inclination = inclination s; bias = bias s; rest = rest s };
}

abbrev pub magnetic : List Float → Magnetic
magnetic s = record { params = magnetic_params s; coeffs = magnetic_coeffs s; state = magnetic_state s }

abbrev pub read : List Float → VQF
read s = record { inertial = inertial s; magnetic = magnetic s }
