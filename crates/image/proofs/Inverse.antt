-- `unpack` undoes `pack`, field by field: a flag, a phase and a bank of channels are read as they were written, and any other number is itself.
use Rattle.std.specs.Prelude.{Option, None, Some}
use Rattle.floats.specs.Prelude.{◌≡◌, refl, ap, ◌∙◌, Bool, true, false, List, [], ◌∷◌, ◌++◌, sym, ℕ, zero, suc, ◌≤◌, le_of_eq, arith, length, take, eq, ne, of_bits}
use Rattle.std.proofs.Math.Seq.{take-suc}
use Rattle.std.proofs.lemmas.List.{take_all}
use Rattle.filters.specs.Banks.{channel}
use Rattle.filters.specs.declared.channel.Phase.{Phase}
use Rattle.filters.specs.declared.channel.Phase.TheVariants.{Averaging, Running}
use Rattle.filters.specs.declared.channel.Channel.{Channel}
use Rattle.filters.specs.declared.coeffs.Coeffs.{Coeffs}
use Rattle.vqf.specs.declared.types.VQF.{VQF}
use Rattle.image.specs.Marks.{flag, on, marked}
use Rattle.image.specs.Marks as marks
use Rattle.image.specs.Pack as to
use Rattle.image.specs.Unpack as of
use Rattle.image.specs.Image.{unpack}
use Rattle.image.specs.Inverse.{FullBanks, Inverse}

-- ---- a flag and a channel are read as they were written
on_flag : (b : Bool) → on (flag b) ≡ b
unfolding on flag of_bits eq ne
on_flag true = refl
on_flag false = refl

channel_marked : (c : Channel) → marks.channel (marked c).0 (marked c).1 (marked c).2 ≡ c
unfolding marks.channel marked on of_bits eq ne
channel_marked c = go c.phase
  where
    go : (p : Phase) → let m = marked (record { phase = p }) in marks.channel m.0 m.1 m.2 ≡ record { phase = p }
    go (Averaging n s) = refl
    go (Running a b) = refl

-- ---- banks
abbrev first : ℕ → List Channel → List Channel
first zero c = []
first (suc n) c = first n c ++ channel c n ∷ []

first_is : (n : ℕ) (c : List Channel) → n ≤ length c → first n c ≡ take n c
first_is zero c h = refl
first_is (suc n) c h = ap (λ (t : List Channel). t ++ channel c n ∷ []) (first_is n c (omega arith)) ∙ sym (take-suc c n _ (omega arith))

-- what is read of n channels that were written, and they themselves
abbrev again : ℕ → List Channel → List Channel
again zero c = []
again (suc n) c = again n c ++ marks.channel (marked (channel c n)).0 (marked (channel c n)).1 (marked (channel c n)).2 ∷ []

bank : (n : ℕ) (c : List Channel) → length c ≡ n → again n c ≡ c
bank n c h = same n ∙ first_is n c (omega arith) ∙ take_all n c (le_of_eq h)
  where
    same : (k : ℕ) → again k c ≡ first k c
    same zero = refl
    same (suc k) = λ j. same k j ++ channel_marked (channel c k) j ∷ []

-- ---- the filter of the norm and dip
smoothed : (s : Option Coeffs) → of.smoothing (to.smoothing s) 0 ≡ s
unfolding flag on of_bits eq ne
smoothed None = refl
smoothed (Some k) = refl

pub read_pack : (f : VQF) → FullBanks f → of.read (to.pack f) ≡ f
unfolding to.pack to.all_params to.all_coeffs to.all_inclination to.all_bias to.all_rest to.all_magnetic_state to.inertial_params to.magnetic_params to.inertial_coeffs to.magnetic_coeffs to.inclination to.bias to.rest to.magnetic_state to.channels of.inertial_params of.magnetic_params of.inertial_coeffs of.magnetic_coeffs of.inclination of.bias of.rest of.magnetic_state of.channels
read_pack f h = λ j. record {
  inertial = record {
    params = record {
      tau_acc = f.inertial.params.tau_acc;
      rest = record {
        rest_bias_est_enabled = on_flag f.inertial.params.rest.rest_bias_est_enabled j;
        mag_dist_rejection_enabled = on_flag f.inertial.params.rest.mag_dist_rejection_enabled j;
        bias_clip = f.inertial.params.rest.bias_clip;
        rest_min_t = f.inertial.params.rest.rest_min_t;
        rest_filter_tau = f.inertial.params.rest.rest_filter_tau;
        rest_th_gyr = f.inertial.params.rest.rest_th_gyr;
        rest_th_acc = f.inertial.params.rest.rest_th_acc;
      };
      bias = record {
        motion_bias_est_enabled = on_flag f.inertial.params.bias.motion_bias_est_enabled j;
        bias_sigma_init = f.inertial.params.bias.bias_sigma_init;
        bias_forgetting_time = f.inertial.params.bias.bias_forgetting_time;
        bias_sigma_motion = f.inertial.params.bias.bias_sigma_motion;
        bias_vertical_forgetting_factor = f.inertial.params.bias.bias_vertical_forgetting_factor;
        bias_sigma_rest = f.inertial.params.bias.bias_sigma_rest;
      };
    };
    coeffs = f.inertial.coeffs;
    state = record {
      inclination = record {
        gyr_quat = f.inertial.state.inclination.gyr_quat;
        acc_quat = f.inertial.state.inclination.acc_quat;
        last_acc_lp = f.inertial.state.inclination.last_acc_lp;
        acc_lp_state = bank 3 f.inertial.state.inclination.acc_lp_state h.acc_lp j;
        last_acc_corr_angular_rate = f.inertial.state.inclination.last_acc_corr_angular_rate;
      };
      bias = record {
        bias = f.inertial.state.bias.bias;
        bias_p = f.inertial.state.bias.bias_p;
        motion_bias_est_rlp_state = bank 9 f.inertial.state.bias.motion_bias_est_rlp_state h.rlp j;
        motion_bias_est_bias_lp_state = bank 2 f.inertial.state.bias.motion_bias_est_bias_lp_state h.bias_lp j;
      };
      rest = record {
        rest_detected = on_flag f.inertial.state.rest.rest_detected j;
        rest_last_squared_deviations = f.inertial.state.rest.rest_last_squared_deviations;
        rest_t = f.inertial.state.rest.rest_t;
        rest_last_gyr_lp = f.inertial.state.rest.rest_last_gyr_lp;
        rest_gyr_lp_state = bank 3 f.inertial.state.rest.rest_gyr_lp_state h.rest_gyr_lp j;
        rest_last_acc_lp = f.inertial.state.rest.rest_last_acc_lp;
        rest_acc_lp_state = bank 3 f.inertial.state.rest.rest_acc_lp_state h.rest_acc_lp j;
      };
    };
  };
  magnetic = record {
    params = f.magnetic.params;
    coeffs = record {
      mag_ts = f.magnetic.coeffs.mag_ts;
      k_mag = f.magnetic.coeffs.k_mag;
      k_mag_ref = f.magnetic.coeffs.k_mag_ref;
      mag_norm_dip_lp = smoothed f.magnetic.coeffs.mag_norm_dip_lp j;
    };
    state = record {
      heading = f.magnetic.state.heading;
      field = record {
        mag_dist_detected = on_flag f.magnetic.state.field.mag_dist_detected j;
        mag_ref_norm = f.magnetic.state.field.mag_ref_norm;
        mag_ref_dip = f.magnetic.state.field.mag_ref_dip;
        mag_undisturbed_t = f.magnetic.state.field.mag_undisturbed_t;
        mag_reject_t = f.magnetic.state.field.mag_reject_t;
        mag_candidate_norm = f.magnetic.state.field.mag_candidate_norm;
        mag_candidate_dip = f.magnetic.state.field.mag_candidate_dip;
        mag_candidate_t = f.magnetic.state.field.mag_candidate_t;
        mag_norm_dip = f.magnetic.state.field.mag_norm_dip;
        mag_norm_dip_lp_state = bank 2 f.magnetic.state.field.mag_norm_dip_lp_state h.norm_dip_lp j;
      };
    };
  };
}

pub unpack_pack : Inverse
unfolding to.pack to.all_params to.all_coeffs to.all_inclination to.all_bias to.all_rest to.all_magnetic_state to.inertial_params to.magnetic_params to.inertial_coeffs to.magnetic_coeffs to.inclination to.bias to.rest to.magnetic_state to.channels unpack
unpack_pack f h = read_pack f h
