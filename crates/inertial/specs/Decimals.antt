-- The house settings of the inertial half by their decimals, in either format, and the numbers of the bias that these give.
use Rattle.std.specs.Prelude.{◌≡◌, refl, true}
use Rattle.std.specs.Float.{Format, binary32, binary64}
use Rattle.std.specs.Float.Ieee.{add, mul, div, of_int, round, of_bits}
use Rattle.floats.specs.Decimals.{decimal}
use Rattle.algebra.specs.Values.{whole}
use Rattle.inertial.specs.Setup.{house, bias_coefficients}

-- "`tau_acc` 3, .., all three switches on, `bias_sigma_init` 0.5, .."
pub house_is : (w : Format) → house w ≡ record {
  tau_acc = decimal w 3 1;
  rest = record {
    rest_bias_est_enabled = true;
    mag_dist_rejection_enabled = true;
    bias_clip = decimal w 2 1;
    rest_min_t = decimal w 15 10;
    rest_filter_tau = decimal w 5 10;
    rest_th_gyr = decimal w 2 1;
    rest_th_acc = decimal w 5 10;
  };
  bias = record {
    motion_bias_est_enabled = true;
    bias_sigma_init = decimal w 5 10;
    bias_forgetting_time = decimal w 100 1;
    bias_sigma_motion = decimal w 1 10;
    bias_vertical_forgetting_factor = decimal w 1 10000;
    bias_sigma_rest = decimal w 3 100;
  };
}
unfolding house round of_bits
house_is binary32 = refl
house_is binary64 = refl

-- "In exact arithmetic the house gives `bias_p0` 2500, `bias_v` 0.01, `bias_motion_w` 1000100, `bias_rest_w` 8109": so does binary64, 0.01 being the value nearest to it
pub house_bias :
    let interval = decimal binary64 1 100 in
    let k = bias_coefficients binary64 (house binary64).bias interval in
    (k.bias_p0 ≡ whole 2500) × (k.bias_v ≡ interval) × (k.bias_motion_w ≡ whole 1000100) × (k.bias_rest_w ≡ whole 8109)
unfolding house bias_coefficients add mul div of_int round of_bits
house_bias = (refl, refl, refl, refl)
