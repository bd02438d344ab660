-- The worked values, computed from the definitions.
use Rattle.floats.specs.Prelude.{◌≡◌, refl, ◌∙◌, ◌^◌, Float, binary64, add, sub, mul, div, neg, lt, eq, le, of_int, round, of_bits, to_bits}
use Rattle.floats.specs.Decimals.{decimal}
use Rattle.floats.specs.Definitions.{magnitude, clamp, larger}
use Rattle.numbers.specs.Root.{root}
use Rattle.numbers.specs.HalfAngles.{largest}
use Rattle.numbers.specs.Arcs.{kasin, near_one, arccosine}
use Rattle.numbers.specs.Sines.{ksin, kcos, reduce, sine_of, cosine_of, sine, cosine, tan}
use Rattle.algebra.specs.Values as algebra
use Rattle.algebra.specs.Vectors as vectors
use Rattle.algebra.specs.Quaternions as quaternions
use Rattle.algebra.specs.Matrices as matrices
use Rattle.filters.specs.Values as filters
use Rattle.filters.specs.Coefficients.{angle, coeffs, filter_coeffs, finite_coeffs}
use Rattle.filters.specs.Channels.{average, filter_channel, filter_adapt_state_for_coeff_change, finite_channel}
use Rattle.filters.specs.Banks.{outputs, channels, filter_vec3, adapted, adapt3, first_numbers, finite_channels}
use Rattle.limits.specs.Answers.{told}
use Rattle.limits.specs.Limits.{all_within, zero_sample}
use Rattle.tilt.specs.Gyr as tilt
use Rattle.tilt.specs.Gyr.{gyr_rest, gyr_filtered, gyr_stirred, finite_gyr_rest, predicted, turned}
use Rattle.tilt.specs.Rest.{squared_deviation, broken}
use Rattle.tilt.specs.Acc.{acc_rest, acc_filtered, counted, finite_acc_rest, inclined, acc_lowpassed, acc_correction, finite_inclination}
use Rattle.tilt.specs.Setup.{fresh_rest, fresh_inclination}
use Rattle.tilt.specs.Setters.{adapted_inclination}
use Rattle.tilt.specs.Asked as asked
use Rattle.inertial.specs.Gyr as gyr
use Rattle.inertial.specs.Acc as acc
use Rattle.inertial.specs.Kalman as kalman
use Rattle.inertial.specs.Setup as inertial
use Rattle.inertial.specs.Setters as setters
use Rattle.vqf.specs.Build.{house, built, fresh}
use Rattle.vqf.specs.Update.{update_gyr, update_gyr_with_ts, update_acc}
use Rattle.vqf.specs.Setters.{set_tau_acc, set_bias_estimate}
use Rattle.vqf.specs.Asked.{quat_6d}
use Rattle.vqf.specs.Worked.{scaled, filled, house_at, level, thrice, most_biased, BiasValues, Worked}

tau_below : (set_tau_acc binary64 (fresh binary64) (decimal binary64 9 1000)).number ≡ 4
unfolding set_tau_acc setters.set_tau_acc fresh built house inertial.new inertial.setup inertial.house le round of_bits
tau_below = refl

tau_taken : (set_tau_acc binary64 (fresh binary64) (decimal binary64 1 100)).number ≡ 0
unfolding set_tau_acc setters.set_tau_acc setters.retuned finite_coeffs adapted_inclination setters.adapted_bias adapted adapt3 first_numbers finite_channels finite_channel filter_adapt_state_for_coeff_change filter_coeffs angle coeffs tan ksin kcos clamp fresh built house inertial.new inertial.setup inertial.house inertial.fresh_state fresh_rest fresh_inclination add sub mul div neg lt eq le round of_bits
tau_taken = refl

biases : BiasValues
unfolding set_bias_estimate setters.set_bias_estimate setters.sigma_or_none_taken setters.with_estimate fresh built house inertial.new inertial.setup inertial.house all_within mul div neg le of_int round of_bits to_bits
biases = record {
  at_clip = ((refl, refl), (refl, refl));
  beyond = ((refl, refl, refl), (refl, refl, refl), (refl, refl, refl));
  minus_zero = (refl, refl);
  at_ninety = ((refl, refl), (refl, refl, refl), (refl, refl), (refl, refl, refl));
  at_least = ((refl, refl), (refl, refl, refl));
  sigma_taken = refl;
  sigma_above = refl;
}

gyr_calls :
    ((update_gyr binary64 (fresh binary64) (vectors.vector (algebra.whole 200) (algebra.whole 0) (algebra.whole 0))).number ≡ 0)
    × ((update_gyr_with_ts binary64 most_biased (thrice (algebra.whole 200)) (algebra.whole 1)).number ≡ 0)
unfolding update_gyr update_gyr_with_ts set_bias_estimate setters.set_bias_estimate setters.sigma_or_none_taken setters.with_estimate gyr.update_gyr_with_ts tilt.update_gyr tilt.gyr_step gyr_rest gyr_filtered gyr_stirred squared_deviation broken finite_gyr_rest predicted turned vectors.norm vectors.finite quaternions.times quaternions.normalize quaternions.norm quaternions.finite filter_vec3 outputs channels filter_channel average finite_channels finite_channel fresh built house inertial.new inertial.setup inertial.house inertial.fresh_state fresh_rest fresh_inclination all_within magnitude root sine cosine sine_of cosine_of reduce ksin kcos clamp add sub mul div neg lt eq le of_int round of_bits
gyr_calls = (refl, refl)

half_angle : largest binary64 ≡ decimal binary64 1745654302800634 (10 ^ 13)
half_angle = computed ∙ nearest
  where
    bits : Float
    bits = of_bits binary64 0x4065_d218_013e_214b

    computed : largest binary64 ≡ bits
    computed = unfold root add mul div of_bits in refl

    nearest : bits ≡ decimal binary64 1745654302800634 (10 ^ 13)
    nearest = unfold round of_bits in refl

-- accelerometer calls, the whole step
acc_calls :
    (let told = update_acc binary64 (fresh binary64) (vectors.vector (algebra.whole 0) (algebra.whole 0) (neg (decimal binary64 981 100))) in
    (told.number ≡ 0)
    × (told.left.inertial.state.inclination.acc_quat ≡ quaternions.quaternion (algebra.whole 0) (algebra.whole 1) (algebra.whole 0) (algebra.whole 0))
    × (quaternions.rotate binary64 (quat_6d binary64 told.left) (vectors.vector (algebra.whole 0) (algebra.whole 0) (algebra.whole 1)) ≡ vectors.vector (algebra.whole 0) (algebra.whole 0) (neg (algebra.whole 1))))
    × ((update_acc binary64 (house_at (scaled (2 ^ 334))) level).number ≡ 0)
    × (update_acc binary64 (house_at (scaled (2 ^ 400))) level ≡ told 5 (house_at (scaled (2 ^ 400))))
    × (update_acc binary64 (house_at (filled (2 ^ 600))) level ≡ told 5 (house_at (filled (2 ^ 600))))
unfolding update_acc asked.quat_6d acc.update_acc acc.acc_step acc.acc_settled acc_rest acc_filtered counted finite_acc_rest inclined acc_lowpassed acc_correction finite_inclination kalman.bias_step kalman.rotation kalman.smoothed kalman.measured kalman.in_motion kalman.raised kalman.widened kalman.innovation kalman.gain kalman.shifted kalman.shrunk kalman.estimated kalman.updated_bias kalman.finite_bias squared_deviation vectors.norm vectors.normalize vectors.finite vectors.clip vectors.clipped quaternions.times quaternions.normalize quaternions.norm quaternions.rotate quaternions.finite matrices.minus matrices.dot matrices.times matrices.diagonal matrices.transpose matrices.flatten matrices.unflatten matrices.finite matrices.adjugate matrices.determinant matrices.divided matrices.invert filter_vec3 outputs channels filter_channel average finite_channels finite_channel fresh built house inertial.new inertial.setup inertial.house inertial.fresh_state fresh_rest fresh_inclination inertial.bias_coefficients all_within zero_sample magnitude root arccosine near_one kasin clamp larger add sub mul div neg lt eq le of_int round of_bits
acc_calls = ((refl, refl, refl), refl, refl, refl)

pub worked : Worked
unfolding update_gyr update_gyr_with_ts update_acc set_tau_acc gyr.update_gyr_with_ts tilt.update_gyr acc.update_acc setters.set_tau_acc all_within zero_sample neg eq le of_int round of_bits to_bits root
worked = record {
  product = (algebra.values).0;
  rotated = (algebra.values).1;
  inverse = (algebra.values).2;
  no_inverse = (algebra.values).3;
  an_inverse = (algebra.values).4;
  large_inverse = (algebra.values).5;
  overflow = (algebra.values).6;
  overflow_below = (algebra.values).7;
  no_number = (algebra.values).8;
  averaged = filters.values;
  gyr_taken = gyr_calls.0;
  gyr_above = refl;
  gyr_nan = refl;
  gyr_fastest = gyr_calls.1;
  largest_half_angle = half_angle;
  no_interval = refl;
  no_sample = refl;
  face_down = acc_calls.0;
  acc_large = acc_calls.1;
  acc_overflow = acc_calls.2;
  acc_no_number = acc_calls.3;
  tau_taken = tau_taken;
  tau_below = tau_below;
  bias = biases;
  root_taken = refl;
  root_of_zero = refl;
}
