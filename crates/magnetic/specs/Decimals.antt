-- The house settings of the magnetic half by their decimals, in either format.
use Rattle.std.specs.Prelude.{◌≡◌, refl}
use Rattle.std.specs.Float.{Format, binary32, binary64}
use Rattle.std.specs.Float.Ieee.{round, of_bits}
use Rattle.floats.specs.Decimals.{decimal}
use Rattle.magnetic.specs.Setup.{house}

-- "`tau_mag` 9, .., `mag_current_tau` 0.05, `mag_ref_tau` 20, .."
pub house_is : (w : Format) → house w ≡ record {
  tau_mag = decimal w 9 1;
  mag_current_tau = decimal w 5 100;
  mag_ref_tau = decimal w 20 1;
  mag_norm_th = decimal w 1 10;
  mag_dip_th = decimal w 10 1;
  mag_new_time = decimal w 20 1;
  mag_new_first_time = decimal w 5 1;
  mag_new_min_gyr = decimal w 20 1;
  mag_min_undisturbed_time = decimal w 5 10;
  mag_max_rejection_time = decimal w 60 1;
  mag_rejection_factor = decimal w 2 1;
}
unfolding house round of_bits
house_is binary32 = refl
house_is binary64 = refl
