-- What a new time constant does to the inclination.
use Rattle.filters.specs.Banks.{adapt3}
use Rattle.filters.specs.declared.coeffs.Coeffs.{Coeffs}
use Rattle.tilt.specs.declared.types.Inclination.{Inclination}

unfoldable pub adapted_inclination : Inclination → Coeffs → Coeffs → Inclination
adapted_inclination i old new =
    record {
      gyr_quat = i.gyr_quat;
      acc_quat = i.acc_quat;
      last_acc_lp = i.last_acc_lp;
      acc_lp_state = adapt3 i.last_acc_lp old new i.acc_lp_state;
      last_acc_corr_angular_rate = i.last_acc_corr_angular_rate;
    }
