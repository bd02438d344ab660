-- Steel cannot touch the tilt: what the magnetic calls, the magnetic settings and the magnetometer's interval do not reach.
use Rattle.std.specs.Prelude.{◌≡◌, List, Option, Float}
use Rattle.std.specs.Float.{Format}
use Rattle.limits.specs.Answers.{told}
use Rattle.inertial.specs.declared.types.InertialParams.{InertialParams}
use Rattle.vqf.specs.Build.{interval_or, settings_or_house, new}
use Rattle.vqf.specs.Calls.{Call, run}
use Rattle.vqf.specs.Struck.{struck, plain_answers}
use Rattle.vqf.specs.declared.types.VQF.{VQF}
use Rattle.vqf.specs.declared.types.Params.{Params}

-- the filters whose tilt, bias, covariance and rest flag agree, with all else that the inertial half holds; "Tilt means `acc_quat` and `gyr_quat`"
pub record SameTilt (f g : VQF) : Type 0 where
  pub acc_quat : f.inertial.state.inclination.acc_quat ≡ g.inertial.state.inclination.acc_quat
  pub gyr_quat : f.inertial.state.inclination.gyr_quat ≡ g.inertial.state.inclination.gyr_quat
  pub bias : f.inertial.state.bias.bias ≡ g.inertial.state.bias.bias
  pub covariance : f.inertial.state.bias.bias_p ≡ g.inertial.state.bias.bias_p
  pub at_rest : f.inertial.state.rest.rest_detected ≡ g.inertial.state.rest.rest_detected
  pub inertial : f.inertial ≡ g.inertial

module _ (w : Format) where
  -- f is what an accepted construction gives, with these intervals (absent ones filled in) and these non-magnetic settings, among them the
  -- disturbance switch, "which also starts the gyro rest filter and so must agree"; the magnetic ones may be any that are taken
  pub record Built (gyr_ts acc_ts : Float) (p : InertialParams) (f : VQF) : Type 0 where
    pub acc_given : Option Float
    pub mag_given : Option Float
    pub settings : Option Params
    pub accepted : new w gyr_ts acc_given mag_given settings ≡ told 0 f
    pub same_acc_ts : interval_or acc_given gyr_ts ≡ acc_ts
    pub same_settings : (settings_or_house w settings).inertial ≡ p

  -- calls cs on f and calls ds on g end in the same tilt, and are answered alike where they are not magnetic
  pub record Alike (f : VQF) (cs : List Call) (g : VQF) (ds : List Call) : Type 0 where
    pub tilt : SameTilt (run w f cs) (run w g ds)
    pub answers : plain_answers w f cs ≡ plain_answers w g ds

  -- two filters built alike but for what is magnetic, and two lists of calls alike but for what is magnetic: what they end in and what they
  -- answer is alike, and is that of the calls with everything magnetic struck out
  abbrev pub Apart : Type 0
  Apart =
      (gyr_ts acc_ts : Float) (p : InertialParams) (f g : VQF)
      → Built gyr_ts acc_ts p f
      → Built gyr_ts acc_ts p g
      → (cs ds : List Call)
      → struck cs ≡ struck ds
      → Alike f cs g ds × Alike f cs f (struck cs) × Alike g ds g (struck ds)
