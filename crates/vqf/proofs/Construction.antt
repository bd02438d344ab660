-- Construction answers 0 or 4, leaves the fresh house filter beside a 4, and nothing but finite numbers.
-- Each follows from the one test of `new`, whichever way it turns out.
use Rattle.floats.specs.Prelude.{◌≡◌, refl, ◌⊎◌, inl, inr, Bool, true, false, cond, T, Float, Format, binary32, binary64, neg, le, of_bits, Option}
use Rattle.floats.specs.Definitions.{larger}
use Rattle.floats.specs.Tests.{both, keeps}
use Rattle.limits.specs.Answers.{Told, told}
use Rattle.limits.specs.Limits.{tau_or_off_taken}
use Rattle.tilt.specs.Setup.{rest_params_taken}
use Rattle.inertial.specs.Setup as inertial
use Rattle.inertial.proofs.Construction as inertial_built
use Rattle.magnetic.specs.Setup as magnetic
use Rattle.magnetic.proofs.Construction as magnetic_built
use Rattle.vqf.specs.Build.{house_interval, house, interval_or, settings_or_house, taken, built, fresh, new}
use Rattle.vqf.specs.AllFinite.{all_finite}
use Rattle.vqf.specs.Construction.{all_taken, Construction}
use Rattle.vqf.specs.Types.{Params, VQF}

abbrev answer : Bool → VQF → VQF → Told VQF
answer b f g = cond b (told 0 f) (told 4 g)

of_number : (b : Bool) (f g : VQF) → ((b ≡ true) × ((answer b f g).number ≡ 0)) ⊎ ((b ≡ false) × ((answer b f g).number ≡ 4))
of_number true f g = inl (refl, refl)
of_number false f g = inr (refl, refl)

beside_four : (b : Bool) (f g : VQF) → (answer b f g).number ≡ 4 → (answer b f g).left ≡ g
beside_four true f g e = cc
beside_four false f g e = refl

taken_gives : (b : Bool) → T b → (f g : VQF) → answer b f g ≡ told 0 f
taken_gives true t f g = refl
taken_gives false t f g = absurd t

pub house_within : (w : Format) → T (taken w (house w) (house_interval w) (house_interval w) (house_interval w))
unfolding house taken inertial.house inertial.taken rest_params_taken inertial.bias_params_taken magnetic.house magnetic.taken magnetic.taus_taken magnetic.thresholds_taken magnetic.times_taken tau_or_off_taken larger neg le of_bits
house_within binary32 = tt
house_within binary64 = tt

built_finite : (w : Format) (p : Params) (gyr_ts acc_ts mag_ts : Float) → T (taken w p gyr_ts acc_ts mag_ts) → T (all_finite (built w p gyr_ts acc_ts mag_ts))
unfolding taken built all_finite
built_finite w p gyr_ts acc_ts mag_ts t =
    let h = simp both at t in
    simp both (inertial_built.new_finite w p.inertial gyr_ts acc_ts h.0, magnetic_built.new_finite w p.magnetic mag_ts h.1)

zero_or_four : (w : Format) (gyr_ts : Float) (acc_ts mag_ts : Option Float) (given : Option Params)
    → let b = all_taken w gyr_ts acc_ts mag_ts given in
    let n = (new w gyr_ts acc_ts mag_ts given).number in
    ((b ≡ true) × (n ≡ 0)) ⊎ ((b ≡ false) × (n ≡ 4))
unfolding new
zero_or_four w gyr_ts acc_ts mag_ts given = of_number (all_taken w gyr_ts acc_ts mag_ts given) _ _

pub construction : Construction
unfolding new fresh
construction = record {
  zero_or_four = zero_or_four;
  fresh_beside_four = λ w gyr_ts acc_ts mag_ts given. beside_four (all_taken w gyr_ts acc_ts mag_ts given) _ _;
  house_taken = λ w. taken_gives (taken w (house w) (house_interval w) (house_interval w) (house_interval w)) (house_within w) _ _;
  leaves_finite = λ w gyr_ts acc_ts mag_ts given.
      keeps (λ (t : Told VQF). T (all_finite t.left)) (all_taken w gyr_ts acc_ts mag_ts given) _ _
      (built_finite w (settings_or_house w given) gyr_ts (interval_or acc_ts gyr_ts) (interval_or mag_ts gyr_ts))
      (built_finite w (house w) _ _ _ (house_within w));
}
