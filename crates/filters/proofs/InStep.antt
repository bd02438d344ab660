-- What becomes of a channel's phase and of its count is read off the phase and the count alone.
use Rattle.floats.specs.Prelude.{refl, subst, Bool, true, false, cond, Float, Format, binary64, add, mul, le}
use Rattle.floats.specs.Notation.{one, narrow}
use Rattle.filters.specs.Channels.{averaging, filter_initial_state, filter_adapt_state_for_coeff_change, filter_step, average, filter_channel}
use Rattle.filters.specs.InStep.{Alike, InStep, StayInStep}
use Rattle.filters.specs.Types.{Coeffs, Phase}
use Rattle.filters.specs.declared.channel.Phase.TheVariants.{Averaging, Running}

module _ (w : Format) (tau ts : Float) (k : Coeffs) (x y : Float) where
  -- the end of averaging is read off the count alone
  ended : (n s t u v : Float) (b : Bool) → InStep (cond b (filter_initial_state u k) (averaging n s)) (cond b (filter_initial_state v k) (averaging n t))
  unfolding filter_initial_state
  ended n s t u v true = tt
  ended n s t u v false = refl

  averaged : (n s t : Float) → InStep (average w x tau ts k n s).channel (average w y tau ts k n t).channel
  unfolding average
  averaged n s t = let m = add binary64 n (one binary64) in ended m _ _ _ _ (le tau (mul w (narrow w m) ts))

  phases : (p q : Phase) → Alike p q → InStep (filter_channel w x tau ts k (record { phase = p })).channel (filter_channel w y tau ts k (record { phase = q })).channel
  unfolding filter_channel filter_step
  phases (Averaging n s) (Averaging m t) e = subst (λ (m : Float). InStep (average w x tau ts k n s).channel (average w y tau ts k m t).channel) e (averaged n s t)
  phases (Averaging n s) (Running a b) e = absurd e
  phases (Running a b) (Averaging n s) e = absurd e
  phases (Running a b) (Running c d) e = tt

module _ (x y : Float) (old new : Coeffs) where
  adapted : (p q : Phase) → Alike p q → InStep (filter_adapt_state_for_coeff_change x old new (record { phase = p })) (filter_adapt_state_for_coeff_change y old new (record { phase = q }))
  unfolding filter_adapt_state_for_coeff_change
  adapted (Averaging n s) (Averaging m t) e = e
  adapted (Averaging n s) (Running a b) e = absurd e
  adapted (Running a b) (Averaging n s) e = absurd e
  adapted (Running a b) (Running c d) e = tt

pub stay_in_step : StayInStep
stay_in_step = record {
  start = refl;
  filter = λ w tau ts k x y c d. phases w tau ts k x y c.phase d.phase;
  adapt = λ x y old new c d. adapted x y old new c.phase d.phase;
}
