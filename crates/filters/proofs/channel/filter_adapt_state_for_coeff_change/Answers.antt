-- An averaging channel is handed back; a running one has the definition's memories.
use Rattle.floats.specs.Prelude.{◌≡◌, ap, sym, ◌∙◌, Float}
use Rattle.filters.specs.Channels.{adapt_phase, filter_adapt_state_for_coeff_change}
use Rattle.filters.specs.declared.coeffs.Coeffs.{Coeffs}
use Rattle.filters.specs.declared.channel.Channel.{Channel}
use Rattle.filters.specs.declared.channel.Phase.TheVariants.{Averaging}
use Rattle.filters.proofs.channel.filter_adapt_state_for_coeff_change.Goals as goal

kept : (y : Float) (old new : Coeffs) (c : Channel) (count sum : Float) → c.phase ≡ Averaging count sum → c ≡ filter_adapt_state_for_coeff_change y old new c
unfolding filter_adapt_state_for_coeff_change
kept y old new c count sum e = λ j. record { phase = (e ∙ sym (ap (adapt_phase y old new) e)) j }

pub returns-in-Averaging : goal.returns-in-Averaging
unfolding filter_adapt_state_for_coeff_change
returns-in-Averaging c = let a = c.args in kept a.last_y a.old a.new a.channel _ _ c.in-Averaging.is

pub returns-in-Running : goal.returns-in-Running
unfolding filter_adapt_state_for_coeff_change
returns-in-Running c = simp c.in-Running.is
