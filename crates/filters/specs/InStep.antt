-- The source keeps one count for a bank; here each channel has its own. Channels that start alike stay alike, whatever their samples, so a bank's counts are equal and its averaging ends at once.
-- The proof is in proofs/InStep.antt.
use Rattle.std.specs.Prelude.{◌≡◌, Float}
use Rattle.std.specs.Float.{Format}
use Rattle.filters.specs.Channels.{fresh, filter_adapt_state_for_coeff_change, filter_channel}
use Rattle.filters.specs.declared.coeffs.Coeffs.{Coeffs}
use Rattle.filters.specs.declared.channel.Phase.{Phase}
use Rattle.filters.specs.declared.channel.Phase.TheVariants.{Averaging, Running}
use Rattle.filters.specs.declared.channel.Channel.{Channel}

-- both averaging, with one count, or both running
abbrev pub Alike : Phase → Phase → Type 0
Alike (Averaging n s) (Averaging m t) = n ≡ m
Alike (Averaging n s) (Running a b) = ⊥
Alike (Running a b) (Averaging n s) = ⊥
Alike (Running a b) (Running c d) = Unit {0}

abbrev pub InStep : Channel → Channel → Type 0
InStep c d = Alike c.phase d.phase

pub record StayInStep : Type 0 where
  pub start : InStep fresh fresh
  pub filter : (w : Format) (tau ts : Float) (k : Coeffs) (x y : Float) (c d : Channel) → InStep c d → InStep (filter_channel w x tau ts k c).channel (filter_channel w y tau ts k d).channel
  pub adapt : (x y : Float) (old new : Coeffs) (c d : Channel) → InStep c d → InStep (filter_adapt_state_for_coeff_change x old new c) (filter_adapt_state_for_coeff_change y old new d)
