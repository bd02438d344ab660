-- One channel of the filter. Samples, answers, tau and ts are of the format w; coefficients, counts, sums and memories are binary64 whatever w is.
use Rattle.std.specs.Prelude.{Bool, ◌&&◌, cond, Float}
use Rattle.std.specs.Float.{Format, binary64}
use Rattle.std.specs.Float.Ieee.{mul, le}
use Rattle.std.specs.Float.Ieee.Scale.{finite}
use Rattle.floats.specs.Notation.{rounded, zero, one, wide, narrow}
use Rattle.filters.specs.declared.coeffs.Coeffs.{Coeffs}
use Rattle.filters.specs.declared.channel.Phase.{Phase}
use Rattle.filters.specs.declared.channel.Phase.TheVariants.{Averaging, Running}
use Rattle.filters.specs.declared.channel.Channel.{Channel}
use Rattle.filters.specs.declared.channel.Filtered.{Filtered}
open rounded binary64 use {◌⊕◌, ◌⊖◌, ◌⊗◌, ◌⊘◌}

abbrev pub averaging : Float → Float → Channel
averaging count sum = record { phase = Averaging count sum }

abbrev pub running : Float → Float → Channel
running s0 s1 = record { phase = Running s0 s1 }

abbrev pub fresh : Channel
fresh = averaging (zero binary64) (zero binary64)

unfoldable pub filter_initial_state : Float → Coeffs → Channel
filter_initial_state x0 k = running (wide x0 ⊗ (one binary64 ⊖ k.b0)) (wide x0 ⊗ (k.b2 ⊖ k.a2))

-- nothing changes while averaging
abbrev pub adapt_phase : Float → Coeffs → Coeffs → Phase → Phase
adapt_phase last_y old new (Averaging count sum) = Averaging count sum
adapt_phase last_y old new (Running s0 s1) =
    Running
    (s0 ⊕ (old.b0 ⊖ new.b0) ⊗ wide last_y)
    (s1 ⊕ (old.b1 ⊖ new.b1 ⊖ old.a1 ⊕ new.a1) ⊗ wide last_y)

unfoldable pub filter_adapt_state_for_coeff_change : Float → Coeffs → Coeffs → Channel → Channel
filter_adapt_state_for_coeff_change last_y old new c = record { phase = adapt_phase last_y old new c.phase }

module _ (w : Format) where
  unfoldable pub filter_step : Float → Coeffs → Float → Float → Filtered
  filter_step x k s0 s1 =
      let y = k.b0 ⊗ wide x ⊕ s0 in
      record { y = narrow w y; channel = running (k.b1 ⊗ wide x ⊖ k.a1 ⊗ y ⊕ s1) (k.b2 ⊗ wide x ⊖ k.a2 ⊗ y) }

  -- where the samples fill tau the channel runs from the next one on, and this one's answer is still the average
  unfoldable pub average : Float → Float → Float → Coeffs → Float → Float → Filtered
  average x tau ts k count sum =
      let n = count ⊕ one binary64 in
      let s = sum ⊕ wide x in
      let y = narrow w (s ⊘ n) in
      record { y = y; channel = cond (le tau (mul w (narrow w n) ts)) (filter_initial_state y k) (averaging n s) }

  abbrev pub filter_phase : Float → Float → Float → Coeffs → Phase → Filtered
  filter_phase x tau ts k (Averaging count sum) = average x tau ts k count sum
  filter_phase x tau ts k (Running s0 s1) = filter_step x k s0 s1

  unfoldable pub filter_channel : Float → Float → Float → Coeffs → Channel → Filtered
  filter_channel x tau ts k c = filter_phase x tau ts k c.phase

-- ---- what is stored
abbrev first : Phase → Float
first (Averaging count sum) = count
first (Running s0 s1) = s0

-- the count, or the first memory
unfoldable pub first_number : Channel → Float
first_number c = first c.phase

abbrev finite_phase : Phase → Bool
finite_phase (Averaging count sum) = finite count && finite sum
finite_phase (Running s0 s1) = finite s0 && finite s1

unfoldable pub finite_channel : Channel → Bool
finite_channel c = finite_phase c.phase
