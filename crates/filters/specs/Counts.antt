-- Whether the count of each channel that averages is at least 0.
use Rattle.std.specs.Prelude.{Bool, true, List, ℕ}
use Rattle.std.specs.Float.{binary64}
use Rattle.std.specs.Float.Ieee.{le}
use Rattle.floats.specs.Notation.{zero}
use Rattle.filters.specs.Banks.{every, channel}
use Rattle.filters.specs.declared.channel.Phase.{Phase}
use Rattle.filters.specs.declared.channel.Phase.TheVariants.{Averaging, Running}
use Rattle.filters.specs.declared.channel.Channel.{Channel}

abbrev pub counts_from_zero : Phase → Bool
counts_from_zero (Averaging count sum) = le (zero binary64) count
counts_from_zero (Running s0 s1) = true

unfoldable pub all_from_zero : ℕ → List Channel → Bool
all_from_zero n cs = every n (λ i. counts_from_zero (channel cs i).phase)
