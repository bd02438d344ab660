-- How a flag, a phase and an absent filter stand in an image: as 0.0 or 1.0. An image that no `pack` made may have any number there: 0.0 of either sign is read as off, averaging and absent, any other number, a NaN too, as on, running and present.
use Rattle.std.specs.Prelude.{Bool, cond, Float}
use Rattle.std.specs.Float.{binary64}
use Rattle.std.specs.Float.Ieee.{ne}
use Rattle.floats.specs.Notation.{zero, one}
use Rattle.filters.specs.Channels.{averaging, running}
use Rattle.filters.specs.declared.channel.Phase.{Phase}
use Rattle.filters.specs.declared.channel.Phase.TheVariants.{Averaging, Running}
use Rattle.filters.specs.declared.channel.Channel.{Channel}
use Rattle.image.specs.declared.marks.Mark.{Mark}

unfoldable pub flag : Bool → Float
flag b = cond b (one binary64) (zero binary64)

unfoldable pub on : Float → Bool
on x = ne x (zero binary64)

-- a channel as its phase and its two numbers
abbrev of_phase : Phase → Mark
of_phase (Averaging n s) = record { 0 = zero binary64; 1 = n; 2 = s }
of_phase (Running a b) = record { 0 = one binary64; 1 = a; 2 = b }

unfoldable pub marked : Channel → Mark
marked c = of_phase c.phase

unfoldable pub channel : Float → Float → Float → Channel
channel m a b = cond (on m) (running a b) (averaging a b)
