-- What is told of a line that is no call.
use Rattle.std.specs.Prelude.{ℕ, List, cond, ltb, ◌&&◌, codes}
use Rattle.script.specs.declared.line.What.{What}
use Rattle.script.specs.declared.line.What.TheVariants.{NoCall, NoNumber, TooLong, TooFar, NoSwitch, TooMany, Missing}

abbrev pub what_text : What → List ℕ
what_text NoCall = codes "no call has this name"
what_text NoNumber = codes "no number; a number is 16 lower-case hex digits or a decimal such as -9.81"
what_text TooLong = codes "more than 15 digits; write such a number in 16 hex digits"
what_text TooFar = codes "a power of ten beyond 22; write such a number in 16 hex digits"
what_text NoSwitch = codes "no switch; a switch is 0 or 1"
what_text TooMany = codes "one word too many"
what_text Missing = codes "missing"

-- a byte that can be printed, else a question mark
abbrev pub shown : ℕ → ℕ
shown byte = cond (ltb 32 byte && ltb byte 127) byte 63
