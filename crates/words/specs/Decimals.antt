-- A decimal number, read a byte at a time, and its value: the float nearest to its digits times its power of ten.
use Rattle.std.specs.Prelude.{ℕ, ◌+◌, ◌-◌, ◌*◌, ◌^◌, Bool, true, false, cond, ◌&&◌, ◌||◌, ◌==◌, nat_le, nat_lt, Float, Option, Some, None, Result, Ok, Err}
use Rattle.std.specs.Float.{binary64}
use Rattle.std.specs.Float.Ieee.{round, neg}
use Rattle.words.specs.declared.decimal.Decimal.{Decimal}
use Rattle.words.specs.declared.decimal.NoNumber.{NoNumber}
use Rattle.words.specs.declared.decimal.NoNumber.TheVariants.{NotANumber, TooLong, TooFar}
use Rattle.words.specs.declared.decimal.Stage.{Stage}
use Rattle.words.specs.declared.decimal.Stage.TheVariants.{Start, Signed, Whole, Point, Fraction, Letter, LetterSigned, Power, Other}

-- ---- how far the text is read
abbrev pub after_point : Stage → Stage
after_point Start = Point
after_point Signed = Point
after_point Whole = Fraction
after_point _ = Other

abbrev pub after_letter : Stage → Stage
after_letter Whole = Letter
after_letter Fraction = Letter
after_letter _ = Other

abbrev pub ends : Stage → Bool
ends Whole = true
ends Fraction = true
ends Power = true
ends _ = false

-- ---- what is counted: up to a number that stands for all beyond
abbrev pub count : ℕ → ℕ
count n = cond (nat_lt n 1000) (n + 1) 1000

abbrev pub extended : ℕ → ℕ → ℕ
extended digits digit = cond (nat_lt digits 100000000000000) (digits * 10 + digit) 1000000000000000

abbrev pub raised : ℕ → ℕ → ℕ
raised p digit = cond (nat_lt p 100) (p * 10 + digit) 1000

-- ---- one byte more
-- the value of 0 to 9 and a to f
abbrev pub digit : ℕ → Option ℕ
digit byte = cond (nat_lt byte 48) None (cond (nat_le byte 57) (Some (byte - 48)) (cond (nat_lt byte 97) None (cond (nat_le byte 102) (Some (byte - 87)) None)))

abbrev pub at_stage : Decimal → Stage → Decimal
at_stage d stage = record d { stage = stage }

abbrev pub signed : Decimal → Bool → Decimal
signed d minus = record d { stage = Signed; negative = minus }

abbrev pub power_signed : Decimal → Bool → Decimal
power_signed d minus = record d { stage = LetterSigned; lowered = minus }

abbrev pub with_whole : Decimal → ℕ → Decimal
with_whole d digit = record d { stage = Whole; digits = extended d.digits digit }

abbrev pub with_fraction : Decimal → ℕ → Decimal
with_fraction d digit = record d { stage = Fraction; digits = extended d.digits digit; places = count d.places }

abbrev pub with_power : Decimal → ℕ → Decimal
with_power d digit = record d { stage = Power; power = raised d.power digit }

abbrev signed_at : Decimal → Bool → Stage → Decimal
signed_at d minus Start = signed d minus
signed_at d minus Letter = power_signed d minus
signed_at d minus _ = at_stage d Other

abbrev pub with_sign : Decimal → Bool → Decimal
with_sign d minus = signed_at d minus d.stage

abbrev digit_at : Decimal → ℕ → Stage → Decimal
digit_at d digit Start = with_whole d digit
digit_at d digit Signed = with_whole d digit
digit_at d digit Whole = with_whole d digit
digit_at d digit Point = with_fraction d digit
digit_at d digit Fraction = with_fraction d digit
digit_at d digit Letter = with_power d digit
digit_at d digit LetterSigned = with_power d digit
digit_at d digit Power = with_power d digit
digit_at d digit Other = d

abbrev pub with_digit : Decimal → ℕ → Decimal
with_digit d digit = digit_at d digit d.stage

-- a digit, or the bytes of . e E + -
abbrev pub decimal_with : Decimal → ℕ → Decimal
decimal_with d byte =
    cond (nat_le 48 byte && nat_le byte 57) (with_digit d (byte - 48))
    (cond (byte == 46) (at_stage d (after_point d.stage))
    (cond (byte == 101 || byte == 69) (at_stage d (after_letter d.stage))
    (cond (byte == 43 || byte == 45) (with_sign d (byte == 45))
    (at_stage d Other))))

-- ---- the value
-- how often the digits are multiplied by ten, and how often divided
abbrev pub up : Decimal → ℕ
up d = cond d.lowered 0 d.power

abbrev pub down : Decimal → ℕ
down d = cond d.lowered (d.places + d.power) d.places

abbrev pub signs : Bool → Float → Float
signs negative magnitude = cond negative (neg magnitude) magnitude

-- the float nearest to digits * 10 ^ (up - down)
unfoldable pub scaled : Bool → ℕ → ℕ → ℕ → Result Float NoNumber
scaled negative digits up down =
    cond (nat_lt (down + 22) up) (Err TooFar)
    (cond (nat_lt (up + 22) down) (Err TooFar)
    (cond (nat_le down up) (Ok (round binary64 negative (digits * 10 ^ (up - down)) 1)) (Ok (round binary64 negative digits (10 ^ (down - up))))))

abbrev pub value : Decimal → Result Float NoNumber
value d =
    cond (nat_le 1000000000000000 d.digits) (Err TooLong)
    (cond (nat_le 1000 d.places) (Err TooFar)
    (cond (nat_le 1000 d.power) (Err TooFar)
    (scaled d.negative d.digits (up d) (down d))))

abbrev pub number : Decimal → Result Float NoNumber
number d = cond (ends d.stage) (value d) (Err NotANumber)
