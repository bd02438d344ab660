-- A line of a script, read a word at a time.
use Rattle.std.specs.Prelude.{Bool, true, false, cond, ◌||◌, ℕ, ◌+◌, eqb, nat_le, ltb, set, Float, Option, Some, None, option_and_then, Result, Ok, Err}
use Rattle.std.specs.Float.{binary64}
use Rattle.floats.specs.Notation.{zero, one}
use Rattle.words.specs.Words.{short, word_number}
use Rattle.words.specs.declared.word.Word.{Word}
use Rattle.words.specs.declared.decimal.NoNumber.{NoNumber}
use Rattle.words.specs.declared.decimal.NoNumber.TheVariants as no_numbers
use Rattle.script.specs.Names.{DASH, ZERO, ONE, HOUSE, name_of, most}
use Rattle.script.specs.declared.names.Name.{Name}
use Rattle.script.specs.declared.names.Name.TheVariants as names
use Rattle.script.specs.declared.line.Argument.{Argument}
use Rattle.script.specs.declared.line.Argument.TheVariants as arguments
use Rattle.script.specs.declared.line.Line.{Line}
use Rattle.script.specs.declared.line.Fault.{Fault}
use Rattle.script.specs.declared.line.What.{What}
use Rattle.script.specs.declared.line.What.TheVariants as whats
use Rattle.script.specs.declared.line.Place.{Place}
use Rattle.script.specs.declared.line.Place.TheVariants as places

-- ---- what each place asks for; behind `new` come three intervals and the settings, of which the third to the fifth are switches
abbrev pub new_place : ℕ → Place
new_place i = cond (eqb i 1 || eqb i 2) places.NumberOrDash (cond (eqb i 3) places.NumberOrHouse (cond (eqb i 5 || eqb i 6 || eqb i 7) places.Switch places.Number))

abbrev pub place_of : Name → ℕ → Place
place_of names.New i = new_place i
place_of names.Motion i = places.Switch
place_of names.Rest i = places.Switch
place_of names.Dist i = places.Switch
place_of names.Bias i = cond (eqb i 3) places.NumberOrDash places.Number
place_of names.Upd i = cond (eqb i 6) places.NumberOrDash places.Number
place_of _ i = places.Number

-- the place in its line of the word behind the name that comes after i others
abbrev pub position : ℕ → ℕ
position i = cond (ltb i 28) (i + 2) 30

-- ---- what a word is at its place
abbrev pub what_of : NoNumber → What
what_of no_numbers.NotANumber = whats.NoNumber
what_of no_numbers.TooLong = whats.TooLong
what_of no_numbers.TooFar = whats.TooFar

abbrev number_of : Result Float NoNumber → Result Argument What
number_of (Ok x) = Ok (arguments.Number x)
number_of (Err why) = Err (what_of why)

abbrev is_word : ℕ → Option ℕ → Bool
is_word text (Some t) = eqb t text
is_word text None = false

abbrev pub read_at : Place → Word → Result Argument What
read_at places.Number w = number_of (word_number w)
read_at places.NumberOrDash w = cond (is_word DASH (short w)) (Ok arguments.Dash) (number_of (word_number w))
read_at places.NumberOrHouse w = cond (is_word HOUSE (short w)) (Ok arguments.House) (number_of (word_number w))
read_at places.Switch w =
    cond (is_word ZERO (short w)) (Ok (arguments.Number (zero binary64)))
    (cond (is_word ONE (short w)) (Ok (arguments.Number (one binary64))) (Err whats.NoSwitch))

-- ---- one word more
abbrev pub faulty : Line → What → ℕ → Word → Line
faulty l what at w = record l { fault = Some (record { what = what; word = at; text = w.text; length = w.length }) }

abbrev named_by : Line → Word → Option Name → Line
named_by l w (Some name) = record l { name = Some name }
named_by l w None = faulty l whats.NoCall 1 w

abbrev pub named : Line → Word → Line
named l w = named_by l w (option_and_then name_of (short w))

abbrev pub with_value : Line → ℕ → Option Float → Line
with_value l i value = record l { count = i + 1; values = set l.values i value }

abbrev pub with_house : Line → ℕ → Line
with_house l i = record l { count = i + 1; is_house = true; is_closed = true }

-- a dash closes an `upd`
abbrev is_upd : Name → Bool
is_upd names.Upd = true
is_upd _ = false

abbrev pub with_argument : Line → Name → ℕ → Argument → Line
with_argument l name i (arguments.Number x) = with_value l i (Some x)
with_argument l name i arguments.Dash = record (with_value l i None) { is_closed = is_upd name }
with_argument l name i arguments.House = with_house l i

abbrev taken : Line → Name → Word → Result Argument What → Line
taken l name w (Ok a) = with_argument l name l.count a
taken l name w (Err what) = faulty l what (position l.count) w

abbrev pub argued : Line → Name → Word → Line
argued l name w = cond (l.is_closed || nat_le (most name) l.count) (faulty l whats.TooMany (position l.count) w) (taken l name w (read_at (place_of name l.count) w))

-- nothing behind a fault is read
abbrev read : Line → Word → Option Fault → Option Name → Line
read l w (Some fault) name = l
read l w None None = named l w
read l w None (Some name) = argued l name w

abbrev pub line_with : Line → Word → Line
line_with l w = read l w l.fault l.name

-- ---- where a line ends
abbrev pub is_complete : Line → Name → Bool
is_complete l name = l.is_closed || eqb l.count (most name)

abbrev pub missing : Line → Fault
missing l = record { what = whats.Missing; word = position l.count; text = 1; length = 0 }
