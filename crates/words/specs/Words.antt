-- A word, read a byte at a time.
use Rattle.std.specs.Prelude.{ℕ, ◌+◌, ◌*◌, false, cond, ◌==◌, from_bits, nat_le, nat_lt, Float, Option, Some, None, Result, Ok}
use Rattle.std.specs.Float.{binary64}
use Rattle.words.specs.declared.decimal.NoNumber.{NoNumber}
use Rattle.words.specs.declared.decimal.Stage.TheVariants.{Start}
use Rattle.words.specs.declared.word.Word.{Word}
use Rattle.words.specs.Decimals.{count, digit, decimal_with, number}

-- the first seven bytes, behind a 1
abbrev pub packed : ℕ → ℕ → ℕ
packed text byte = cond (nat_lt text 0x0100_0000_0000_0000) (text * 256 + byte) text

abbrev pub shifted : ℕ → ℕ → ℕ
shifted bits digit = cond (nat_lt bits 0x1000_0000_0000_0000) (bits * 16 + digit) bits

abbrev pub spelled : Option ℕ → Option ℕ → Option ℕ
spelled (Some bits) (Some digit) = Some (shifted bits digit)
spelled (Some bits) None = None
spelled None digit = None

-- no byte yet
abbrev pub start : Word
start = record {
  text = 1;
  length = 0;
  bits = Some 0;
  decimal = record { stage = Start; negative = false; digits = 0; places = 0; power = 0; lowered = false };
}

abbrev pub word_with : Word → ℕ → Word
word_with w byte = record {
  text = packed w.text byte;
  length = count w.length;
  bits = spelled w.bits (digit byte);
  decimal = decimal_with w.decimal byte;
}

-- the text of a word of at most seven bytes
abbrev pub short : Word → Option ℕ
short w = cond (nat_le w.length 7) (Some w.text) None

abbrev by_bits : Word → Option ℕ → Result Float NoNumber
by_bits w (Some bits) = cond (w.length == 16) (Ok (from_bits binary64 bits)) (number w.decimal)
by_bits w None = number w.decimal

-- sixteen digits of base 16 are the bits of a number
abbrev pub word_number : Word → Result Float NoNumber
word_number w = by_bits w w.bits
