-- The lines of a script whose bytes are known.
use Rattle.std.specs.Prelude.{◌≡◌, ℕ, cond, List, [], ◌∷◌, Option, None, Some, Result, IfSome, IfOk}
use Rattle.script.specs.Readers.{reader_with}
use Rattle.script.specs.declared.line.Line.{Line}
use Rattle.script.specs.declared.reader.Reader.{Reader}
use Rattle.script.specs.declared.reader.TheConstants.Reader.{START}

-- the line that ends first as r reads on, and the bytes behind it; the last line ends where the bytes do
abbrev pub next_line : Reader → List ℕ → Line × List ℕ
next_line r [] = ((reader_with r 10).line, [])
next_line r (b ∷ bs) = cond (reader_with r b).is_ended ((reader_with r b).line, bs) (next_line (reader_with r b) bs)

-- the line comes first of the old bytes, and the new ones are behind it
abbrev pub IsNextLine : Option (List ℕ) → Line → Option (List ℕ) → Type 0
IsNextLine None line new = Unit {0}
IsNextLine (Some xs) line None = ⊥
IsNextLine (Some xs) line (Some ys) = next_line START xs ≡ (line, ys)

abbrev pub YieldsLine : {E : Type 0} → Option (List ℕ) → Option (Result Line E) → Option (List ℕ) → Type 0
YieldsLine old r new = IfSome r (λ item. IfOk item (λ line. IsNextLine old line new))
