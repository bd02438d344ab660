-- What taking a byte does to the bytes that are still to come, where they are known.
use Rattle.std.specs.Prelude.{ℕ, List, [], ◌∷◌, Option, Result, MatchOption, MatchResult}
use Rattle.std.specs.Io.KnownBytes.{Consumes, Keeps, IsAtEnd}

-- a byte is the first of them, none comes only where none is left, and a failed read takes none
abbrev pub TakesNext : {E : Type 0} → Option (List ℕ) → Option (Result ℕ E) → Option (List ℕ) → Type 0
TakesNext old r new = MatchOption r (Consumes old new [] × IsAtEnd new) (λ item. MatchResult item (λ b. Consumes old new (b ∷ [])) (λ _. Keeps old new))
