-- A line is read on from where the reader stands.
use Rattle.std.proofs.Common.{◌≡◌, ℕ, true, cond, List, [], ◌∷◌, Option, None, Some, Result, Ok, sym, ◌∙◌, ap, subst}
use Rattle.std.specs.Prelude.{MatchResult}
use Rattle.std.specs.Io.KnownBytes.{Consumes, Keeps, IsAtEnd}
use Rattle.script.specs.Readers.{reader_with}
use Rattle.script.specs.ReadLines.{next_line, IsNextLine}
use Rattle.script.specs.declared.reader.Reader.{Reader}
use Rattle.script.specs.declared.reader.TheConstants.Reader.{START}

-- the old bytes from the start of a line are what r and the new ones are
abbrev pub GoesOn : Option (List ℕ) → Reader → Option (List ℕ) → Type 0
GoesOn None r new = Unit {0}
GoesOn (Some xs) r None = ⊥
GoesOn (Some xs) r (Some ys) = next_line START xs ≡ next_line r ys

pub taken : {E : Type 0} (was is : Option (List ℕ)) (item : Result ℕ E) (b : ℕ) → item ≡ Ok b → MatchResult item (λ x. Consumes was is (x ∷ [])) (λ _. Keeps was is) → Consumes was is (b ∷ [])
taken {E} was is item b e h = let P : Result ℕ E → Type 0 = λ i. MatchResult i (λ x. Consumes was is (x ∷ [])) (λ _. Keeps was is) in subst P e h

pub ends : (old was is : Option (List ℕ)) (r : Reader) (b : ℕ) → GoesOn old r was → Consumes was is (b ∷ []) → (reader_with r b).is_ended ≡ true → IsNextLine old (reader_with r b).line is
ends None was is r b h k e = tt
ends (Some xs) None is r b h k e = absurd h
ends (Some xs) (Some ys) None r b h k e = absurd k
ends (Some xs) (Some ys) (Some zs) r b h k e = h ∙ ap (λ l. next_line r l) k ∙ ap (λ c. cond c ((reader_with r b).line, zs) (next_line (reader_with r b) zs)) e

pub ends-last : (old was is : Option (List ℕ)) (r : Reader) → GoesOn old r was → Consumes was is [] × IsAtEnd is → IsNextLine old (reader_with r 10).line is
ends-last None was is r h k = tt
ends-last (Some xs) None is r h k = absurd h
ends-last (Some xs) (Some ys) None r h k = absurd k.0
ends-last (Some xs) (Some ys) (Some zs) r h k = h ∙ ap (λ l. next_line r l) (k.0 ∙ k.1) ∙ ap (λ l. ((reader_with r 10).line, l)) (sym k.1)
