-- A run of numbers written over a list from a place on. What would fall past the list's end is left out, so the length stays.
use Rattle.std.specs.Prelude.{List, [], ◌∷◌, ℕ, zero, suc, Float}

-- xs over l, from the place n on
unfoldable pub put : List Float → List Float → ℕ → List Float
put [] l n = l
put (x ∷ xs) [] n = []
put (x ∷ xs) (y ∷ l) zero = x ∷ put xs l zero
put (x ∷ xs) (y ∷ l) (suc n) = y ∷ put (x ∷ xs) l n
