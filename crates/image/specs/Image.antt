-- The image of a filter: a list of SIZE numbers, of which the first SETTINGS are the settings. A list of another length is no image: nothing is written to it, and it is read as the fresh house filter; settings of another number are read as the house settings.
use Rattle.std.specs.Prelude.{Bool, cond, List, ℕ, eqb, length, Result, Ok, Err, Float}
use Rattle.std.specs.Float.{binary64}
use Rattle.vqf.specs.Build.{fresh, house}
use Rattle.vqf.specs.declared.types.VQF.{VQF}
use Rattle.vqf.specs.declared.types.Params.{Params}
use Rattle.image.specs.Pack.{pack}
use Rattle.image.specs.declared.pack.WrongLength.{WrongLength}
use Rattle.image.specs.Unpack.{read, read_params}

abbrev pub SIZE : ℕ
SIZE = 170

abbrev pub SETTINGS : ℕ
SETTINGS = 25

abbrev pub fits : List Float → Bool
fits s = eqb (length s) SIZE

-- what is answered where a filter is written to a list
abbrev pub written : List Float → Result (Unit {0}) WrongLength
written s = cond (fits s) (Ok tt) (Err (record {}))

-- what is left of a list where f is written
abbrev pub packed : List Float → VQF → List Float
packed s f = cond (fits s) (pack f) s

unfoldable pub unpack : List Float → VQF
unpack s = cond (fits s) (read s) (fresh binary64)

unfoldable pub params : List Float → Params
params s = cond (eqb (length s) SETTINGS) (read_params s) (house binary64)
