-- The words of a script that are no numbers, and how many words follow a name.
use Rattle.std.specs.Prelude.{cond, ℕ, eqb, List, fold, codes, Option, Some, None}
use Rattle.words.specs.Words.{packed}
use Rattle.script.specs.declared.names.Name.{Name}
use Rattle.script.specs.declared.names.Name.TheVariants.{New, Gyr, GyrTs, Acc, Mag, Upd, TauAcc, TauMag, Motion, Rest, Dist, Th, Bias, MagRef, Reset, State, Get, Sqrt, Sin, Cos, Tan, Exp, Asin, Acos, Atan2}

-- a word of at most seven bytes as a number: its bytes behind a 1
abbrev pub spelt : List ℕ → ℕ
spelt bytes = fold packed 1 bytes

abbrev pub DASH : ℕ
DASH = spelt (codes "-")

abbrev pub ZERO : ℕ
ZERO = spelt (codes "0")

abbrev pub ONE : ℕ
ONE = spelt (codes "1")

abbrev pub HOUSE : ℕ
HOUSE = spelt (codes "house")

-- how a name is written
abbrev pub text : Name → List ℕ
text New = codes "new"
text Gyr = codes "gyr"
text GyrTs = codes "gyrts"
text Acc = codes "acc"
text Mag = codes "mag"
text Upd = codes "upd"
text TauAcc = codes "tau_acc"
text TauMag = codes "tau_mag"
text Motion = codes "motion"
text Rest = codes "rest"
text Dist = codes "dist"
text Th = codes "th"
text Bias = codes "bias"
text MagRef = codes "magref"
text Reset = codes "reset"
text State = codes "state"
text Get = codes "get"
text Sqrt = codes "sqrt"
text Sin = codes "sin"
text Cos = codes "cos"
text Tan = codes "tan"
text Exp = codes "exp"
text Asin = codes "asin"
text Acos = codes "acos"
text Atan2 = codes "atan2"

unfoldable pub name_of : ℕ → Option Name
name_of word =
    cond (eqb word (spelt (text New))) (Some New)
    (cond (eqb word (spelt (text Gyr))) (Some Gyr)
    (cond (eqb word (spelt (text GyrTs))) (Some GyrTs)
    (cond (eqb word (spelt (text Acc))) (Some Acc)
    (cond (eqb word (spelt (text Mag))) (Some Mag)
    (cond (eqb word (spelt (text Upd))) (Some Upd)
    (cond (eqb word (spelt (text TauAcc))) (Some TauAcc)
    (cond (eqb word (spelt (text TauMag))) (Some TauMag)
    (cond (eqb word (spelt (text Motion))) (Some Motion)
    (cond (eqb word (spelt (text Rest))) (Some Rest)
    (cond (eqb word (spelt (text Dist))) (Some Dist)
    (cond (eqb word (spelt (text Th))) (Some Th)
    (cond (eqb word (spelt (text Bias))) (Some Bias)
    (cond (eqb word (spelt (text MagRef))) (Some MagRef)
    (cond (eqb word (spelt (text Reset))) (Some Reset)
    (cond (eqb word (spelt (text State))) (Some State)
    (cond (eqb word (spelt (text Get))) (Some Get)
    (cond (eqb word (spelt (text Sqrt))) (Some Sqrt)
    (cond (eqb word (spelt (text Sin))) (Some Sin)
    (cond (eqb word (spelt (text Cos))) (Some Cos)
    (cond (eqb word (spelt (text Tan))) (Some Tan)
    (cond (eqb word (spelt (text Exp))) (Some Exp)
    (cond (eqb word (spelt (text Asin))) (Some Asin)
    (cond (eqb word (spelt (text Acos))) (Some Acos)
    (cond (eqb word (spelt (text Atan2))) (Some Atan2) None))))))))))))))))))))))))

-- how many words follow a name at most
abbrev pub most : Name → ℕ
most New = 28
most Gyr = 3
most GyrTs = 4
most Acc = 3
most Mag = 3
most Upd = 9
most TauAcc = 1
most TauMag = 1
most Motion = 1
most Rest = 1
most Dist = 1
most Th = 2
most Bias = 4
most MagRef = 2
most Reset = 0
most State = 0
most Get = 0
most Sqrt = 1
most Sin = 1
most Cos = 1
most Tan = 1
most Exp = 1
most Asin = 1
most Acos = 1
most Atan2 = 2
