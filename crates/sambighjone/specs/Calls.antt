-- What a call of the library gives: a number, and what it leaves of the numbers that it is lent. Where a list has another length than the call asks for, the number is `wrong_length`, and nothing is changed.
use Rattle.std.specs.Prelude.{Bool, cond, ◌&&◌, ◌||◌, List, [], ◌∷◌, ℕ, eqb, ltb, length, Option, None, Some, Float}
use Rattle.std.specs.Float.{binary64}
use Rattle.std.specs.Float.Ieee.{eq}
use Rattle.floats.specs.Notation.{zero, one}
use Rattle.algebra.specs.declared.quaternion.Quaternion.{Quaternion}
use Rattle.algebra.specs.declared.vector.Vector.{Vector}
use Rattle.inertial.specs.declared.asked.BiasEstimate.{BiasEstimate}
use Rattle.tilt.specs.declared.types.Deviations.{Deviations}
use Rattle.limits.specs.Answers.{Told, told}
use Rattle.vqf.specs.Asked as filter
use Rattle.vqf.specs.Build.{fresh, new}
use Rattle.vqf.specs.Update.{update}
use Rattle.vqf.specs.Told.{ToldAll}
use Rattle.vqf.specs.declared.types.VQF.{VQF}
use Rattle.vqf.specs.declared.types.Params.{Params}
use Rattle.image.specs.Pack.{pack, all_params}
use Rattle.image.specs.Image.{SETTINGS, fits, unpack, params}
use Rattle.image.specs.Unpack.{number, vector}

-- the library's own numbers start at 100; the filter's stay below
abbrev pub wrong_length : ℕ
wrong_length = 100

-- ---- a call that changes the filter
-- what it leaves of the image s
unfoldable pub kept : List Float → Told VQF → Told (List Float)
kept s t = cond (fits s) (told t.number (pack t.left)) (told wrong_length s)

unfoldable pub fed : (VQF → Told VQF) → List Float → Told (List Float)
fed step s = kept s (step (unpack s))

-- a switch is 0 or 1; any other number is 4, and leaves the image as it is
unfoldable pub switched : (VQF → Bool → Told VQF) → ℕ → List Float → Told (List Float)
switched set on s = cond (ltb 1 on) (told 4 s) (fed (λ f. set f (eqb on 1)) s)

-- ---- the constructor, from its settings
-- a flag among them is 0.0, of either sign, or 1.0
abbrev pub a_flag : Float → Bool
a_flag x = eq x (zero binary64) || eq x (one binary64)

unfoldable pub flags_taken : List Float → Bool
flags_taken settings = a_flag (number settings 1) && a_flag (number settings 2) && a_flag (number settings 8)

unfoldable pub constructed : Float → Float → Float → List Float → Told VQF
constructed gyr_ts acc_ts mag_ts settings =
    cond (flags_taken settings) (new binary64 gyr_ts (Some acc_ts) (Some mag_ts) (Some (params settings))) (told 4 (fresh binary64))

unfoldable pub built : Float → Float → Float → List Float → List Float → Told (List Float)
built gyr_ts acc_ts mag_ts settings s =
    cond (eqb (length settings) SETTINGS) (fed (λ f. constructed gyr_ts acc_ts mag_ts settings) s) (told wrong_length s)

-- ---- the three steps of an update
-- 6 numbers, of the gyroscope and the accelerometer, or 9, with the magnetometer's
abbrev pub sampled : List Float → Bool
sampled samples = eqb (length samples) 6 || eqb (length samples) 9

unfoldable pub magnetometer : List Float → Option Vector
magnetometer samples = cond (eqb (length samples) 9) (Some (vector samples 6)) None

-- the first of three numbers that is not 0
unfoldable pub first_refusal : ℕ → ℕ → ℕ → ℕ
first_refusal gyr acc mag = cond (eqb gyr 0) (cond (eqb acc 0) mag acc) gyr

abbrev pub stepped : VQF → List Float → ToldAll
stepped f samples = update binary64 f (vector samples 0) (vector samples 3) (magnetometer samples)

abbrev pub three_numbers : ToldAll → List ℕ
three_numbers t = t.gyr ∷ t.acc ∷ t.mag ∷ []

abbrev pub summed_up : ToldAll → Told VQF
summed_up t = told (first_refusal t.gyr t.acc t.mag) t.left

-- it leaves the image, and the three numbers
abbrev pub all_kept : ToldAll → Told (List Float × List ℕ)
all_kept t = told (summed_up t).number (pack t.left, three_numbers t)

unfoldable pub updated : List Float → List Float → List ℕ → Told (List Float × List ℕ)
updated samples s answers =
    cond (fits s && eqb (length answers) 3 && sampled samples) (all_kept (stepped (unpack s) samples)) (told wrong_length (s, answers))

-- ---- a call that asks
unfoldable pub given : {A : Type 0} → List A → List A → Told (List A)
given xs out = cond (eqb (length out) (length xs)) (told 0 xs) (told wrong_length out)

unfoldable pub asked : {A : Type 0} → (VQF → List A) → List Float → List A → Told (List A)
asked ask s out = cond (fits s) (given (ask (unpack s)) out) (told wrong_length out)

abbrev pub four : Quaternion → List Float
four q = q.0 ∷ q.1 ∷ q.2 ∷ q.3 ∷ []

abbrev pub bias_and_sigma : BiasEstimate → List Float
bias_and_sigma b = b.bias.0 ∷ b.bias.1 ∷ b.bias.2 ∷ b.sigma ∷ []

abbrev pub both : Deviations → List Float
both d = d.0 ∷ d.1 ∷ []

abbrev pub mag_ref : VQF → List Float
mag_ref f = filter.mag_ref_norm f ∷ filter.mag_ref_dip f ∷ []

-- in the order in which an image has them
abbrev pub settings : Params → List Float
settings p = all_params p.inertial p.magnetic

-- no is 0, yes is 1
abbrev pub yes_or_no : Bool → ℕ
yes_or_no b = cond b 1 0
