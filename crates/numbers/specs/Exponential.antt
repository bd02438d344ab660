-- The exponential: a fixed order of binary64 operations. At another format the result is rounded once more.
use Rattle.std.specs.Prelude.{◌*◌, ◌%◌, ◌^◌, cond, from_bits, to_bits, Float}
use Rattle.std.specs.Float.{nan, Format, binary64}
use Rattle.std.specs.Float.Ieee.{neg}
use Rattle.floats.specs.Notation.{rounded, narrow}
use Rattle.floats.specs.Definitions.{clamp}
use Rattle.numbers.specs.Constants.{𝟎, 𝟏, between, EXP_LIMIT, EXP_FLOOR, LOG2E, L1, L2, EXP_MAGIC, E0, E1, E2, E3, E4, E5, E6, E7, E8, E9}
open rounded binary64 use {◌⊕◌, ◌⊖◌, ◌⊗◌, ◌⊘◌}

-- e ^ r, for an r within ±0.3466
unfoldable pub kexp : Float → Float
kexp r =
    let z = r ⊗ r in
    let w = z ⊗ z in
    let a = (E0 ⊕ r ⊗ E1) ⊕ z ⊗ (E2 ⊕ r ⊗ E3) in
    let b = (E4 ⊕ r ⊗ E5) ⊕ z ⊗ (E6 ⊕ r ⊗ E7) in
    let c = E8 ⊕ r ⊗ E9 in
    let q = a ⊕ w ⊗ (b ⊕ w ⊗ c) in
    𝟏 ⊕ (r ⊕ z ⊗ q)

-- 2 ^ k, for a t of k + EXP_MAGIC and a k from -1022 to 1023: the last eleven bits of t are k + 1023, and they become the exponent's field
unfoldable pub power : Float → Float
power t = from_bits binary64 (to_bits binary64 t % 2 ^ 11 * 2 ^ 52)

-- k is the whole number nearest to x * log2 e, so that e ^ x is e ^ r * 2 ^ k
unfoldable pub exponential : Float → Float
exponential x =
    let t = x ⊗ LOG2E ⊕ EXP_MAGIC in
    let k = t ⊖ EXP_MAGIC in
    let r = x ⊖ k ⊗ L1 ⊖ k ⊗ L2 in
    cond (between x (neg EXP_FLOOR) 𝟎) (clamp (kexp r ⊗ power t) 𝟎 𝟏)
    (cond (between x (neg EXP_LIMIT) 𝟎) 𝟎 nan)

abbrev pub exp : Format → Float → Float
exp w x = narrow w (exponential x)
