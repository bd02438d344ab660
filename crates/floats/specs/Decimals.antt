-- The decimal constants of all definitions, each once, by its bits in either format; and that each is the value nearest to its decimal.
use Rattle.std.specs.Prelude.{◌≡◌, refl, false, List, [], ◌∷◌, map, ℕ, ◌^◌, Float}
use Rattle.std.specs.Float.{Format, binary32, binary64}
use Rattle.std.specs.Float.Ieee.{round, of_bits}
use Rattle.floats.specs.Notation.{constant, zero, half, one, two, pi}

abbrev pub three : Format → Float
three = constant 0x4040_0000 0x4008_0000_0000_0000

abbrev pub five : Format → Float
five = constant 0x40a0_0000 0x4014_0000_0000_0000

abbrev pub nine : Format → Float
nine = constant 0x4110_0000 0x4022_0000_0000_0000

abbrev pub ten : Format → Float
ten = constant 0x4120_0000 0x4024_0000_0000_0000

abbrev pub twenty : Format → Float
twenty = constant 0x41a0_0000 0x4034_0000_0000_0000

abbrev pub sixty : Format → Float
sixty = constant 0x4270_0000 0x404e_0000_0000_0000

abbrev pub ninety : Format → Float
ninety = constant 0x42b4_0000 0x4056_8000_0000_0000

abbrev pub hundred : Format → Float
hundred = constant 0x42c8_0000 0x4059_0000_0000_0000

-- 180 degrees
abbrev pub half_turn : Format → Float
half_turn = constant 0x4334_0000 0x4066_8000_0000_0000

abbrev pub two_hundred : Format → Float
two_hundred = constant 0x4348_0000 0x4069_0000_0000_0000

abbrev pub thousand : Format → Float
thousand = constant 0x447a_0000 0x408f_4000_0000_0000

abbrev pub ten_thousand : Format → Float
ten_thousand = constant 0x461c_4000 0x40c3_8800_0000_0000

abbrev pub million : Format → Float
million = constant 0x4974_2400 0x412e_8480_0000_0000

abbrev pub two_million : Format → Float
two_million = constant 0x49f4_2400 0x413e_8480_0000_0000

abbrev pub half_pi : Format → Float
half_pi = constant 0x3fc9_0fdb 0x3ff9_21fb_5444_2d18

abbrev pub one_and_a_half : Format → Float
one_and_a_half = constant 0x3fc0_0000 0x3ff8_0000_0000_0000

abbrev pub one_point_six : Format → Float
one_point_six = constant 0x3fcc_cccd 0x3ff9_9999_9999_999a

abbrev pub tenth : Format → Float
tenth = constant 0x3dcc_cccd 0x3fb9_9999_9999_999a

abbrev pub twentieth : Format → Float
twentieth = constant 0x3d4c_cccd 0x3fa9_9999_9999_999a

abbrev pub three_hundredths : Format → Float
three_hundredths = constant 0x3cf5_c28f 0x3f9e_b851_eb85_1eb8

abbrev pub hundredth : Format → Float
hundredth = constant 0x3c23_d70a 0x3f84_7ae1_47ae_147b

abbrev pub ten_thousandth : Format → Float
ten_thousandth = constant 0x38d1_b717 0x3f1a_36e2_eb1c_432d

abbrev pub millionth : Format → Float
millionth = constant 0x3586_37bd 0x3eb0_c6f7_a0b5_ed8d

abbrev pub ten_billionth : Format → Float
ten_billionth = constant 0x2edb_e6ff 0x3ddb_7cdf_d9d7_bdbb

-- the value nearest to m / n
abbrev pub decimal : Format → ℕ → ℕ → Float
decimal w m n = round w false m n

-- a constant, and the fraction that it is nearest to
abbrev Row : Type 0
Row = (Format → Float) × ℕ × ℕ

abbrev rows : List Row
rows =
    (zero, 0, 1)
    ∷ (half, 1, 2)
    ∷ (one, 1, 1)
    ∷ (two, 2, 1)
    ∷ (pi, 314159265358979323846, 10 ^ 20)
    ∷ (three, 3, 1)
    ∷ (five, 5, 1)
    ∷ (nine, 9, 1)
    ∷ (ten, 10, 1)
    ∷ (twenty, 20, 1)
    ∷ (sixty, 60, 1)
    ∷ (ninety, 90, 1)
    ∷ (hundred, 100, 1)
    ∷ (half_turn, 180, 1)
    ∷ (two_hundred, 200, 1)
    ∷ (thousand, 1000, 1)
    ∷ (ten_thousand, 10000, 1)
    ∷ (million, 1000000, 1)
    ∷ (two_million, 2000000, 1)
    ∷ (half_pi, 157079632679489661923, 10 ^ 20)
    ∷ (one_and_a_half, 15, 10)
    ∷ (one_point_six, 16, 10)
    ∷ (tenth, 1, 10)
    ∷ (twentieth, 5, 100)
    ∷ (three_hundredths, 3, 100)
    ∷ (hundredth, 1, 100)
    ∷ (ten_thousandth, 1, 10000)
    ∷ (millionth, 1, 10 ^ 6)
    ∷ (ten_billionth, 1, 10 ^ 10)
    ∷ []

pub constants_are : (w : Format) → map (λ (r : Row). r.0 w) rows ≡ map (λ (r : Row). decimal w r.1 r.2) rows
unfolding round of_bits
constants_are binary32 = refl
constants_are binary64 = refl
