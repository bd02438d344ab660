-- The constants of the recipes, each by its bits. docs/NUMBERS.md has them in decimal.
use Rattle.std.specs.Prelude.{Bool, ◌&&◌, from_bits, Float}
use Rattle.std.specs.Float.{binary64}
use Rattle.std.specs.Float.Ieee.{le}
use Rattle.floats.specs.Notation.{zero, half, one, pi}
use Rattle.floats.specs.Decimals.{half_pi}

abbrev pub 𝟎 : Float
𝟎 = zero binary64

abbrev pub 𝟏 : Float
𝟏 = one binary64

abbrev pub HALF : Float
HALF = half binary64

-- x from lo to hi; no NaN is
abbrev pub between : Float → Float → Float → Bool
between x lo hi = le lo x && le x hi

-- ---- the domains: sine and cosine from -ANGLE_LIMIT to ANGLE_LIMIT, 256; the tangent from 0 to TAN_LIMIT, 0.75; the exponential from -EXP_LIMIT, 10000, to 0
abbrev pub ANGLE_LIMIT : Float
ANGLE_LIMIT = from_bits binary64 0x4070_0000_0000_0000

abbrev pub TAN_LIMIT : Float
TAN_LIMIT = from_bits binary64 0x3fe8_0000_0000_0000

abbrev pub EXP_LIMIT : Float
EXP_LIMIT = from_bits binary64 0x40c3_8800_0000_0000

-- up to NEAR, 0.785, an angle is its own remainder; below -EXP-FLOOR, -708, the exponential gives 0
abbrev pub NEAR : Float
NEAR = from_bits binary64 0x3fe9_1eb8_51eb_851f

abbrev pub EXP_FLOOR : Float
EXP_FLOOR = from_bits binary64 0x4086_2000_0000_0000

-- ---- the reduction: 2 / pi; pi / 2 in three parts, of which the first two have 45 bits each; 1.5 * 2 ^ 52, where what is added is rounded to a whole number
abbrev pub TWO_OVER_PI : Float
TWO_OVER_PI = from_bits binary64 0x3fe4_5f30_6dc9_c883

abbrev pub P1 : Float
P1 = from_bits binary64 0x3ff9_21fb_5444_2d00

abbrev pub P2 : Float
P2 = from_bits binary64 0x3cf8_4698_98cc_5100

abbrev pub P3 : Float
P3 = from_bits binary64 0x3a1c_06e0_e689_4812

abbrev pub MAGIC : Float
MAGIC = from_bits binary64 0x4338_0000_0000_0000

abbrev pub FOUR : Float
FOUR = from_bits binary64 0x4010_0000_0000_0000

abbrev pub QUARTER : Float
QUARTER = from_bits binary64 0x3fd0_0000_0000_0000

-- ---- `ksin` and `kcos`
abbrev pub S0 : Float
S0 = from_bits binary64 0x3fc5_5555_5555_5548

abbrev pub S1 : Float
S1 = from_bits binary64 0xbf81_1111_1110_f730

abbrev pub S2 : Float
S2 = from_bits binary64 0x3f2a_01a0_19be_91f6

abbrev pub S3 : Float
S3 = from_bits binary64 0xbec7_1de3_5552_80f3

abbrev pub S4 : Float
S4 = from_bits binary64 0x3e5a_e5e4_b809_6236

abbrev pub S5 : Float
S5 = from_bits binary64 0xbde5_d8b5_47d7_c54d

abbrev pub C0 : Float
C0 = from_bits binary64 0x3fa5_5555_5555_554b

abbrev pub C1 : Float
C1 = from_bits binary64 0xbf56_c16c_16c1_5013

abbrev pub C2 : Float
C2 = from_bits binary64 0x3efa_01a0_19c8_ed02

abbrev pub C3 : Float
C3 = from_bits binary64 0xbe92_7e4f_7f14_0892

abbrev pub C4 : Float
C4 = from_bits binary64 0x3e21_ee9d_b8da_1a61

abbrev pub C5 : Float
C5 = from_bits binary64 0xbda8_fa65_e2f3_c353

-- ---- the exponential: log2 e; ln 2 in two parts, of which the first has 42 bits; 1.5 * 2 ^ 52 + 1023; and `kexp`
abbrev pub LOG2E : Float
LOG2E = from_bits binary64 0x3ff7_1547_652b_82fe

abbrev pub L1 : Float
L1 = from_bits binary64 0x3fe6_2e42_fefa_3800

abbrev pub L2 : Float
L2 = from_bits binary64 0x3d2e_f357_93c7_6730

abbrev pub EXP_MAGIC : Float
EXP_MAGIC = from_bits binary64 0x4338_0000_0000_03ff

abbrev pub E0 : Float
E0 = from_bits binary64 0x3fe0_0000_0000_0000

abbrev pub E1 : Float
E1 = from_bits binary64 0x3fc5_5555_5555_550c

abbrev pub E2 : Float
E2 = from_bits binary64 0x3fa5_5555_5555_3406

abbrev pub E3 : Float
E3 = from_bits binary64 0x3f81_1111_1112_6ac0

abbrev pub E4 : Float
E4 = from_bits binary64 0x3f56_c16c_17c3_15a6

abbrev pub E5 : Float
E5 = from_bits binary64 0x3f2a_01a0_122c_ed42

abbrev pub E6 : Float
E6 = from_bits binary64 0x3efa_019a_cd2f_87cc

abbrev pub E7 : Float
E7 = from_bits binary64 0x3ec7_1df4_bfaa_4351

abbrev pub E8 : Float
E8 = from_bits binary64 0x3e92_89e0_3c3b_514f

abbrev pub E9 : Float
E9 = from_bits binary64 0x3e5a_d27e_c834_3448

-- ---- pi and pi / 2, and what each lacks
abbrev pub PI : Float
PI = pi binary64

abbrev pub PI_LO : Float
PI_LO = from_bits binary64 0x3ca1_a626_3314_5c07

abbrev pub PIO2 : Float
PIO2 = half_pi binary64

abbrev pub PIO2_LO : Float
PIO2_LO = from_bits binary64 0x3c91_a626_3314_5c07

-- ---- `kasin`
abbrev pub A0 : Float
A0 = from_bits binary64 0x3fc5_5555_5555_5390

abbrev pub A1 : Float
A1 = from_bits binary64 0x3fb3_3333_3336_e82c

abbrev pub A2 : Float
A2 = from_bits binary64 0x3fa6_db6d_b427_8fc6

abbrev pub A3 : Float
A3 = from_bits binary64 0x3f9f_1c72_c396_30eb

abbrev pub A4 : Float
A4 = from_bits binary64 0x3f96_e89f_4373_c166

abbrev pub A5 : Float
A5 = from_bits binary64 0x3f91_c6be_21ef_1dc2

abbrev pub A6 : Float
A6 = from_bits binary64 0x3f8c_6fdb_950f_fea5

abbrev pub A7 : Float
A7 = from_bits binary64 0x3f88_ec32_df5f_ab0a

abbrev pub A8 : Float
A8 = from_bits binary64 0x3f7a_bcdd_c600_2b9d

abbrev pub A9 : Float
A9 = from_bits binary64 0x3f93_ff59_743c_6797

abbrev pub A10 : Float
A10 = from_bits binary64 0xbf90_9d47_a2a6_956c

abbrev pub A11 : Float
A11 = from_bits binary64 0x3fa0_56dd_5ba3_f2ad

-- ---- `katan`
abbrev pub T0 : Float
T0 = from_bits binary64 0xbfd5_5555_5555_5526

abbrev pub T1 : Float
T1 = from_bits binary64 0x3fc9_9999_9999_55b1

abbrev pub T2 : Float
T2 = from_bits binary64 0xbfc2_4924_9237_f4ae

abbrev pub T3 : Float
T3 = from_bits binary64 0x3fbc_71c7_17fc_c94b

abbrev pub T4 : Float
T4 = from_bits binary64 0xbfb7_45d1_1ae4_606d

abbrev pub T5 : Float
T5 = from_bits binary64 0x3fb3_b136_6983_edff

abbrev pub T6 : Float
T6 = from_bits binary64 0xbfb1_10e5_118f_5c51

abbrev pub T7 : Float
T7 = from_bits binary64 0x3fae_1bba_5d6c_390d

abbrev pub T8 : Float
T8 = from_bits binary64 0xbfaa_e5e7_06ce_8874

abbrev pub T9 : Float
T9 = from_bits binary64 0x3fa8_2dad_0826_45ee

abbrev pub T10 : Float
T10 = from_bits binary64 0xbfa5_9a3e_e623_d067

abbrev pub T11 : Float
T11 = from_bits binary64 0x3fa2_c2e3_dea5_7cc6

abbrev pub T12 : Float
T12 = from_bits binary64 0xbf9e_9f9b_4e7f_ee50

abbrev pub T13 : Float
T13 = from_bits binary64 0x3f96_83c6_687f_ffaa

abbrev pub T14 : Float
T14 = from_bits binary64 0xbf8c_78f2_3b64_289e

abbrev pub T15 : Float
T15 = from_bits binary64 0x3f7d_7b84_ce84_85cf

abbrev pub T16 : Float
T16 = from_bits binary64 0xbf67_a38c_d562_905a

abbrev pub T17 : Float
T17 = from_bits binary64 0x3f4b_3f9c_2d1e_e566

abbrev pub T18 : Float
T18 = from_bits binary64 0xbf23_f357_ba32_8ff4

abbrev pub T19 : Float
T19 = from_bits binary64 0x3eeb_bec6_caf6_aa8f
