-- The square root of a float, rounded to the nearest value of its format: what `sqrt` is to return, as a function that computes (`root`), and as a relation on whole numbers (`Nearest`).
-- Both count in units of the format's smallest positive value, 2 ^ -low: a value that the format holds is a whole number of them (`count`).
-- The root of x, in units, is the root of `count f x * 2 ^ low f`.
use Rattle.std.specs.Prelude.{◌≡◌, ℕ, zero, suc, ◌+◌, ◌-◌, ◌*◌, ◌/◌, ◌^◌, ◌<◌, ◌≤◌, true, false, cond, T, pos, nat_le, nat_lt, refl, Float}
use Rattle.std.specs.Float.{nan, inf, fin, Format, binary32, binary64}
use Rattle.std.specs.Float.Ieee.{prec, low, up, down, size, odd, fits, to_bits, of_bits}

-- how many of f's smallest positive value make the size of x
unfoldable pub count : Format → Float → ℕ
count f nan = 0
count f (inf s) = 0
count f (fin s m e) = m * up e * 2 ^ low f / down e

-- the root of x, in units, is the root of this
unfoldable pub square : Format → Float → ℕ
unfolding count
square f x = count f x * 2 ^ low f

-- ---- the relation

-- f's own numbers from 0 up
abbrev pub Value : Format → Float → Type 0
Value f nan = ⊥
Value f (inf s) = ⊥
Value f (fin true m e) = ⊥
Value f (fin false m e) = T (fits f (fin false m e))

-- r is the value of f nearest to the root of x, for an x above 0: r is a value of f, and the root lies on r's side of the middle between r and any other value y of f.
-- The middle is (r + y) / 2, and root > middle says 4 * x > (r + y) ^ 2, which is said in units.
pub record Nearest (f : Format) (x r : Float) : Type 0 where
  pub value : Value f r
  pub above : (y : Float) → Value f y → count f y < count f r → (count f y + count f r) * (count f y + count f r) < 4 * square f x
  pub below : (y : Float) → Value f y → count f r < count f y → 4 * square f x < (count f y + count f r) * (count f y + count f r)

-- r is the root of x, whatever x: there is none below zero and at a NaN, and a zero and the infinity are their own
abbrev pub IsRoot : Format → Float → Float → Type 0
IsRoot f nan r = r ≡ nan
IsRoot f (inf true) r = r ≡ nan
IsRoot f (inf false) r = r ≡ inf false
IsRoot f (fin s zero e) r = r ≡ fin s zero e
IsRoot f (fin true (suc m) e) r = r ≡ nan
IsRoot f (fin false (suc m) e) r = Nearest f (fin false (suc m) e) r

-- q is the whole number nearest to the root of a w above 0: (q - 1/2) ^ 2 < w < (q + 1/2) ^ 2, with the quarters dropped
abbrev pub Closest : ℕ → ℕ → Type 0
Closest w q = (q * q < w + q) × (w ≤ q * q + q)

-- ---- the function

-- the whole part of the root of an n below 2 ^ (d + d), a binary digit at a time
unfoldable pub isqrt : ℕ → ℕ → ℕ
isqrt zero n = 0
isqrt (suc d) n = let r = 2 * isqrt d (n / 4) in cond (nat_le ((r + 1) * (r + 1)) n) (r + 1) r

-- the whole number nearest to the root of an n below 2 ^ (d + d): one more than the whole part q where n is above (q + 1/2) ^ 2
unfoldable pub near_root : ℕ → ℕ → ℕ
unfolding isqrt
near_root d n = let q = isqrt d n in cond (nat_lt (q * q + q) n) (q + 1) q

-- the value of f nearest to the root of n square units: n has 2 * prec digits, or one fewer, once k pairs of digits are dropped
unfoldable pub root_of : Format → ℕ → Float
unfolding near_root
root_of f n =
    let k = (size n + 1) / 2 - prec f in
    odd (suc (prec f)) false (near_root (prec f) (n / 2 ^ (k + k))) k (low f)

-- Below zero, and at a NaN, there is no root. A zero keeps its sign.
unfoldable pub root : Format → Float → Float
unfolding square root_of
root f nan = nan
root f (inf true) = nan
root f (inf false) = inf false
root f (fin s zero e) = fin s zero e
root f (fin true (suc m) e) = nan
root f (fin false (suc m) e) = root_of f (square f (fin false (suc m) e))

-- ---- what is proved of it, in proofs/RootLaws.antt: at any format, `root` is the nearest value, and nothing else is
abbrev pub Meets : Format → Type 0
Meets f = (x : Float) → T (fits f x) → IsRoot f x (root f x)

abbrev pub Only : Format → Type 0
Only f = (x r : Float) → T (fits f x) → IsRoot f x r → r ≡ root f x

-- ---- values that antt computes, each at its bit pattern
root_bits : Format → ℕ → ℕ
unfolding root to_bits of_bits
root_bits f n = to_bits f (root f (of_bits f n))

-- 2.25 and 1.5
value_2_25 : root_bits binary64 0x4002_0000_0000_0000 ≡ 0x3ff8_0000_0000_0000
unfolding root_bits
value_2_25 = refl

value_minus_zero : root_bits binary64 0x8000_0000_0000_0000 ≡ 0x8000_0000_0000_0000
unfolding root_bits
value_minus_zero = refl

-- at the smallest value, 2 ^ -1074, at the largest, and just below 1
value_least : root_bits binary64 1 ≡ 0x1e60_0000_0000_0000
unfolding root_bits
value_least = refl

value_most : root_bits binary64 0x7fef_ffff_ffff_ffff ≡ 0x5fef_ffff_ffff_ffff
unfolding root_bits
value_most = refl

value_below_one : root_bits binary64 0x3fef_ffff_ffff_ffff ≡ 0x3fef_ffff_ffff_ffff
unfolding root_bits
value_below_one = refl

-- 2, in both formats
value_2 : root_bits binary64 0x4000_0000_0000_0000 ≡ 0x3ff6_a09e_667f_3bcd
unfolding root_bits
value_2 = refl

value_2_single : root_bits binary32 0x4000_0000 ≡ 0x3fb5_04f3
unfolding root_bits
value_2_single = refl

value_minus_one : root binary64 (fin true 1 (pos 0)) ≡ nan
unfolding root
value_minus_one = refl
