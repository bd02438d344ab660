-- Whole numbers below 2 ^ 53 and the powers of ten up to 22 are floats exactly, so one operation on them is the decimal rounded once.
use Rattle.floats.specs.Prelude.{◌≡◌, refl, sym, ap, ◌∙◌, Bool, true, false, List, [], ◌∷◌, map, ℕ, zero, suc, ◌+◌, ◌*◌, ◌^◌, ◌≤◌, ◌<◌, mul_assoc, mul-one, mul-pos, lt_of_le_of_lt, lt_of_lt_of_le, pow-le-pow_right, pow-suc, le_of_suc-le-suc, arith, get_or, pos, pow-add, pow_mono, shl_lt, Float, nan, inf, fin, binary64, round, mul, div, of_int, of_bits, up, down, unlike, HasValue, round_exact, down_pos, positive_of_value, round_same}
use lib.Ieee.Back.{round_whole}
use Rattle.floats.specs.Quotients.{div_is, divs}
use Rattle.floats.specs.Fractions.{ac}
use Rattle.floats.specs.Rounding.{round_neg}
use Rattle.words.specs.Decimals.{signs}

-- ---- the powers of ten
-- k, k + 1, .. , n numbers
abbrev from : ℕ → ℕ → List ℕ
from k zero = []
from k (suc n) = k ∷ from (suc k) n

entry : (f : ℕ → Float) (k n i : ℕ) (d : Float) → i < n → get_or (map f (from k n)) i d ≡ f (k + i)
entry f k zero i d h = absurd (omega arith)
entry f k (suc n) zero d h = ap f (omega arith)
entry f k (suc n) (suc i) d h = entry f (suc k) n i d (le_of_suc-le-suc h) ∙ ap f (omega arith)

abbrev power : ℕ → Float
power k = round binary64 false (10 ^ k) 1

abbrev pub tens : List Float
tens = map (of_bits binary64) (4607182418800017408 ∷ 4621819117588971520 ∷ 4636737291354636288 ∷ 4652007308841189376 ∷ 4666723172467343360 ∷ 4681608360884174848 ∷ 4696837146684686336 ∷ 4711630319722168320 ∷ 4726483295884279808 ∷ 4741671816366391296 ∷ 4756540486875873280 ∷ 4771362005757984768 ∷ 4786511204640096256 ∷ 4801453603149578240 ∷ 4816244402031689728 ∷ 4831355200913801216 ∷ 4846369599423283200 ∷ 4861130398305394688 ∷ 4876203697187506176 ∷ 4891288408196988160 ∷ 4906019910204099648 ∷ 4921056587992461136 ∷ 4936209963552724370 ∷ [])

all : tens ≡ map power (from 0 23)
unfolding round of_bits
all = refl

pub ten_at : (k : ℕ) → k ≤ 22 → get_or tens k nan ≡ power k
ten_at k h = ap (λ (l : List Float). get_or l k nan) all ∙ entry power 0 23 k nan (omega arith) ∙ ap power (omega arith)

tens_fives : (k : ℕ) → 10 ^ k ≡ 5 ^ k * 2 ^ k
tens_fives zero = refl
tens_fives (suc k) =
    pow-suc 10 k ∙ ap (λ (x : ℕ). x * 10) (tens_fives k)
    ∙ simp ac (omega arith)
    ∙ sym (ap (λ (x : ℕ). x * 2 ^ suc k) (pow-suc 5 k) ∙ ap (λ (x : ℕ). 5 ^ k * 5 * x) (pow-suc 2 k))

-- 10 ^ k is 5 ^ k, which has few digits, times a power of two
ten_value : (k : ℕ) → k ≤ 22 → HasValue (power k) false (10 ^ k) 1
ten_value k h =
    let few : 5 ^ k < 2 ^ 53 = lt_of_le_of_lt (pow-le-pow_right (omega arith) h) (omega arith) in
    round_exact binary64 false (10 ^ k) 1 (5 ^ k) (k + 1074) (omega arith) few
    (lt_of_lt_of_le (shl_lt 53 (k + 1074) few) (pow_mono {j = 2098} (omega arith)))
    (ap (λ (x : ℕ). x * 2 ^ 1074) (tens_fives k) ∙ mul_assoc (5 ^ k) (2 ^ k) (2 ^ 1074) ∙ ap (λ (x : ℕ). 5 ^ k * x) (sym (pow-add 2 k 1074)) ∙ sym (mul-one _))

-- ---- one operation on values that are whole numbers
value : (a m u : ℕ) → m * 1 ≡ a * u → m ≡ a * u
value a m u h = sym (mul-one m) ∙ h

product : (a b m n u v : ℕ) → m ≡ a * u → n ≡ b * v → m * n * 1 ≡ a * b * (u * v)
product a b m n u v h k = mul-one (m * n) ∙ (λ j. h j * k j) ∙ simp ac refl

quotient : (a b m n u v : ℕ) → m ≡ a * u → n ≡ b * v → m * v * b ≡ a * (n * u)
quotient a b m n u v h k = ap (λ (x : ℕ). x * v * b) h ∙ simp ac refl ∙ sym (ap (λ (x : ℕ). a * (x * u)) k)

mul_whole : (x y : Float) (a b : ℕ) → HasValue x false a 1 → HasValue y false b 1 → mul binary64 x y ≡ round binary64 false (a * b) 1
unfolding mul
mul_whole nan y a b h k = absurd h
mul_whole (inf s) y a b h k = absurd h
mul_whole (fin s m e) nan a b h k = absurd k
mul_whole (fin s m e) (inf t) a b h k = absurd k
mul_whole (fin s m e) (fin t n d) a b h k =
    (λ j. round binary64 (unlike (h.0 j) (k.0 j)) (m * up e * (n * up d)) (down e * down d))
    ∙ round_same binary64 false _ _ (a * b) 1 (mul-pos (down_pos e) (down_pos d)) (omega arith) (product a b _ _ _ _ (value a _ _ h.1) (value b _ _ k.1))

div_whole : (x y : Float) (a b : ℕ) → HasValue x false a 1 → HasValue y false b 1 → 0 < b → div binary64 x y ≡ round binary64 false a b
div_whole nan y a b h k p = absurd h
div_whole (inf s) y a b h k p = absurd h
div_whole (fin s m e) nan a b h k p = absurd k
div_whole (fin s m e) (inf t) a b h k p = absurd k
div_whole (fin s m e) (fin t n d) a b h k p =
    let above = positive_of_value (fin t n d) b 1 k p in
    div_is binary64 (fin s m e) (fin t n d) tt above
    ∙ ap (λ (q : Bool). round binary64 q (m * up e * down d) (n * up d * down e)) h.0
    ∙ round_same binary64 false _ _ a b (divs (fin s m e) (fin t n d) above) p (quotient a b _ _ _ _ (value a _ _ h.1) (value b _ _ k.1))

whole : (n : ℕ) → n < 1000000000000000 → HasValue (of_int binary64 (pos n)) false n 1
unfolding of_int
whole n h = round_whole binary64 false n (omega arith)

pub times_ten : (n k : ℕ) → n < 1000000000000000 → k ≤ 22 → mul binary64 (of_int binary64 (pos n)) (power k) ≡ round binary64 false (n * 10 ^ k) 1
times_ten n k h l = mul_whole _ _ n (10 ^ k) (whole n h) (ten_value k l)

pub over_ten : (n k : ℕ) → n < 1000000000000000 → k ≤ 22 → div binary64 (of_int binary64 (pos n)) (power k) ≡ round binary64 false n (10 ^ k)
over_ten n k h l = div_whole _ _ n (10 ^ k) (whole n h) (ten_value k l) (pow-le-pow_right {n = 10} (omega arith) {i = 0} {j = k} (omega arith))

pub sign_rounded : (s : Bool) (a c : ℕ) → signs s (round binary64 false a c) ≡ round binary64 s a c
sign_rounded true a c = sym (round_neg binary64 a c)
sign_rounded false a c = refl
