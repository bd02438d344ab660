-- The root of a whole number: `isqrt` is its whole part, `near_root` the closest whole number, and `root_of` the float of it, by any way to write the number.
use Rattle.floats.specs.Prelude.{◌≡◌, refl, sym, ap, ◌∙◌, subst, Bool, true, false, not, cond, ℕ, zero, suc, ◌+◌, ◌-◌, ◌*◌, ◌/◌, ◌^◌, ◌≤◌, ◌<◌, le_dest, le_trans, le_of_eq, lt_of_lt_of_le, lt_of_not-le, not-le_of_lt, le_of_suc-le-suc, le_antisymm, zero-lt-suc, mul-le-mul_right, mul-div_cancel, div-lt_iff_lt-mul, pow-suc, arith, T, leb, ltb, leb→le, nleb→lt, ltb→lt, nltb→le, pow-add, pow_pos, pow_mono, shl_lt, Float, nan, inf, fin, Format, prec, low, down, size, odd, Equals, odd_val, size-lt, size-le, two, two-le_pos, down_pos}
use Rattle.floats.proofs.Chosen.{chosen}
use Rattle.numbers.specs.Root.{count, Closest, isqrt, near_root, root_of}

-- the whole part of a root
step_yes : (q n : ℕ) → n / 4 < (q + 1) * (q + 1) → (2 * q + 1) * (2 * q + 1) ≤ n → ((2 * q + 1) * (2 * q + 1) ≤ n) × (n < (2 * q + 1 + 1) * (2 * q + 1 + 1))
step_yes q n b h = omega arith

step_no : (q n : ℕ) → q * q ≤ n / 4 → n < (2 * q + 1) * (2 * q + 1) → (2 * q * (2 * q) ≤ n) × (n < (2 * q + 1) * (2 * q + 1))
step_no q n a h = omega arith

pub isqrt_is : (d n : ℕ) → n < 4 ^ d → (isqrt d n * isqrt d n ≤ n) × (n < (isqrt d n + 1) * (isqrt d n + 1))
unfolding isqrt
isqrt_is zero n h = (omega arith, omega arith)
isqrt_is (suc d) n h = go (isqrt d (n / 4)) (isqrt_is d (n / 4) ((div-lt_iff_lt-mul (zero-lt-suc 3)).1 (subst (λ (x : ℕ). n < x) (pow-suc 4 d) h)))
  where
    go : (q : ℕ) → (q * q ≤ n / 4) × (n / 4 < (q + 1) * (q + 1))
        → (cond (leb ((2 * q + 1) * (2 * q + 1)) n) (2 * q + 1) (2 * q) * cond (leb ((2 * q + 1) * (2 * q + 1)) n) (2 * q + 1) (2 * q) ≤ n)
        × (n < (cond (leb ((2 * q + 1) * (2 * q + 1)) n) (2 * q + 1) (2 * q) + 1) * (cond (leb ((2 * q + 1) * (2 * q + 1)) n) (2 * q + 1) (2 * q) + 1))
    go q p = pick (leb ((2 * q + 1) * (2 * q + 1)) n) (leb→le ((2 * q + 1) * (2 * q + 1)) n) (nleb→lt ((2 * q + 1) * (2 * q + 1)) n)
      where
        pick : (b : Bool) → (T b → (2 * q + 1) * (2 * q + 1) ≤ n) → (T (not b) → n < (2 * q + 1) * (2 * q + 1))
            → (cond b (2 * q + 1) (2 * q) * cond b (2 * q + 1) (2 * q) ≤ n) × (n < (cond b (2 * q + 1) (2 * q) + 1) * (cond b (2 * q + 1) (2 * q) + 1))
        pick true x y = step_yes q n p.1 (x tt)
        pick false x y = step_no q n p.0 (y tt)

near_up : (q w : ℕ) → w < (q + 1) * (q + 1) → q * q + q < w → Closest w (q + 1)
near_up q w b h = omega arith

near_down : (q w : ℕ) → 0 < w → q * q ≤ w → w ≤ q * q + q → Closest w q
near_down zero w p a h = omega arith
near_down (suc q) w p a h = omega arith

pub near_root_closest : (d w : ℕ) → 0 < w → w < 4 ^ d → Closest w (near_root d w)
unfolding near_root
near_root_closest d w p h =
    let q = isqrt d w in
    let s = isqrt_is d w h in
    chosen (Closest w) (ltb (q * q + q) w) (q + 1) q (λ t. near_up q w s.1 (ltb→lt (q * q + q) w t)) (λ t. near_down q w p s.0 (nltb→le (q * q + q) w t))

-- there is one such
no_two_at : (w q d : ℕ) → Closest w q → Closest w (suc q + d) → ⊥
no_two_at w q d a b = omega arith

no_two : (w q r : ℕ) → Closest w q → Closest w r → q < r → ⊥
no_two w q r a b h = no_two_at w q (le_dest h).0 a (subst (λ (x : ℕ). Closest w x) (sym (le_dest h).1) b)

pub closest_one : (w q r : ℕ) → Closest w q → Closest w r → q ≡ r
closest_one w q r a b =
    le_antisymm
    (le_of_suc-le-suc (lt_of_not-le (λ (g : suc r ≤ q). no_two w r q b a g)))
    (le_of_suc-le-suc (lt_of_not-le (λ (g : suc q ≤ r). no_two w q r a b g)))

pub four : (d : ℕ) → 4 ^ d ≡ 2 ^ (d + d)
four zero = refl
four (suc d) =
    pow-suc 4 d ∙ ap (λ (x : ℕ). x * 4) (four d ∙ pow-add 2 d d)
    ∙ sym (pow-add 2 (suc d) (suc d) ∙ ap (λ (x : ℕ). x * x) (pow-suc 2 d) ∙ regroup (2 ^ d))
  where
    regroup : (x : ℕ) → x * 2 * (x * 2) ≡ x * x * 4
    regroup x = omega arith

-- ---- counting in units

pub count_of : (f : Format) (x : Float) (a : ℕ) → Equals x a (2 ^ low f) → count f x ≡ a
unfolding count
count_of f nan a h = absurd h
count_of f (inf s) a h = absurd h
count_of f (fin s m e) a h = ap (λ (z : ℕ). z / down e) h ∙ mul-div_cancel a (down_pos e)

pub count_odd : (f : Format) (d : ℕ) (s : Bool) (q k : ℕ) → count f (odd d s q k (low f)) ≡ q * 2 ^ k
count_odd f d s q k = count_of f (odd d s q k (low f)) (q * 2 ^ k) (odd_val d s q k (low f))

-- ---- `root_of`, by any way to write n as w * 4 ^ k with a w of 2 * prec digits, or one fewer
pub size_gt : (n j : ℕ) → 2 ^ j ≤ n → j < size n
size_gt n j h = lt_of_not-le (λ (g : size n ≤ j). not-le_of_lt (lt_of_lt_of_le (size-lt n) (pow_mono g)) h)

dropped : (z p k : ℕ) → 0 < p → z ≤ p + p + (k + k) → p - 1 + (p - 1) + (k + k) < z → (z + 1) / 2 - p ≡ k
dropped z p k P a b = omega arith

pub root_of_by : (f : Format) (n w k q : ℕ) → n ≡ w * 2 ^ (k + k) → 2 ^ (prec f - 1 + (prec f - 1)) ≤ w → w < 2 ^ (prec f + prec f) → Closest w q
    → root_of f n ≡ odd (suc (prec f)) false q k (low f)
unfolding root_of
root_of_by f n w k q e lo hi c =
    let p = prec f in
    let P : 0 < p = two-le_pos p (two f) in
    let up_to : size n ≤ p + p + (k + k) = size-le n (p + p + (k + k)) (subst (λ (x : ℕ). x < 2 ^ (p + p + (k + k))) (sym e) (shl_lt (p + p) (k + k) hi)) in
    let from : p - 1 + (p - 1) + (k + k) < size n =
    size_gt n (p - 1 + (p - 1) + (k + k)) (le_trans (le_of_eq (pow-add 2 (p - 1 + (p - 1)) (k + k))) (le_trans (mul-le-mul_right (2 ^ (k + k)) lo) (le_of_eq (sym e)))) in
    let is_k : (size n + 1) / 2 - p ≡ k = dropped (size n) p k P up_to from in
    let is_w : n / 2 ^ (k + k) ≡ w = ap (λ (x : ℕ). x / 2 ^ (k + k)) e ∙ mul-div_cancel w (pow_pos (k + k)) in
    let is_q : near_root p w ≡ q =
    closest_one w (near_root p w) q (near_root_closest p w (lt_of_lt_of_le (pow_pos (p - 1 + (p - 1))) lo) (subst (λ (x : ℕ). w < x) (sym (four p)) hi)) c in
    ap (λ (x : ℕ). odd (suc p) false (near_root p (n / 2 ^ (x + x))) x (low f)) is_k
    ∙ ap (λ (x : ℕ). odd (suc p) false (near_root p x) k (low f)) is_w
    ∙ ap (λ (x : ℕ). odd (suc p) false x k (low f)) is_q

-- ---- how large the root is
least_at : (w q d : ℕ) → (suc q + d) * (suc q + d) ≤ w → Closest w q → ⊥
least_at w q d a c = omega arith

most_at : (w h d : ℕ) → w < h * h → Closest w (suc h + d) → ⊥
most_at w h d a c = omega arith

pub closest_ge : (w q h : ℕ) → h * h ≤ w → Closest w q → h ≤ q
closest_ge w q h a c = le_of_suc-le-suc (lt_of_not-le (λ (g : suc q ≤ h). least_at w q (le_dest g).0 (subst (λ (x : ℕ). x * x ≤ w) (sym (le_dest g).1) a) c))

pub closest_le : (w q h : ℕ) → w < h * h → Closest w q → q ≤ h
closest_le w q h a c = le_of_suc-le-suc (lt_of_not-le (λ (g : suc h ≤ q). most_at w h (le_dest g).0 a (subst (λ (x : ℕ). Closest w x) (sym (le_dest g).1) c)))
