-- The bit pattern of a root (`pattern_root`) and of the number that it is taken of (`read`): what a program's proof cites.
use Rattle.floats.specs.Prelude.{◌≡◌, refl, sym, ap, ◌∙◌, subst, ◌⊎◌, inl, inr, Bool, false, not, ℕ, zero, suc, ◌+◌, ◌-◌, ◌*◌, ◌/◌, ◌^◌, ◌≤◌, ◌<◌, le-div_iff_mul-le, zero-add, le-add_right, pow-succ', zero-mul, le_refl, le_trans, le_of_eq, lt_of_lt_of_le, lt_of_le_of_lt, lt_irrefl, le_antisymm, eq-or-lt_of_le, zero-lt-suc, mul_assoc, mul-le-mul_right, lt_of_mul-lt-mul_right, mul-div_cancel, pow-suc, arith, ℤ, T, pow-add, pow_pos, pow_mono, pow-lt, shl_lt, Float, fin, Format, prec, emax, low, size, odd, fits, to_bits, of_bits, nan_bits, is_nan, hid, back, size-le, size_reaches, kept-lt, reach, two, two-le_pos}
use lib.Ieee.Bits.{nan_bits_is}
use Rattle.numbers.specs.Root.{count, Closest, root_of, root}
use Rattle.numbers.proofs.RootWhole.{count_odd, size_gt, root_of_by, closest_ge, closest_le}
use Rattle.numbers.proofs.RootLaws.{spread_fits, value_odd, root_fits, square_count, root_pos, square_lt, count_pos, by_count, value_bits}

-- ---- the bit pattern of a root
exactly : (n z : ℕ) → 0 < z → 2 ^ (z - 1) ≤ n → n < 2 ^ z → size n ≡ z
exactly n z Z lo hi = le_antisymm (size-le n z hi) (pred_lt z (size n) Z (size_gt n (z - 1) lo))
  where
    pred_lt : (z y : ℕ) → 0 < z → z - 1 < y → z ≤ y
    pred_lt z y a b = omega arith

written : (f : Format) (k q : ℕ) → 2 ^ (prec f - 1) ≤ q → q ≤ 2 ^ prec f
    → 0 + (size (q * 2 ^ k) - prec f) * hid f + q * 2 ^ k / 2 ^ (size (q * 2 ^ k) - prec f) ≡ k * hid f + q
written f k q lo hi = go (eq-or-lt_of_le hi)
  where
    p : ℕ
    p = prec f

    P : 0 < prec f
    P = two-le_pos (prec f) (two f)

    goal : ℕ → ℕ
    goal d = 0 + d * hid f + q * 2 ^ k / 2 ^ d

    same_k : (p k : ℕ) → p + k - p ≡ k
    same_k p k = omega arith

    one_more : (p k : ℕ) → suc (p + k) - p ≡ suc k
    one_more p k = omega arith

    less_one : (p k : ℕ) → 0 < p → p - 1 + k ≡ p + k - 1
    less_one p k h = omega arith

    twice : (p : ℕ) → 0 < p → 2 ^ p ≡ 2 ^ (p - 1) * 2
    twice zero h = absurd (lt_irrefl 0 h)
    twice (suc p) h = pow-suc 2 p ∙ ap (λ (x : ℕ). 2 ^ x * 2) (pred p)
      where
        pred : (p : ℕ) → p ≡ suc p - 1
        pred p = omega arith

    shape : (a b c : ℕ) → b ≡ c * 2 → 0 + suc a * c + c ≡ a * c + b
    shape a b c e = omega arith

    go : (q ≡ 2 ^ prec f) ⊎ (q < 2 ^ prec f) → 0 + (size (q * 2 ^ k) - prec f) * hid f + q * 2 ^ k / 2 ^ (size (q * 2 ^ k) - prec f) ≡ k * hid f + q
    go (inr l) =
        let z : size (q * 2 ^ k) ≡ prec f + k =
        exactly (q * 2 ^ k) (prec f + k) (lt_of_lt_of_le P (le-add_right (prec f) k)) (le_trans (le_of_eq (ap (λ (x : ℕ). 2 ^ x) (sym (less_one (prec f) k P)) ∙ pow-add 2 (prec f - 1) k)) (mul-le-mul_right (2 ^ k) lo)) (shl_lt (prec f) k l) in
        ap (λ (x : ℕ). 0 + x * hid f + q * 2 ^ k / 2 ^ x) (ap (λ (x : ℕ). x - prec f) z ∙ same_k (prec f) k)
        ∙ ap (λ (x : ℕ). 0 + k * hid f + x) (mul-div_cancel q (pow_pos k))
        ∙ ap (λ (x : ℕ). x + q) (zero-add (k * hid f))
    go (inl e) =
        let n : q * 2 ^ k ≡ 2 ^ (prec f + k) = ap (λ (x : ℕ). x * 2 ^ k) e ∙ sym (pow-add 2 (prec f) k) in
        let z : size (q * 2 ^ k) ≡ suc (prec f + k) =
        ap size n ∙ exactly (2 ^ (prec f + k)) (suc (prec f + k)) (zero-lt-suc (prec f + k)) (pow_mono (sub_one_le (prec f + k))) (pow-lt (le_refl (suc (prec f + k)))) in
        let h : q * 2 ^ k ≡ hid f * 2 ^ suc k = ap (λ (x : ℕ). x * 2 ^ k) (e ∙ twice (prec f) P) ∙ mul_assoc (hid f) 2 (2 ^ k) ∙ ap (λ (x : ℕ). hid f * x) (sym (pow-succ' 2 k)) in
        ap (λ (x : ℕ). 0 + x * hid f + q * 2 ^ k / 2 ^ x) (ap (λ (x : ℕ). x - prec f) z ∙ one_more (prec f) k)
        ∙ ap (λ (x : ℕ). 0 + suc k * hid f + x) (ap (λ (x : ℕ). x / 2 ^ suc k) h ∙ mul-div_cancel (hid f) (pow_pos (suc k)))
        ∙ shape k (2 ^ prec f) (hid f) (twice (prec f) P)
        ∙ ap (λ (x : ℕ). k * hid f + x) (sym e)
      where
        sub_one_le : (a : ℕ) → suc a - 1 ≤ a
        sub_one_le a = omega arith

pub pattern_of : (f : Format) (k q : ℕ) → 2 ^ (prec f - 1) ≤ q → q ≤ 2 ^ prec f → T (fits f (odd (suc (prec f)) false q k (low f))) → of_bits f (k * hid f + q) ≡ odd (suc (prec f)) false q k (low f)
pattern_of f k q lo hi h =
    let r = odd (suc (prec f)) false q k (low f) in
    sym
    (value_bits f r (value_odd f (suc (prec f)) q k (low f) h)
    ∙ ap (λ (n : ℕ). of_bits f (0 + (size n - prec f) * hid f + n / 2 ^ (size n - prec f))) (count_odd f (suc (prec f)) false q k)
    ∙ ap (of_bits f) (written f k q lo hi))

odd_no_nan : (d : ℕ) (s : Bool) (q k l : ℕ) → T (not (is_nan (odd d s q k l)))
unfolding odd is_nan
odd_no_nan d s zero k l = tt
odd_no_nan d s (suc q) k l = tt

-- what a program that has found w, k and q is to return
pub pattern_root : (f : Format) (n w k q : ℕ) → n ≡ w * 2 ^ (k + k) → 2 ^ (prec f - 1 + (prec f - 1)) ≤ w → w < 2 ^ (prec f + prec f) → n < 2 ^ (low f + suc (emax f) + low f) → Closest w q
    → (of_bits f (k * hid f + q) ≡ root_of f n) × T (not (nan_bits f (k * hid f + q)))
pattern_root f n w k q e lo hi n_lt c =
    let p = prec f in
    let ge : 2 ^ (p - 1) ≤ q = closest_ge w q (2 ^ (p - 1)) (le_trans (le_of_eq (sym (pow-add 2 (p - 1) (p - 1)))) lo) c in
    let le : q ≤ 2 ^ p = closest_le w q (2 ^ p) (lt_of_lt_of_le hi (le_of_eq (pow-add 2 p p))) c in
    let is : of_bits f (k * hid f + q) ≡ odd (suc p) false q k (low f) = pattern_of f k q ge le (root_fits f n w k q e lo n_lt le) in (
      is ∙ sym (root_of_by f n w k q e lo hi c),
      subst (λ (b : Bool). T (not b)) (sym (nan_bits_is f (k * hid f + q))) (subst (λ (v : Float). T (not (is_nan v))) (sym is) (odd_no_nan (suc p) false q k (low f))),
    )

-- ---- the bit pattern of an x above zero: K * hid + t, and x is t * 2 ^ K units
pub record Read (f : Format) (x : Float) : Type 0 where
  pub K : ℕ
  pub t : ℕ
  pub bits : to_bits f x ≡ K * hid f + t
  pub less : t < 2 ^ prec f
  pub more : 0 < t
  pub lead : (K ≡ 0) ⊎ (2 ^ (prec f - 1) ≤ t)
  pub top : K + prec f ≤ low f + suc (emax f)
  pub is : root f x ≡ root_of f (t * 2 ^ (K + low f))

pub read : (f : Format) (m : ℕ) (e : ℤ) → T (fits f (fin false (suc m) e)) → Read f (fin false (suc m) e)
read f m e h =
    let x = fin false (suc m) e in
    let p = prec f in
    let n = count f x in
    let sp = spread_fits f false (suc m) e h in
    let k = size n - p in
    let k_le : k ≤ sp.1 = over (size n) p sp.1 (size-le n (p + sp.1) (subst (λ (z : ℕ). z < 2 ^ (p + sp.1)) (sym sp.2) (shl_lt p sp.1 sp.3))) in
    let cut : n ≡ sp.0 * 2 ^ (sp.1 - k) * 2 ^ k = sp.2 ∙ ap (λ (z : ℕ). sp.0 * z) (ap (λ (z : ℕ). 2 ^ z) (sym (back sp.1 k k_le)) ∙ pow-add 2 (sp.1 - k) k) ∙ sym (mul_assoc sp.0 (2 ^ (sp.1 - k)) (2 ^ k)) in
    let t = n / 2 ^ k in
    let whole : n ≡ t * 2 ^ k = cut ∙ ap (λ (z : ℕ). z * 2 ^ k) (sym (ap (λ (z : ℕ). z / 2 ^ k) cut ∙ mul-div_cancel (sp.0 * 2 ^ (sp.1 - k)) (pow_pos k))) in
    let n_lt : n < 2 ^ (low f + suc (emax f)) = lt_of_mul-lt-mul_right (2 ^ low f) (lt_of_le_of_lt (le_of_eq (sym (square_count f x))) (lt_of_lt_of_le (square_lt f false m e h) (le_of_eq (pow-add 2 (low f + suc (emax f)) (low f))))) in
    record {
      K = k;
      t = t;
      bits = by_count f false (suc m) e ∙ ap (λ (z : ℕ). z + t) (zero-add (k * hid f));
      less = kept-lt p n;
      more = positive_part t (2 ^ k) (lt_of_lt_of_le (count_pos f false m e h) (le_of_eq whole));
      lead = led k refl;
      top = high (size n) p (low f) (emax f) (reach f) (size-le n (low f + suc (emax f)) n_lt);
      is = root_pos f m e ∙ ap (λ (z : ℕ). root_of f z) (square_count f x ∙ ap (λ (z : ℕ). z * 2 ^ low f) whole ∙ mul_assoc t (2 ^ k) (2 ^ low f) ∙ ap (λ (z : ℕ). t * z) (sym (pow-add 2 k (low f))));
    }
  where
    over : (z p j : ℕ) → z ≤ p + j → z - p ≤ j
    over z p j g = omega arith

    positive_part : (t u : ℕ) → 0 < t * u → 0 < t
    positive_part zero u g = absurd (lt_irrefl 0 (lt_of_lt_of_le g (le_of_eq (zero-mul u))))
    positive_part (suc t) u g = zero-lt-suc t

    high : (z p l e : ℕ) → p ≤ suc e → z ≤ l + suc e → z - p + p ≤ l + suc e
    high z p l e a b = omega arith

    inside : (z p k : ℕ) → 0 < p → z - p ≡ suc k → p - 1 + (z - p) < z
    inside z p k a b = omega arith

    led : (k : ℕ) → size (count f (fin false (suc m) e)) - prec f ≡ k
        → (size (count f (fin false (suc m) e)) - prec f ≡ 0) ⊎ (2 ^ (prec f - 1) ≤ count f (fin false (suc m) e) / 2 ^ (size (count f (fin false (suc m) e)) - prec f))
    led zero i = inl i
    led (suc k) i =
        let n = count f (fin false (suc m) e) in
        let j = size n - prec f in
        inr ((le-div_iff_mul-le (pow_pos j)).1 (le_trans (le_of_eq (sym (pow-add 2 (prec f - 1) j))) (size_reaches n (prec f - 1 + j) (inside (size n) (prec f) k (two-le_pos (prec f) (two f)) i))))
