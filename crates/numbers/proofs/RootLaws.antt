-- `root` is the nearest value (`root_meets`), and there is only one such (`root_only`).
-- A value has at most prec digits, so none lies between a whole number of prec digits and the next, at the scale of `root_of`: what is closest there is nearest of all.
use Rattle.floats.specs.Prelude.{◌≡◌, refl, sym, ap, ◌∙◌, subst, Bool, true, false, cond, ℕ, zero, suc, ◌+◌, ◌-◌, ◌*◌, ◌/◌, ◌^◌, ◌≤◌, ◌<◌, zero-le, le_dest, zero-mul, one-mul, div-eq_of_lt, le_of_mul-le-mul_right, le_refl, le_trans, le_of_eq, le_of_lt, lt_of_lt_of_le, lt_of_le_of_lt, lt_of_not-le, not-le_of_lt, lt_irrefl, le_of_suc-le-suc, le_antisymm, zero-lt-suc, mul-one, mul_comm, mul_assoc, mul_right_comm, mul-le-mul, mul-le-mul_right, mul-lt-mul_of_pos_right, mul-pos, lt_of_mul-lt-mul_right, mul-div_cancel, div-one, div-lt_iff_lt-mul, arith, dec_le, ℤ, pos, negsuc, T, lt→ltb, lit≤, pow-add, pow_pos, pow_mono, pow-lt, shl_lt, Float, nan, inf, fin, Format, binary32, binary64, prec, emax, low, up, down, size, odd, fits, to_bits, of_bits, hid, top, back, size-lt, size-le, size_reaches, positive, add-one, reach, two, two-le_pos, odd-fits, down_pos}
use lib.Ieee.Bits.{of_bits-to_bits}
use Rattle.floats.proofs.Kept.{fine, fewer}
use Rattle.numbers.specs.Root.{count, square, Value, Nearest, Closest, near_root, root_of, root, Meets, Only}
use Rattle.numbers.proofs.RootWhole.{near_root_closest, four, count_odd, size_gt, root_of_by, closest_ge, closest_le}

-- ---- a value of f is m * 2 ^ j units, with an m of at most prec digits
abbrev Spread : Format → Float → Type 0
Spread f x = (m : ℕ) × (j : ℕ) × (count f x ≡ m * 2 ^ j) × (m < 2 ^ prec f)

place : (l m : ℕ) (e : ℤ) → down e ≤ 2 ^ l → (j : ℕ) × (m * up e * 2 ^ l / down e ≡ m * 2 ^ j)
place l m (pos a) h = (a + l, div-one (m * 2 ^ a * 2 ^ l) ∙ mul_assoc m (2 ^ a) (2 ^ l) ∙ ap (λ (x : ℕ). m * x) (sym (pow-add 2 a l)))
place l m (negsuc a) h =
    let le : suc a ≤ l = fewer (suc a) l h in (
      l - suc a,
      ap (λ (x : ℕ). x * 2 ^ l / 2 ^ suc a) (mul-one m)
          ∙ ap (λ (x : ℕ). m * x / 2 ^ suc a) (ap (λ (x : ℕ). 2 ^ x) (sym (back l (suc a) le)) ∙ pow-add 2 (l - suc a) (suc a))
          ∙ ap (λ (x : ℕ). x / 2 ^ suc a) (sym (mul_assoc m (2 ^ (l - suc a)) (2 ^ suc a)))
          ∙ mul-div_cancel (m * 2 ^ (l - suc a)) (pow_pos (suc a)),
    )

pub spread_fits : (f : Format) (s : Bool) (m : ℕ) (e : ℤ) → T (fits f (fin s m e)) → Spread f (fin s m e)
unfolding count fits
spread_fits f s zero e h = (0, 0, ap (λ (x : ℕ). x * 2 ^ low f / down e) (zero-mul (up e)) ∙ ap (λ (x : ℕ). x / down e) (zero-mul (2 ^ low f)) ∙ div-eq_of_lt (down_pos e), pow_pos (prec f))
spread_fits f s (suc m) e h =
    let t = fine f s m e h in
    let pl = place (low f) (suc m) e t.unit in
    (suc m, pl.0, pl.1, t.digits)

spread : (f : Format) (y : Float) → Value f y → Spread f y
spread f nan h = absurd h
spread f (inf s) h = absurd h
spread f (fin true m e) h = absurd h
spread f (fin false m e) h = spread_fits f false m e h

-- ---- between q * 2 ^ k and (q + 1) * 2 ^ k, with a q of prec digits, there is no value of f
spaced : (p q k v m j : ℕ) → 0 < p → v ≡ m * 2 ^ j → m < 2 ^ p → 2 ^ (p - 1) ≤ q → q * 2 ^ k < v → (q + 1) * 2 ^ k ≤ v
spaced p q k v m j P e small big h = go (dec_le k j)
  where
    room : j < k → p + j ≤ p - 1 + k
    room g = omega arith

    up_one : (b : ℕ) → q < b → q + 1 ≤ b
    up_one b g = omega arith

    go : Dec (k ≤ j) → (q + 1) * 2 ^ k ≤ v
    go (yes g) =
        let is : v ≡ m * 2 ^ (j - k) * 2 ^ k = e ∙ ap (λ (x : ℕ). m * x) (ap (λ (x : ℕ). 2 ^ x) (sym (back j k g)) ∙ pow-add 2 (j - k) k) ∙ sym (mul_assoc m (2 ^ (j - k)) (2 ^ k)) in
        le_trans (mul-le-mul_right (2 ^ k) (up_one (m * 2 ^ (j - k)) (lt_of_mul-lt-mul_right (2 ^ k) (subst (λ (x : ℕ). q * 2 ^ k < x) is h)))) (le_of_eq (sym is))
    go (no g) =
        let less : v ≤ q * 2 ^ k =
        le_trans (le_of_eq e) (le_trans (le_of_lt (shl_lt p j small)) (le_trans (pow_mono (room (lt_of_not-le g))) (le_trans (le_of_eq (pow-add 2 (p - 1) k)) (mul-le-mul_right (2 ^ k) big)))) in
        absurd (lt_irrefl v (lt_of_le_of_lt less h))

-- ---- an x above 0, in square units, is w * 4 ^ k with a w of 2 * prec digits, or one fewer
abbrev pub Scaled : Format → ℕ → Type 0
Scaled f n = (w : ℕ) × (k : ℕ) × (n ≡ w * 2 ^ (k + k)) × (2 ^ (prec f - 1 + (prec f - 1)) ≤ w) × (w < 2 ^ (prec f + prec f))

roomy : (f : Format) → prec f + prec f ≤ low f
roomy binary32 = lit≤ tt
roomy binary64 = lit≤ tt

pairs : (z p i : ℕ) → 2 ≤ p → z ≤ p + i → (z + 1) / 2 - p + ((z + 1) / 2 - p) ≤ i
pairs z p i P a = omega arith

enough : (z p : ℕ) → p + p < z → z ≤ p + p + ((z + 1) / 2 - p + ((z + 1) / 2 - p))
enough z p a = omega arith

at_most : (z p : ℕ) → 0 < p → p + p < z → p - 1 + (p - 1) + ((z + 1) / 2 - p + ((z + 1) / 2 - p)) < z
at_most z p P a = omega arith

scaled : (f : Format) (c m j : ℕ) → c ≡ m * 2 ^ j → m < 2 ^ prec f → 0 < c → Scaled f (c * 2 ^ low f)
scaled f c m j e small C =
    let p = prec f in
    let n = c * 2 ^ low f in
    let i = j + low f in
    let n_is : n ≡ m * 2 ^ i = ap (λ (x : ℕ). x * 2 ^ low f) e ∙ mul_assoc m (2 ^ j) (2 ^ low f) ∙ ap (λ (x : ℕ). m * x) (sym (pow-add 2 j (low f))) in
    let z = size n in
    let z_le : z ≤ p + i = size-le n (p + i) (subst (λ (x : ℕ). x < 2 ^ (p + i)) (sym n_is) (shl_lt p i small)) in
    let z_gt : p + p < z = lt_of_le_of_lt (roomy f) (size_gt n (low f) (le_trans (le_of_eq (sym (one-mul (2 ^ low f)))) (mul-le-mul_right (2 ^ low f) C))) in
    let k = (z + 1) / 2 - p in
    let k_le : k + k ≤ i = pairs z p i (two f) z_le in
    let w = m * 2 ^ (i - (k + k)) in
    let is : n ≡ w * 2 ^ (k + k) = n_is ∙ ap (λ (x : ℕ). m * x) (ap (λ (x : ℕ). 2 ^ x) (sym (back i (k + k) k_le)) ∙ pow-add 2 (i - (k + k)) (k + k)) ∙ sym (mul_assoc m (2 ^ (i - (k + k))) (2 ^ (k + k))) in (
      w,
      k,
      is,
      le_of_mul-le-mul_right (le_trans (le_of_eq (sym (pow-add 2 (p - 1 + (p - 1)) (k + k)))) (le_trans (size_reaches n (p - 1 + (p - 1) + (k + k)) (at_most z p (two-le_pos p (two f)) z_gt)) (le_of_eq is))) (pow_pos (k + k)),
      lt_of_mul-lt-mul_right (2 ^ (k + k)) (lt_of_le_of_lt (le_of_eq (sym is)) (lt_of_lt_of_le (size-lt n) (le_trans (pow_mono (enough z p z_gt)) (le_of_eq (pow-add 2 (p + p) (k + k)))))),
    )

-- ---- the middles, with K for 2 ^ k
sq_lt : (a b : ℕ) → a < b → a * a < b * b
sq_lt a b h = subst (λ (x : ℕ). a * a < x * x) (le_dest h).1 (at a (le_dest h).0)
  where
    at : (a d : ℕ) → a * a < (suc a + d) * (suc a + d)
    at a d = omega arith

middle_under : (K q w v : ℕ) → v < q * K → q * q ≤ w → (v + q * K) * (v + q * K) < 4 * (w * (K * K))
middle_under K q w v h c =
    let s : (v + q * K) * (v + q * K) < (q * K + q * K) * (q * K + q * K) = sq_lt (v + q * K) (q * K + q * K) (omega arith) in
    let t : q * q * (K * K) ≤ w * (K * K) = mul-le-mul_right (K * K) c in
    omega arith

middle_up : (K u w v : ℕ) → 0 < K → v ≤ u * K → suc u * suc u < w + suc u → (v + suc u * K) * (v + suc u * K) < 4 * (w * (K * K))
middle_up K u w v P h c =
    let g : v + suc u * K ≤ (2 * u + 1) * K = omega arith in
    let s : (v + suc u * K) * (v + suc u * K) ≤ (2 * u + 1) * K * ((2 * u + 1) * K) = mul-le-mul g g in
    let t : (u * u + u + 1) * (K * K) ≤ w * (K * K) = mul-le-mul_right (K * K) (omega arith) in
    let k : 0 < K * K = mul-pos P P in
    omega arith

middle_over : (K q w v : ℕ) → 0 < K → (q + 1) * K ≤ v → w ≤ q * q + q → 4 * (w * (K * K)) < (v + q * K) * (v + q * K)
middle_over K q w v P h c =
    let g : (2 * q + 1) * K ≤ v + q * K = omega arith in
    let s : (2 * q + 1) * K * ((2 * q + 1) * K) ≤ (v + q * K) * (v + q * K) = mul-le-mul g g in
    let t : w * (K * K) ≤ (q * q + q) * (K * K) = mul-le-mul_right (K * K) c in
    let k : 0 < K * K = mul-pos P P in
    omega arith

-- ---- what `root_of` makes is a value of f
pub value_odd : (f : Format) (d q k l : ℕ) → T (fits f (odd d false q k l)) → Value f (odd d false q k l)
unfolding odd
value_odd f d zero k l h = h
value_odd f d (suc q) k l h = h

pow_lt_back : (i p : ℕ) → 2 ^ i < 2 ^ p → i < p
pow_lt_back i p h = lt_of_not-le (λ (g : p ≤ i). lt_irrefl (2 ^ i) (lt_of_lt_of_le h (pow_mono g)))

fits_k : (p e l k : ℕ) → 2 ≤ p → p ≤ suc e → p - 1 + (p - 1) + (k + k) < l + suc e + l → suc (p + k) ≤ l + suc e
fits_k p e l k a b h = omega arith

pub root_fits : (f : Format) (n w k q : ℕ) → n ≡ w * 2 ^ (k + k) → 2 ^ (prec f - 1 + (prec f - 1)) ≤ w → n < 2 ^ (low f + suc (emax f) + low f) → q ≤ 2 ^ prec f → T (fits f (odd (suc (prec f)) false q k (low f)))
root_fits f n w k q e lo hi c =
    let p = prec f in
    let l = low f in
    let b : p - 1 + (p - 1) + (k + k) < l + suc (emax f) + l =
    pow_lt_back (p - 1 + (p - 1) + (k + k)) (l + suc (emax f) + l) (lt_of_le_of_lt (le_trans (le_of_eq (pow-add 2 (p - 1 + (p - 1)) (k + k))) (le_trans (mul-le-mul_right (2 ^ (k + k)) lo) (le_of_eq (sym e)))) hi) in
    odd-fits f (suc p) false q k (lt_of_le_of_lt c (pow-lt (le_refl (suc p)))) c
    (lt_of_le_of_lt (mul-le-mul_right (2 ^ k) c) (lt_of_le_of_lt (le_of_eq (sym (pow-add 2 p k))) (pow-lt (fits_k p (emax f) l k (two f) (reach f) b))))

-- ---- the whole, at the w and k of any such way to write n
module _ (f : Format) (x : Float) (w k q : ℕ) (e : square f x ≡ w * 2 ^ (k + k)) (lo : 2 ^ (prec f - 1 + (prec f - 1)) ≤ w) (hi : w < 2 ^ (prec f + prec f)) (c : Closest w q) where
  is_square : square f x ≡ w * (2 ^ k * 2 ^ k)
  is_square = e ∙ ap (λ (z : ℕ). w * z) (pow-add 2 k k)

  q_ge : 2 ^ (prec f - 1) ≤ q
  q_ge = closest_ge w q (2 ^ (prec f - 1)) (le_trans (le_of_eq (sym (pow-add 2 (prec f - 1) (prec f - 1)))) lo) c

  q_le : q ≤ 2 ^ prec f
  q_le = closest_le w q (2 ^ prec f) (lt_of_lt_of_le hi (le_of_eq (pow-add 2 (prec f) (prec f)))) c

  above_at : (y : Float) → Value f y → count f y < q * 2 ^ k → (count f y + q * 2 ^ k) * (count f y + q * 2 ^ k) < 4 * square f x
  above_at y v h = subst (λ (z : ℕ). (count f y + q * 2 ^ k) * (count f y + q * 2 ^ k) < 4 * z) (sym is_square) (go (dec_le (q * q) w) q refl)
    where
      sp : Spread f y
      sp = spread f y v

      bigger : (u : ℕ) → w < suc u * suc u → 2 ^ (prec f - 1) ≤ u
      bigger u g = le_of_suc-le-suc (lt_of_not-le (λ (b : suc u ≤ 2 ^ (prec f - 1)). lt_irrefl w (lt_of_lt_of_le g (le_trans (mul-le-mul b b) (le_trans (le_of_eq (sym (pow-add 2 (prec f - 1) (prec f - 1)))) lo)))))

      go : Dec (q * q ≤ w) → (r : ℕ) → q ≡ r → (count f y + q * 2 ^ k) * (count f y + q * 2 ^ k) < 4 * (w * (2 ^ k * 2 ^ k))
      go (yes g) r i = middle_under (2 ^ k) q w (count f y) h g
      go (no g) zero i = absurd (g (subst (λ (z : ℕ). z * z ≤ w) (sym i) zero-le))
      go (no g) (suc u) i =
          let g' : w < suc u * suc u = subst (λ (z : ℕ). w < z * z) i (lt_of_not-le g) in
          let h' : count f y < (u + 1) * 2 ^ k = subst (λ (z : ℕ). count f y < z * 2 ^ k) (i ∙ sym (add-one u)) h in
          let v_le : count f y ≤ u * 2 ^ k = le_of_suc-le-suc (lt_of_not-le (λ (b : suc (u * 2 ^ k) ≤ count f y). not-le_of_lt h' (spaced (prec f) u k (count f y) sp.0 sp.1 (two-le_pos (prec f) (two f)) sp.2 sp.3 (bigger u g') b))) in
          subst (λ (z : ℕ). (count f y + z * 2 ^ k) * (count f y + z * 2 ^ k) < 4 * (w * (2 ^ k * 2 ^ k))) (sym i)
          (middle_up (2 ^ k) u w (count f y) (pow_pos k) v_le (subst (λ (z : ℕ). z * z < w + z) i c.0))

  below_at : (y : Float) → Value f y → q * 2 ^ k < count f y → 4 * square f x < (count f y + q * 2 ^ k) * (count f y + q * 2 ^ k)
  below_at y v h =
      let sp = spread f y v in
      subst (λ (z : ℕ). 4 * z < (count f y + q * 2 ^ k) * (count f y + q * 2 ^ k)) (sym is_square)
      (middle_over (2 ^ k) q w (count f y) (pow_pos k) (spaced (prec f) q k (count f y) sp.0 sp.1 (two-le_pos (prec f) (two f)) sp.2 sp.3 q_ge h) c.1)

  nearest_at : square f x < 2 ^ (low f + suc (emax f) + low f) → Nearest f x (odd (suc (prec f)) false q k (low f))
  nearest_at n_lt =
      let r = odd (suc (prec f)) false q k (low f) in
      let i : q * 2 ^ k ≡ count f r = sym (count_odd f (suc (prec f)) false q k) in
      record {
        value = value_odd f (suc (prec f)) q k (low f) (root_fits f (square f x) w k q e lo n_lt q_le);
        above = λ y v. subst (λ (z : ℕ). count f y < z → (count f y + z) * (count f y + z) < 4 * square f x) i (above_at y v);
        below = λ y v. subst (λ (z : ℕ). z < count f y → 4 * square f x < (count f y + z) * (count f y + z)) i (below_at y v);
      }

-- ---- `root` is nearest
in_range : (f : Format) (m : ℕ) (e : ℤ) → m * up e < 2 ^ suc (emax f) * down e → m * up e * 2 ^ low f / down e * 2 ^ low f < 2 ^ (low f + suc (emax f) + low f)
in_range f m e h =
    let l = 2 ^ low f in
    let a : m * up e * l < 2 ^ suc (emax f) * l * down e = lt_of_lt_of_le (mul-lt-mul_of_pos_right h (pow_pos (low f))) (le_of_eq (mul_right_comm (2 ^ suc (emax f)) (down e) l)) in
    lt_of_lt_of_le (mul-lt-mul_of_pos_right ((div-lt_iff_lt-mul (down_pos e)).1 a) (pow_pos (low f)))
    (le_of_eq (ap (λ (z : ℕ). z * l) (mul_comm (2 ^ suc (emax f)) l ∙ sym (pow-add 2 (low f) (suc (emax f)))) ∙ sym (pow-add 2 (low f + suc (emax f)) (low f))))

square_is : (f : Format) (s : Bool) (m : ℕ) (e : ℤ) → square f (fin s m e) ≡ m * up e * 2 ^ low f / down e * 2 ^ low f
unfolding square
square_is f s m e = refl

pub square_count : (f : Format) (x : Float) → square f x ≡ count f x * 2 ^ low f
unfolding square
square_count f x = refl

pub root_pos : (f : Format) (m : ℕ) (e : ℤ) → root f (fin false (suc m) e) ≡ root_of f (square f (fin false (suc m) e))
unfolding root
root_pos f m e = refl

-- above zero, and finite: the sizes of x in units, and in square units
pub square_lt : (f : Format) (s : Bool) (m : ℕ) (e : ℤ) → T (fits f (fin s (suc m) e)) → square f (fin s (suc m) e) < 2 ^ (low f + suc (emax f) + low f)
square_lt f s m e h = subst (λ (z : ℕ). z < 2 ^ (low f + suc (emax f) + low f)) (sym (square_is f s (suc m) e)) (in_range f (suc m) e (fine f s m e h).range)

pub count_pos : (f : Format) (s : Bool) (m : ℕ) (e : ℤ) → T (fits f (fin s (suc m) e)) → 0 < count f (fin s (suc m) e)
unfolding count
count_pos f s m e h =
    let pl = place (low f) (suc m) e (fine f s m e h).unit in
    subst (λ (z : ℕ). 0 < z) (sym pl.1) (mul-pos (zero-lt-suc m) (pow_pos pl.0))

pub root_nearest : (f : Format) (x : Float) → T (fits f x) → T (positive x) → Nearest f x (root f x)
root_nearest f nan h p = absurd p
root_nearest f (inf s) h p = absurd p
root_nearest f (fin true m e) h p = absurd p
root_nearest f (fin false zero e) h p = absurd p
root_nearest f (fin false (suc m) e) h p =
    let x = fin false (suc m) e in
    let sp = spread_fits f false (suc m) e h in
    let sc = scaled f (count f x) sp.0 sp.1 sp.2 sp.3 (count_pos f false m e h) in
    let w = sc.0 in
    let k = sc.1 in
    let q = near_root (prec f) w in
    let is : square f x ≡ w * 2 ^ (k + k) = square_count f x ∙ sc.2 in
    let c : Closest w q = near_root_closest (prec f) w (lt_of_lt_of_le (pow_pos (prec f - 1 + (prec f - 1))) sc.3) (subst (λ (z : ℕ). w < z) (sym (four (prec f))) sc.4) in
    subst (λ (r : Float). Nearest f x r) (sym (root_pos f m e ∙ root_of_by f (square f x) w k q is sc.3 sc.4 c))
    (nearest_at f x w k q is sc.3 sc.4 c (square_lt f false m e h))

-- ---- there is one nearest value
pub by_count : (f : Format) (s : Bool) (m : ℕ) (e : ℤ) → to_bits f (fin s m e) ≡ cond s (top f) 0 + (size (count f (fin s m e)) - prec f) * hid f + count f (fin s m e) / 2 ^ (size (count f (fin s m e)) - prec f)
unfolding to_bits count
by_count f s m e = refl

pub value_bits : (f : Format) (r : Float) → Value f r → r ≡ of_bits f (0 + (size (count f r) - prec f) * hid f + count f r / 2 ^ (size (count f r) - prec f))
value_bits f nan v = absurd v
value_bits f (inf s) v = absurd v
value_bits f (fin true m e) v = absurd v
value_bits f (fin false m e) v = sym (of_bits-to_bits f (fin false m e) v) ∙ ap (of_bits f) (by_count f false m e)

pub nearest_unique : (f : Format) (x r r' : Float) → Nearest f x r → Nearest f x r' → r ≡ r'
nearest_unique f x r r' a b =
    value_bits f r a.value
    ∙ ap (λ (n : ℕ). of_bits f (0 + (size n - prec f) * hid f + n / 2 ^ (size n - prec f))) same
    ∙ sym (value_bits f r' b.value)
  where
    not_less : (s t : Float) → Nearest f x s → Nearest f x t → count f s < count f t → ⊥
    not_less s t n o l = no_both (count f s) (count f t) (4 * square f x) (o.above s n.value l) (n.below t o.value l)
      where
        no_both : (a b z : ℕ) → (a + b) * (a + b) < z → z < (b + a) * (b + a) → ⊥
        no_both a b z g h = omega arith

    same : count f r ≡ count f r'
    same =
        le_antisymm
        (le_of_suc-le-suc (lt_of_not-le (λ (g : suc (count f r') ≤ count f r). not_less r' r b a g)))
        (le_of_suc-le-suc (lt_of_not-le (λ (g : suc (count f r) ≤ count f r'). not_less r r' a b g)))

-- ---- so `root` is the one function that meets `IsRoot`
pub root_meets : (f : Format) → Meets f
unfolding root
root_meets f nan h = refl
root_meets f (inf true) h = refl
root_meets f (inf false) h = refl
root_meets f (fin true zero e) h = refl
root_meets f (fin false zero e) h = refl
root_meets f (fin true (suc m) e) h = refl
root_meets f (fin false (suc m) e) h = root_nearest f (fin false (suc m) e) h (lt→ltb 0 (suc m) (zero-lt-suc m))

pub root_only : (f : Format) → Only f
unfolding root
root_only f nan r h i = i
root_only f (inf true) r h i = i
root_only f (inf false) r h i = i
root_only f (fin true zero e) r h i = i
root_only f (fin false zero e) r h i = i
root_only f (fin true (suc m) e) r h i = i
root_only f (fin false (suc m) e) r h i = nearest_unique f (fin false (suc m) e) r (root f (fin false (suc m) e)) i (root_nearest f (fin false (suc m) e) h (lt→ltb 0 (suc m) (zero-lt-suc m)))
