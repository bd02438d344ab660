-- Each operation rounds one exact fraction, and rounding keeps the order of fractions of either sign.
use Rattle.std.specs.Prelude.{◌≡◌, ◌⊎◌, ℕ, zero, suc, ◌+◌, ◌-◌, ◌*◌, ◌^◌, ◌≤◌, ◌<◌, Bool, true, false, not, ◌&&◌, cond, T, ltb, Float}
use Rattle.std.proofs.Math.Path.{refl}
use Rattle.std.proofs.Common.{sym, ap, ◌∙◌, subst, inl, inr, le_of_eq, zero-mul, mul_comm, le_of_mul-le-mul_right, arith, pow_pos, ltb→lt, nltb→le}
use Rattle.std.proofs.Math.Nat.{mul-sub, eq_of_mul-eq-mul_right}
use Rattle.std.specs.Float.{nan, inf, fin, Format}
use Rattle.std.specs.Float.Ieee.{prec, emax, low, up, down, odd, units, round, sum, add, neg, le}
use Rattle.std.specs.Float.Ieee.Fits.{round_is}
use Rattle.std.specs.Float.Ieee.Exact.{HasValue, round_exact}
use Rattle.std.specs.Float.Ieee.Order.{round_mono}
use Rattle.std.specs.Float.Ieee.Scale.{finite}
use Rattle.std.specs.Float.Ieee.Positive.{num, den}
use Rattle.floats.specs.Fractions.{pl, mi, sign, plus, less, Ord, pl_mul, mi_mul, ord→le, expand}
use Rattle.floats.specs.Order.{le_tr, neg_le}

-- ---- rounding with a sign
odd_neg : (d q k l : ℕ) → odd d true q k l ≡ neg (odd d false q k l)
unfolding odd neg
odd_neg d zero k l = refl
odd_neg d (suc q) k l = refl

units_neg : (f : Format) (q k : ℕ) → units f true q k ≡ neg (units f false q k)
unfolding units
units_neg f q k = go (ltb (q * 2 ^ k) (2 ^ (low f + suc (emax f))))
  where
    go : (b : Bool) → cond b (odd (suc (prec f)) true q k (low f)) (inf true) ≡ neg (cond b (odd (suc (prec f)) false q k (low f)) (inf false))
    go true = odd_neg (suc (prec f)) q k (low f)
    go false = unfold neg in refl

pub round_neg : (f : Format) (a c : ℕ) → round f true a c ≡ neg (round f false a c)
round_neg f a c = round_is f true a c ∙ units_neg f _ _ ∙ ap neg (sym (round_is f false a c))

pub zero_value : (f : Format) (s : Bool) (c : ℕ) → 0 < c → HasValue (round f s 0 c) s 0 c
zero_value f s c C = round_exact f s 0 c 0 0 C (pow_pos (prec f)) (pow_pos (low f + suc (emax f))) (zero-mul (2 ^ low f) ∙ sym (zero-mul c))

pub value_zero : (x : Float) (s : Bool) (c : ℕ) → 0 < c → HasValue x s 0 c → T (finite x) × (num x ≡ 0)
value_zero nan s c C h = absurd h
value_zero (inf t) s c C h = absurd h
value_zero (fin t m e) s c C h = (tt, eq_of_mul-eq-mul_right c C (m * up e) 0 (h.1 ∙ zero-mul (down e) ∙ sym (zero-mul c)))

pl_zero : (s : Bool) → pl s 0 ≡ 0
pl_zero true = refl
pl_zero false = refl

mi_zero : (s : Bool) → mi s 0 ≡ 0
mi_zero true = refl
mi_zero false = refl

pub zeros : (x y : Float) → T (finite x) × (num x ≡ 0) → T (finite y) × (num y ≡ 0) → T (le x y)
zeros x y h k =
    ord→le x y h.0 k.0
    (le_of_eq (rw (h.1, k.1, pl_zero (sign x), mi_zero (sign x), pl_zero (sign y), mi_zero (sign y)) (simp zero-mul)))

-- z is (p - n) / c rounded; where p ≡ n it is a zero of either sign
abbrev pub Rnd : Format → Float → ℕ → ℕ → ℕ → Type 0
Rnd f z p n c = ((n ≤ p) × (z ≡ round f false (p - n) c)) ⊎ ((p ≤ n) × (z ≡ round f true (n - p) c))

pub apart : (a b c : ℕ) → (a - b) * c ≡ a * c - b * c
apart a b c = mul_comm (a - b) c ∙ mul-sub c a b ∙ ap (λ (z : ℕ). z - c * b) (mul_comm c a) ∙ ap (λ (z : ℕ). a * c - z) (mul_comm c b)

neg_pos : (f : Format) (a c b d : ℕ) → 0 < c → 0 < d → T (le (round f true a c) (round f false b d))
neg_pos f a c b d C D =
    let z = round f false 0 1 in
    let v : T (finite z) × (num z ≡ 0) = value_zero z false 1 (pow_pos 0) (zero_value f false 1 (pow_pos 0)) in
    let n : T (finite (round f true 0 1)) × (num (round f true 0 1) ≡ 0) = value_zero (round f true 0 1) true 1 (pow_pos 0) (zero_value f true 1 (pow_pos 0)) in
    let up : T (le z (round f false b d)) = round_mono f 0 1 b d (pow_pos 0) D (omega (arith, zero-mul d)) in
    let dn : T (le z (round f false a c)) = round_mono f 0 1 a c (pow_pos 0) C (omega (arith, zero-mul c)) in
    let dn' : T (le (round f true a c) (round f true 0 1)) = rw (round_neg f a c, round_neg f 0 1) (neg_le z (round f false a c) dn) in
    le_tr (round f true a c) (round f true 0 1) (round f false b d) dn' (le_tr (round f true 0 1) z (round f false b d) (zeros (round f true 0 1) z n v) up)

both_zero : (f : Format) (s t : Bool) (a c b d : ℕ) → 0 < c → 0 < d → a ≡ 0 → b ≡ 0 → T (le (round f s a c) (round f t b d))
both_zero f s t a c b d C D p q = rw (p, q) (zeros (round f s 0 c) (round f t 0 d) (value_zero (round f s 0 c) s c C (zero_value f s c C)) (value_zero (round f t 0 d) t d D (zero_value f t d D)))

cancel_le : (a b c : ℕ) → 0 < c → a * c ≤ b * c → a ≤ b
cancel_le a b c C h = le_of_mul-le-mul_right h C

keep : (p n c p' n' c' : ℕ) → n' ≤ p' → Ord p n c p' n' c' → (p - n) * c' ≤ (p' - n') * c
keep p n c p' n' c' g h = rw (apart p n c', apart p' n' c) (omega (arith, expand n' p' c g))

squeeze : (p n c p' n' c' : ℕ) → 0 < c → 0 < c' → n ≤ p → p' ≤ n' → Ord p n c p' n' c' → (p - n ≡ 0) × (n' - p' ≡ 0)
squeeze p n c p' n' c' C C' g g' h =
    let a : p ≤ n = cancel_le p n c' C' (omega (arith, expand p' n' c g')) in
    let b : n' ≤ p' = cancel_le n' p' c C (omega (arith, expand n p c' g)) in
    (omega arith, omega arith)

pub rnd_mono : (f : Format) (x y : Float) (p n c p' n' c' : ℕ) → 0 < c → 0 < c' → Rnd f x p n c → Rnd f y p' n' c' → Ord p n c p' n' c' → T (le x y)
rnd_mono f x y p n c p' n' c' C C' (inl (g, u)) (inl (g', v)) h = rw (u, v) (round_mono f (p - n) c (p' - n') c' C C' (keep p n c p' n' c' g' h))
rnd_mono f x y p n c p' n' c' C C' (inl (g, u)) (inr (g', v)) h =
    let z = squeeze p n c p' n' c' C C' g g' h in
    rw (u, v) (both_zero f false true (p - n) c (n' - p') c' C C' z.0 z.1)
rnd_mono f x y p n c p' n' c' C C' (inr (g, u)) (inl (g', v)) h = rw (u, v) (neg_pos f (n - p) c (p' - n') c' C C')
rnd_mono f x y p n c p' n' c' C C' (inr (g, u)) (inr (g', v)) h =
    rw (u, v, round_neg f (n - p) c, round_neg f (n' - p') c')
    (neg_le (round f false (n' - p') c') (round f false (n - p) c) (round_mono f (n' - p') c' (n - p) c C' C (keep n' p' c' n p c g (omega arith))))

-- ---- what each operation rounds
-- the sum of ±a / c and ±b / c
at : (f : Format) (s : Bool) (a b c : ℕ) → a ≡ b → round f s a c ≡ round f s b c
at f s a b c h = ap (λ (z : ℕ). round f s z c) h

sum_pn : (f : Format) (a b c : ℕ) (t : Bool) → (T t → a < b) → (T (not t) → b ≤ a) → Rnd f (cond t (round f true (b - a) c) (round f false (a - b) c)) (a + 0) (0 + b) c
sum_pn f a b c true h k = let u : a < b = h tt in inr (omega arith, at f true (b - a) (0 + b - (a + 0)) c (omega arith))
sum_pn f a b c false h k = let u : b ≤ a = k tt in inl (omega arith, at f false (a - b) (a + 0 - (0 + b)) c (omega arith))

sum_np : (f : Format) (a b c : ℕ) (t r : Bool) → (T t → a < b) → (T (not t) → b ≤ a) → (T (not r) → a ≤ b) → Rnd f (cond t (round f false (b - a) c) (round f (true && r) (a - b) c)) (0 + b) (a + 0) c
sum_np f a b c true r h k l = let u : a < b = h tt in inl (omega arith, at f false (b - a) (0 + b - (a + 0)) c (omega arith))
sum_np f a b c false true h k l = let u : b ≤ a = k tt in inr (omega arith, at f true (a - b) (a + 0 - (0 + b)) c (omega arith))
sum_np f a b c false false h k l =
    let u : b ≤ a = k tt in
    let v : a ≤ b = l tt in
    inl (omega arith, at f false (a - b) (0 + b - (a + 0)) c (omega arith))

sum_rnd : (f : Format) (s : Bool) (a : ℕ) (t : Bool) (b c : ℕ) → Rnd f (sum f s a t b c) (pl s a + pl t b) (mi s a + mi t b) c
unfolding sum
sum_rnd f false a false b c = inl (omega arith, at f false (a + b) (a + b - (0 + 0)) c (omega arith))
sum_rnd f true a true b c = inr (omega arith, at f true (a + b) (a + b - (0 + 0)) c (omega arith))
sum_rnd f false a true b c = sum_pn f a b c (ltb a b) (ltb→lt a b) (nltb→le a b)
sum_rnd f true a false b c = sum_np f a b c (ltb a b) (ltb b a) (ltb→lt a b) (nltb→le a b) (nltb→le b a)

pub rnd_at : (f : Format) (z : Float) (p n p' n' c : ℕ) → p ≡ p' → n ≡ n' → Rnd f z p n c → Rnd f z p' n' c
rnd_at f z p n p' n' c h k r = subst (λ (u : ℕ). Rnd f z u n' c) h (subst (λ (u : ℕ). Rnd f z p u c) k r)

pub add_rnd : (f : Format) (x y : Float) → T (finite x) → T (finite y) → Rnd f (add f x y) (plus x * den y + plus y * den x) (less x * den y + less y * den x) (den x * den y)
add_rnd f nan y p q = absurd p
add_rnd f (inf s) y p q = absurd p
add_rnd f (fin s m e) nan p q = absurd q
add_rnd f (fin s m e) (inf t) p q = absurd q
add_rnd f (fin s m e) (fin t n d) p q =
    rnd_at f (add f (fin s m e) (fin t n d)) _ _ _ _ (down e * down d)
    (ap (λ (z : ℕ). z + pl t (n * up d * down e)) (pl_mul s (m * up e) (down d)) ∙ ap (λ (z : ℕ). pl s (m * up e) * down d + z) (pl_mul t (n * up d) (down e)))
    (ap (λ (z : ℕ). z + mi t (n * up d * down e)) (mi_mul s (m * up e) (down d)) ∙ ap (λ (z : ℕ). mi s (m * up e) * down d + z) (mi_mul t (n * up d) (down e)))
    (unfold add in sum_rnd f s (m * up e * down d) t (n * up d * down e) (down e * down d))

pub round_rnd : (f : Format) (s : Bool) (a c : ℕ) → Rnd f (round f s a c) (pl s a) (mi s a) c
round_rnd f false a c = inl (omega arith, at f false a (a - 0) c (omega arith))
round_rnd f true a c = inr (omega arith, at f true a (a - 0) c (omega arith))
