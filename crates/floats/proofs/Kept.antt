-- A value of the format is what its own fraction rounds to, but for the sign of a zero: so rounding passes no value of the format, and adding zero leaves one where it is.
use Rattle.floats.specs.Prelude.{◌≡◌, refl, sym, ap, ◌∙◌, subst, ℕ, zero, suc, ◌+◌, ◌-◌, ◌*◌, ◌^◌, ◌≤◌, ◌<◌, lt_of_not-le, not-le_of_lt, mul-one, zero-mul, add-zero, mul_comm, mul_assoc, mul_left_comm, mul-lt-mul_of_pos_right, mul-le-mul_right, le_of_suc-le-suc, arith, Bool, true, false, not, ℤ, pos, negsuc, T, ltb→lt, leb→le, pow-add, pow_pos, pow-lt, Float, nan, inf, fin, Format, prec, emax, low, up, down, round, add, mul, neg, fits, unlike, HasValue, round_exact, back, finite, num, den, den_pos}
use Rattle.floats.specs.Fractions.{pl, mi, sign, plus, less, pl_mul, mi_mul, ord→le}
use Rattle.floats.specs.Tests.{both}
use Rattle.floats.specs.Order.{nought, le_tr, Within}
use Rattle.floats.specs.Rounding.{rnd_mono, round_rnd, round_neg, add_rnd}
use Rattle.floats.specs.Sums.{dens}

ruleset mc = (mul_assoc, mul_comm, mul_left_comm)

-- ---- what `fits` says of m * 2 ^ e
pub record Fine (f : Format) (m : ℕ) (e : ℤ) : Type 0 where
  pub digits : m < 2 ^ prec f
  pub unit : down e ≤ 2 ^ low f
  pub range : m * up e < 2 ^ suc (emax f) * down e

pub fine : (f : Format) (s : Bool) (m : ℕ) (e : ℤ) → T (fits f (fin s (suc m) e)) → Fine f (suc m) e
unfolding fits
fine f s m e t =
    let h = simp both at t in
    record {
      digits = ltb→lt (suc m) (2 ^ prec f) h.0.0.1;
      unit = leb→le (down e) (2 ^ low f) h.0.1;
      range = ltb→lt (suc m * up e) (2 ^ suc (emax f) * down e) h.1;
    }

-- ---- its own fraction rounds to it
pos_value : (f : Format) (s : Bool) (m k : ℕ) → Fine f m (pos k) → HasValue (round f s (m * up (pos k)) 1) s (m * up (pos k)) 1
pos_value f s m k h =
    let L = low f in
    round_exact f s (m * 2 ^ k) 1 m (k + L) (pow_pos 0) h.digits
    (subst (λ (x : ℕ). x < 2 ^ (L + suc (emax f))) (sym (split m k L))
    (subst (λ (x : ℕ). m * 2 ^ k * 2 ^ L < x) (sym (pow-add 2 L (suc (emax f)) ∙ mul_comm (2 ^ L) (2 ^ suc (emax f))))
    (mul-lt-mul_of_pos_right (subst (λ (x : ℕ). m * 2 ^ k < x) (mul-one (2 ^ suc (emax f))) h.range) (pow_pos L))))
    (sym (split m k L) ∙ sym (mul-one (m * 2 ^ (k + L))))
  where
    split : (m k l : ℕ) → m * 2 ^ (k + l) ≡ m * 2 ^ k * 2 ^ l
    split m k l = ap (λ (x : ℕ). m * x) (pow-add 2 k l) ∙ sym (mul_assoc m (2 ^ k) (2 ^ l))

pub fewer : (k l : ℕ) → 2 ^ k ≤ 2 ^ l → k ≤ l
fewer k l h = le_of_suc-le-suc (lt_of_not-le (λ (g : suc l ≤ k). not-le_of_lt (pow-lt g) h))

neg_value : (f : Format) (s : Bool) (m k : ℕ) → Fine f m (negsuc k) → HasValue (round f s (m * 1) (2 ^ suc k)) s (m * 1) (2 ^ suc k)
neg_value f s m k h =
    let L = low f in
    let K = suc k in
    let j = L - K in
    let e : 2 ^ j * 2 ^ K ≡ 2 ^ L = sym (pow-add 2 j K) ∙ ap (λ (x : ℕ). 2 ^ x) (back L K (fewer K L h.unit)) in
    let e' : m * 2 ^ j * 2 ^ K ≡ m * 2 ^ L = mul_assoc m (2 ^ j) (2 ^ K) ∙ ap (λ (x : ℕ). m * x) e in
    round_exact f s (m * 1) (2 ^ K) m j (pow_pos K) h.digits
    (lt_of_mul (m * 2 ^ j) (2 ^ (L + suc (emax f))) (2 ^ K)
    (subst (λ (x : ℕ). x < 2 ^ (L + suc (emax f)) * 2 ^ K) (sym e')
    (subst (λ (x : ℕ). m * 2 ^ L < x) (turn (2 ^ suc (emax f)) (2 ^ K) (2 ^ L) ∙ ap (λ (x : ℕ). x * 2 ^ K) (sym (pow-add 2 L (suc (emax f)))))
    (mul-lt-mul_of_pos_right (subst (λ (x : ℕ). x < 2 ^ suc (emax f) * 2 ^ K) (mul-one m) h.range) (pow_pos L)))))
    (ap (λ (x : ℕ). x * 2 ^ L) (mul-one m) ∙ sym e')
  where
    turn : (a b c : ℕ) → a * b * c ≡ c * a * b
    turn a b c = simp mc

    lt_of_mul : (a b c : ℕ) → a * c < b * c → a < b
    lt_of_mul a b c h = lt_of_not-le (λ (g : b ≤ a). not-le_of_lt h (mul-le-mul_right c g))

own_value : (f : Format) (x : Float) → T (fits f x) → T (finite x) → HasValue (round f (sign x) (num x) (den x)) (sign x) (num x) (den x)
own_value f nan t p = absurd p
own_value f (inf s) t p = absurd p
own_value f (fin s zero e) t p =
    round_exact f s (0 * up e) (down e) 0 0 (den_pos (fin s 0 e)) (pow_pos (prec f)) (pow_pos (low f + suc (emax f)))
    (ap (λ (x : ℕ). x * 2 ^ low f) (zero-mul (up e)) ∙ zero-mul (2 ^ low f) ∙ sym (zero-mul (down e)))
own_value f (fin s (suc m) (pos k)) t p = pos_value f s (suc m) k (fine f s m (pos k) t)
own_value f (fin s (suc m) (negsuc k)) t p = neg_value f s (suc m) k (fine f s m (negsuc k) t)

same_value : (x y : Float) → T (finite y) → HasValue x (sign y) (num y) (den y) → Within x y y
same_value nan y q h = absurd h
same_value (inf t) y q h = absurd h
same_value (fin t m e) y q h =
    let x = fin t m e in
    let s = sign y in
    let a : plus x * den y ≡ plus y * down e = rw h.0 (sym (pl_mul s (m * up e) (den y)) ∙ ap (pl s) h.1 ∙ pl_mul s (num y) (down e)) in
    let b : less x * den y ≡ less y * down e = rw h.0 (sym (mi_mul s (m * up e) (den y)) ∙ ap (mi s) h.1 ∙ mi_mul s (num y) (down e)) in
    (ord→le y x q tt (omega arith), ord→le x y tt q (omega arith))

pub plus_nought : (f : Format) (x : Float) → T (fits f x) → T (finite x) → Within (add f x nought) x x
plus_nought f x t p =
    let y = round f (sign x) (num x) (den x) in
    let z = add f x nought in
    let v = same_value y x p (own_value f x t p) in
    let a = add_rnd f x nought p tt in
    let b = round_rnd f (sign x) (num x) (den x) in (
      le_tr x y z v.0 (rnd_mono f y z _ _ (den x) _ _ (den x * 1) (den_pos x) (dens x nought) b a (simp (mul-one, zero-mul, add-zero) (omega arith))),
      le_tr z y x (rnd_mono f z y _ _ (den x * 1) _ _ (den x) (dens x nought) (den_pos x) a b (simp (mul-one, zero-mul, add-zero) (omega arith))) v.1,
    )

-- ---- a product with the other sign
pub neg_neg : (x : Float) → neg (neg x) ≡ x
unfolding neg
neg_neg nan = refl
neg_neg (inf true) = refl
neg_neg (inf false) = refl
neg_neg (fin true m e) = refl
neg_neg (fin false m e) = refl

round_turned : (f : Format) (s : Bool) (a c : ℕ) → round f (not s) a c ≡ neg (round f s a c)
round_turned f false a c = round_neg f a c
round_turned f true a c = sym (ap neg (round_neg f a c) ∙ neg_neg (round f false a c))

unlike_turned : (s t : Bool) → unlike s (not t) ≡ not (unlike s t)
unlike_turned true true = refl
unlike_turned true false = refl
unlike_turned false true = refl
unlike_turned false false = refl

pub mul_neg : (f : Format) (x y : Float) → T (finite x) → T (finite y) → mul f x (neg y) ≡ neg (mul f x y)
unfolding mul neg
mul_neg f nan y p q = absurd p
mul_neg f (inf s) y p q = absurd p
mul_neg f (fin s m e) nan p q = absurd q
mul_neg f (fin s m e) (inf t) p q = absurd q
mul_neg f (fin s m e) (fin t n d) p q =
    ap (λ (u : Bool). round f u (m * up e * (n * up d)) (down e * down d)) (unlike_turned s t) ∙ round_turned f (unlike s t) (m * up e * (n * up d)) (down e * down d)
