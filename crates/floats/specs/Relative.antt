-- How far a rounded value lies from what was rounded: at most one part in 2 ^ prec, in the normal range.
use Rattle.std.specs.Prelude.{◌≡◌, refl, Bool, true, false, not, T, ltb, leb, Float}
use Rattle.std.proofs.Common.{sym, ap, ◌∙◌, subst, le_trans, le_of_eq, mul_comm, mul_assoc, mul_left_comm, add-mul, mul-le-mul_right, le_of_mul-le-mul_right, mul-pos, lt_of_not-le, mul-lt-mul_of_pos_right, div-add-mod', le-div_iff_mul-le, mod-lt, suc-mul, mul-suc, arith, pow_pos, pow-add, eqb→eq, ltb→lt, leb→le}
use Prim.Native.Nat.{ℕ, suc, ◌+◌, ◌-◌, ◌*◌, ◌^◌, ◌≤◌, ◌<◌, ◌%◌, ◌/◌, compare, Ordering}
use Rattle.std.proofs.Math.Dec.{is_le, compare_is_eq, nleb→lt}
use Rattle.std.specs.Float.{nan, inf, fin, Format}
use Rattle.std.specs.Float.Ieee.{prec, low, round, mul, div, le, size, nearest}
use Rattle.std.specs.Float.Ieee.Fits.{two, two-le_pos}
use Rattle.std.specs.Float.Ieee.Order.{round_mono, drop, kept}
use Rattle.std.specs.Float.Ieee.Scale.{finite, grid, round_val, round_under, normal_of_rounded}
use Rattle.std.specs.Float.Ieee.Positive.{num, den, den_pos, positive, positive-finite, le→cross, value→cross}
use Rattle.std.specs.Float.Ieee.Digits.{size_reaches}
use Rattle.std.specs.Float.Ieee.Nearest.{closest}
use Rattle.floats.specs.Fractions.{sign, ac}
use Rattle.floats.specs.Order.{le_rf}
use Rattle.floats.specs.Products.{finite_number}
use Rattle.floats.specs.Quotients.{num_pos, div_is, positive_up}

ruleset mc = (mul_assoc, mul_comm, mul_left_comm)

-- ---- the nearest whole number is at most a half away
bit : (q : ℕ) → q % 2 ≤ 1
bit q = omega arith

near_any : (n u q r : ℕ) (o : Ordering) → q * u + r ≡ n → r < u → (T (is_le o) → r * 2 ≤ u) → (T (not (is_le o)) → u < r * 2) → (T (compare_is_eq o) → r * 2 ≡ u) → (nearest q o * u * 2 ≤ n * 2 + u) × (n * 2 ≤ nearest q o * u * 2 + u)
near_any n u q r Ordering.lt e g h k l = let a : r * 2 ≤ u = h tt in (omega arith, omega arith)
near_any n u q r Ordering.eq e g h k l =
    let a : r * 2 ≡ u = l tt in
    let b : (q + q % 2) * u ≡ q * u + q % 2 * u = add-mul q (q % 2) u in
    let c : q % 2 * u ≤ 1 * u = mul-le-mul_right u (bit q) in
    (omega arith, omega arith)
near_any n u q r Ordering.gt e g h k l =
    let a : u < r * 2 = k tt in
    let b : suc q * u ≡ q * u + u = suc-mul q u in
    (omega arith, omega arith)

closest_near : (n u : ℕ) → 0 < u → (closest n u * u * 2 ≤ n * 2 + u) × (n * 2 ≤ closest n u * u * 2 + u)
closest_near n u U = near_any n u (n / u) (n % u) (compare (n % u * 2) u) (div-add-mod' n u) (mod-lt n U) (leb→le (n % u * 2) u) (nleb→lt (n % u * 2) u) (eqb→eq (n % u * 2) u)

-- ---- in the normal range the unit is at most one part in 2 ^ (prec - 1)
parts : (p z : ℕ) → 0 < p → p ≤ z → p - 1 + (z - p) < z
parts p z P h = omega arith

unit_small : (p n den : ℕ) → 0 < p → 0 < den → p ≤ size (n / den) → den * 2 ^ drop p n den * 2 ^ (p - 1) ≤ n
unit_small p n den P D h =
    let z = size (n / den) in
    let a : 2 ^ (p - 1 + (z - p)) * den ≤ n = (le-div_iff_mul-le D).0 (size_reaches (n / den) (p - 1 + (z - p)) (parts p z P h)) in
    le_trans (le_of_eq (simp (mul_assoc, mul_comm, mul_left_comm, pow-add))) a

halves : (p : ℕ) → 0 < p → 2 ^ p ≡ 2 * 2 ^ (p - 1)
halves p P = ap (λ (x : ℕ). 2 ^ x) (whole p P) ∙ pow-add 2 1 (p - 1)
  where
    whole : (p : ℕ) → 0 < p → p ≡ 1 + (p - 1)
    whole p P = omega arith

-- k u 2 ≤ 2 n + u and u h ≤ n: k u (2 h) ≤ n (2 h) + n
up_arith : (k u n h : ℕ) → k * u * 2 ≤ n * 2 + u → u * h ≤ n → k * u * (2 * h) ≤ n * (2 * h) + n
up_arith k u n h a b =
    let c = simp ac at (mul-le-mul_right h a) in
    simp ac (omega arith)

down_arith : (k u n h : ℕ) → n * 2 ≤ k * u * 2 + u → u * h ≤ n → n * (2 * h) ≤ k * u * (2 * h) + n
down_arith k u n h a b =
    let c = simp ac at (mul-le-mul_right h a) in
    simp ac (omega arith)

pub grid_near : (f : Format) (a c : ℕ) → 0 < c → prec f ≤ size (a * 2 ^ low f / c)
    → (grid f a c * c * 2 ^ prec f ≤ a * 2 ^ low f * 2 ^ prec f + a * 2 ^ low f) × (a * 2 ^ low f * 2 ^ prec f ≤ grid f a c * c * 2 ^ prec f + a * 2 ^ low f)
grid_near f a c C N =
    let p = prec f in
    let P : 0 < p = two-le_pos p (two f) in
    let n = a * 2 ^ low f in
    let k = kept p n c in
    let u = c * 2 ^ drop p n c in
    let h = 2 ^ (p - 1) in
    let w : grid f a c * c ≡ k * u = simp mc in
    let s = unit_small p n c P C N in
    let v = closest_near n u (mul-pos C (pow_pos (drop p n c))) in
    rw (w, halves p P) (up_arith k u n h v.0 s, down_arith k u n h v.1 s)

-- ---- the same for floats: z is a / c to one part in 2 ^ prec
abbrev pub Near : Format → Float → ℕ → ℕ → Type 0
Near f z a c = (num z * c * 2 ^ prec f ≤ a * den z * 2 ^ prec f + a * den z) × (a * den z * 2 ^ prec f ≤ num z * c * 2 ^ prec f + a * den z)

-- lo is above the smallest normal value
abbrev pub normal : Format → Float → Bool
normal f lo = ltb (2 ^ (prec f - 1) * den lo) (num lo * 2 ^ low f)

big : (G L dz nz dl nl h : ℕ) → nz * L ≡ G * dz → nl * dz ≤ nz * dl → h * dl < nl * L → 0 < dz → h < G
big G L dz nz dl nl h e k t Z =
    lt_of_not-le (λ (g : G ≤ h).
    let a = simp mc at (mul-lt-mul_of_pos_right t Z) in
    let b = simp mc at (mul-le-mul_right L k) in
    let c = simp mc at (mul-le-mul_right (dl * dz) g) in
    let d = simp mc at (ap (λ (x : ℕ). x * dl) e) in
    omega arith)

scale_up : (G L dz nz a c P : ℕ) → 0 < L → nz * L ≡ G * dz → G * c * P ≤ a * L * P + a * L → nz * c * P ≤ a * dz * P + a * dz
scale_up G L dz nz a c P Q e h =
    let k = simp ac at (mul-le-mul_right dz h) in
    let d = simp ac at (ap (λ (x : ℕ). x * (c * P)) e) in
    le_of_mul-le-mul_right {k = L} (simp ac (omega arith)) Q

scale_down : (G L dz nz a c P : ℕ) → 0 < L → nz * L ≡ G * dz → a * L * P ≤ G * c * P + a * L → a * dz * P ≤ nz * c * P + a * dz
scale_down G L dz nz a c P Q e h =
    let k = simp ac at (mul-le-mul_right dz h) in
    let d = simp ac at (ap (λ (x : ℕ). x * (c * P)) e) in
    le_of_mul-le-mul_right {k = L} (simp ac (omega arith)) Q

pub round_near : (f : Format) (a c : ℕ) (lo : Float) → 0 < c → T (finite (round f false a c)) → T (positive lo) → T (normal f lo) → T (le lo (round f false a c)) → Near f (round f false a c) a c
round_near f a c lo C F p t h =
    let z = round f false a c in
    let G = grid f a c in
    let L = 2 ^ low f in
    let v : num z * L ≡ G * den z = value→cross z G L (round_val f a c (round_under f a c F)) in
    let q = positive_up z lo z p F (h, le_rf z (finite_number z F)) in
    let g : 2 ^ (prec f - 1) < G = big G L (den z) (num z) (den lo) (num lo) (2 ^ (prec f - 1)) v (le→cross lo z p q h) (ltb→lt (2 ^ (prec f - 1) * den lo) (num lo * L) t) (den_pos z) in
    let n = grid_near f a c C (normal_of_rounded f a c g) in
    (scale_up G L (den z) (num z) a c (2 ^ prec f) (pow_pos (low f)) v n.0, scale_down G L (den z) (num z) a c (2 ^ prec f) (pow_pos (low f)) v n.1)

mul_is : (f : Format) (x y : Float) → T (positive x) → T (positive y) → mul f x y ≡ round f false (num x * num y) (den x * den y)
unfolding mul
mul_is f nan y p q = absurd p
mul_is f (inf s) y p q = absurd p
mul_is f (fin true m e) y p q = absurd p
mul_is f (fin false m e) nan p q = absurd q
mul_is f (fin false m e) (inf t) p q = absurd q
mul_is f (fin false m e) (fin true n d) p q = absurd q
mul_is f (fin false m e) (fin false n d) p q = refl

pub mul_near : (f : Format) (x y lo : Float) → T (positive x) → T (positive y) → T (finite (mul f x y)) → T (positive lo) → T (normal f lo) → T (le lo (mul f x y)) → Near f (mul f x y) (num x * num y) (den x * den y)
mul_near f x y lo p q F l t h =
    let e = mul_is f x y p q in
    subst (λ (z : Float). Near f z (num x * num y) (den x * den y)) (sym e)
    (round_near f (num x * num y) (den x * den y) lo (mul-pos (den_pos x) (den_pos y)) (subst (λ (z : Float). T (finite z)) e F) l t (subst (λ (z : Float). T (le lo z)) e h))

sign_pos : (x : Float) → T (positive x) → sign x ≡ false
sign_pos nan p = absurd p
sign_pos (inf s) p = absurd p
sign_pos (fin true m e) p = absurd p
sign_pos (fin false m e) p = refl

div_pos : (f : Format) (x y : Float) → T (positive x) → T (positive y) → div f x y ≡ round f false (num x * den y) (num y * den x)
div_pos f x y p q = div_is f x y (positive-finite x p) q ∙ ap (λ (s : Bool). round f s (num x * den y) (num y * den x)) (sign_pos x p)

pub div_near : (f : Format) (x y lo : Float) → T (positive x) → T (positive y) → T (finite (div f x y)) → T (positive lo) → T (normal f lo) → T (le lo (div f x y)) → Near f (div f x y) (num x * den y) (num y * den x)
div_near f x y lo p q F l t h =
    let e = div_pos f x y p q in
    subst (λ (z : Float). Near f z (num x * den y) (num y * den x)) (sym e)
    (round_near f (num x * den y) (num y * den x) lo (mul-pos (num_pos y q) (den_pos x)) (subst (λ (z : Float). T (finite z)) e F) l t (subst (λ (z : Float). T (le lo z)) e h))

-- ---- w * (k / t) * t, rounded three times, is at most h where w k (1 + 2 ^ -prec) ^ 2 is
once : (a b c P : ℕ) → a * P ≤ b * P + b → a * P ≤ b * suc P
once a b c P h = le_trans h (le_of_eq (sym (mul-suc b P)))

chain : (nq nt dk nk dt dq nr dp np dr P S nh dh : ℕ) → 0 < dq → 0 < dp * dk * (P * P)
    → nq * (nt * dk) * P ≤ nk * dt * dq * S → nr * (dp * dq) * P ≤ np * nq * dr * S → np * nk * (S * S) * dh ≤ nh * (dp * dk * (P * P)) → nr * nt * dh ≤ nh * (dr * dt)
chain nq nt dk nk dt dq nr dp np dr P S nh dh Q X a b t =
    let b' : nr * nt * (dp * dk * (P * P)) * dq ≤ nq * (nt * dk) * P * (np * dr * S) = simp mc (simp mc at (mul-le-mul_right (nt * dk * P) b)) in
    let a' : nq * (nt * dk) * P * (np * dr * S) ≤ np * nk * (S * S) * (dr * dt) * dq = simp mc (simp mc at (mul-le-mul_right (np * dr * S) a)) in
    let c : nr * nt * (dp * dk * (P * P)) ≤ np * nk * (S * S) * (dr * dt) = le_of_mul-le-mul_right (le_trans b' a') Q in
    let d : nr * nt * dh * (dp * dk * (P * P)) ≤ np * nk * (S * S) * dh * (dr * dt) = simp mc (simp mc at (mul-le-mul_right dh c)) in
    let e : np * nk * (S * S) * dh * (dr * dt) ≤ nh * (dr * dt) * (dp * dk * (P * P)) = simp mc (simp mc at (mul-le-mul_right (dr * dt) t)) in
    le_of_mul-le-mul_right (le_trans d e) X

abbrev pub room : Format → Float → Float → Float → Bool
room f w k h = leb (num w * num k * (suc (2 ^ prec f) * suc (2 ^ prec f)) * den h) (num h * (den w * den k * (2 ^ prec f * 2 ^ prec f)))

pub undone : (f : Format) (w k t h lo lo' : Float) → T (positive w) → T (positive k) → T (positive t)
    → T (positive lo) → T (normal f lo) → T (finite (div f k t)) → T (le lo (div f k t))
    → T (positive lo') → T (normal f lo') → T (finite (mul f w (div f k t))) → T (le lo' (mul f w (div f k t)))
    → T (room f w k h) → T (le (mul f (mul f w (div f k t)) t) (round f false (num h) (den h)))
undone f w k t h lo lo' W K S l n F g l' n' F' g' test =
    let q = div f k t in
    let r = mul f w q in
    let P = 2 ^ prec f in
    let pq = positive_up q lo q l F (g, le_rf q (finite_number q F)) in
    let pr = positive_up r lo' r l' F' (g', le_rf r (finite_number r F')) in
    let a = div_near f k t lo K S F l n g in
    let b = mul_near f w q lo' W pq F' l' n' g' in
    subst (λ (z : Float). T (le z (round f false (num h) (den h)))) (sym (mul_is f r t pr S))
    (round_mono f (num r * num t) (den r * den t) (num h) (den h) (mul-pos (den_pos r) (den_pos t)) (den_pos h)
    (chain (num q) (num t) (den k) (num k) (den t) (den q) (num r) (den w) (num w) (den r) P (suc P) (num h) (den h) (den_pos q) (mul-pos (mul-pos (den_pos w) (den_pos k)) (mul-pos (pow_pos (prec f)) (pow_pos (prec f))))
    (once (num q * (num t * den k)) (num k * den t * den q) 0 P a.0) (once (num r * (den w * den q)) (num w * num q * den r) 0 P b.0)
    (leb→le (num w * num k * (suc P * suc P) * den h) (num h * (den w * den k * (P * P))) test)))
