-- Interval arithmetic that the checker runs: an expression over values with known bounds lies within the interval that `bound` computes for it.
-- `bounded` gives the bounds, `is_finite` that the value is finite; each costs one line where it is used.
use Rattle.std.specs.Prelude.{ℕ, zero, suc, Bool, true, false, ◌&&◌, cond, T, Float}
use Rattle.std.specs.Float.{nan, inf, fin, Format}
use Rattle.std.specs.Float.Ieee.{add, sub, mul, div, neg, le}
use Rattle.std.specs.Float.Ieee.Fits.{and_l, and_r}
use Rattle.std.specs.Float.Ieee.Scale.{finite}
use Rattle.std.specs.Float.Ieee.Positive.{positive}
use Rattle.floats.specs.Order.{nought, number, le_rf, Within, within_finite, widen, neg_finite, neg_within}
use Rattle.floats.specs.Sums.{add_within, sub_within}
use Rattle.floats.specs.Products.{mul_within, square_from}
use Rattle.floats.specs.Quotients.{div_within}

-- ---- values and what is known of each
pub data Known : Type 0 where
  none : Known
  known : (x lo hi : Float) → Within x lo hi → Known → Known

abbrev pub value : Known → ℕ → Float
value none i = nought
value (known x lo hi w k) zero = x
value (known x lo hi w k) (suc i) = value k i

abbrev pub from : Known → ℕ → Float
from none i = nought
from (known x lo hi w k) zero = lo
from (known x lo hi w k) (suc i) = from k i

abbrev pub upto : Known → ℕ → Float
upto none i = nought
upto (known x lo hi w k) zero = hi
upto (known x lo hi w k) (suc i) = upto k i

zero_le_zero : T (le nought nought)
unfolding le
zero_le_zero = tt

pub lookup : (k : Known) (i : ℕ) → Within (value k i) (from k i) (upto k i)
lookup none i = (zero_le_zero, zero_le_zero)
lookup (known x lo hi w k) zero = w
lookup (known x lo hi w k) (suc i) = lookup k i

-- ---- expressions
pub data Expr : Type 0 where
  var : ℕ → Expr
  lit : Float → Expr
  neg' sqr' : Expr → Expr
  add' sub' mul' div' : Expr → Expr → Expr
  ite : Bool → Expr → Expr → Expr

abbrev pub eval : Format → Known → Expr → Float
eval f k (var i) = value k i
eval f k (lit x) = x
eval f k (neg' a) = neg (eval f k a)
eval f k (sqr' a) = mul f (eval f k a) (eval f k a)
eval f k (add' a b) = add f (eval f k a) (eval f k b)
eval f k (sub' a b) = sub f (eval f k a) (eval f k b)
eval f k (mul' a b) = mul f (eval f k a) (eval f k b)
eval f k (div' a b) = div f (eval f k a) (eval f k b)
eval f k (ite c a b) = cond c (eval f k a) (eval f k b)

-- ---- intervals with finite ends
pub data Ival : Type 0 where
  bad : Ival
  ival : Float → Float → Ival

abbrev pub Holds : Float → Ival → Type 0
Holds x bad = Unit {0}
Holds x (ival lo hi) = T (finite lo) × T (finite hi) × Within x lo hi

unfoldable pub least : Float → Float → Float
unfolding le
least x y = cond (le x y) x y

unfoldable pub most : Float → Float → Float
unfolding le
most x y = cond (le x y) y x

abbrev pub ends : Float → Float → Bool
ends lo hi = finite lo && finite hi

unfoldable pub inn : Float → Float → Float → Bool
unfolding le
inn x lo hi = le lo x && le x hi

inn→within : (x lo hi : Float) → T (inn x lo hi) → Within x lo hi
unfolding inn
inn→within x lo hi t = (and_l (le lo x) (le x hi) t, and_r (le lo x) (le x hi) t)

unfoldable pub four : Float → Float → Float → Float → Float → Float → Bool
unfolding inn
four p q r s lo hi = inn p lo hi && (inn q lo hi && (inn r lo hi && inn s lo hi))

abbrev Four : Float → Float → Float → Float → Float → Float → Type 0
Four p q r s lo hi = Within p lo hi × Within q lo hi × Within r lo hi × Within s lo hi

four→ : (p q r s lo hi : Float) → T (four p q r s lo hi) → Four p q r s lo hi
unfolding four
four→ p q r s lo hi t =
    let u = and_r (inn p lo hi) (inn q lo hi && (inn r lo hi && inn s lo hi)) t in
    let v = and_r (inn q lo hi) (inn r lo hi && inn s lo hi) u in (
      inn→within p lo hi (and_l (inn p lo hi) (inn q lo hi && (inn r lo hi && inn s lo hi)) t),
      inn→within q lo hi (and_l (inn q lo hi) (inn r lo hi && inn s lo hi) u),
      inn→within r lo hi (and_l (inn r lo hi) (inn s lo hi) v),
      inn→within s lo hi (and_r (inn r lo hi) (inn s lo hi) v),
    )

-- the interval, where a test that makes it sound passes
abbrev pub only : Bool → Float → Float → Ival
only true lo hi = ival lo hi
only false lo hi = bad

only_holds : (x lo hi : Float) (b : Bool) → (T b → T (finite lo) × T (finite hi) × Within x lo hi) → Holds x (only b lo hi)
only_holds x lo hi true h = h tt
only_holds x lo hi false h = tt

unfoldable pub corners : Float → Float → Float → Float → Ival
unfolding least most four
corners p q r s =
    let lo = least (least p q) (least r s) in
    let hi = most (most p q) (most r s) in
    only (ends lo hi && four p q r s lo hi) lo hi

unfoldable pub neg_i : Ival → Ival
unfolding neg
neg_i bad = bad
neg_i (ival a b) = ival (neg b) (neg a)

unfoldable pub add_i : Format → Ival → Ival → Ival
unfolding add
add_i f bad j = bad
add_i f (ival a b) bad = bad
add_i f (ival a b) (ival c d) = let lo = add f a c in let hi = add f b d in only (ends lo hi) lo hi

unfoldable pub sub_i : Format → Ival → Ival → Ival
unfolding sub
sub_i f bad j = bad
sub_i f (ival a b) bad = bad
sub_i f (ival a b) (ival c d) = let lo = sub f a d in let hi = sub f b c in only (ends lo hi) lo hi

unfoldable pub mul_i : Format → Ival → Ival → Ival
unfolding mul corners
mul_i f bad j = bad
mul_i f (ival a b) bad = bad
mul_i f (ival a b) (ival c d) = corners (mul f a c) (mul f a d) (mul f b c) (mul f b d)

-- a square: as a product, and from 0 on
unfoldable pub sqr_i : Format → Ival → Ival
unfolding mul least most four
sqr_i f bad = bad
sqr_i f (ival a b) =
    let p = mul f a a in
    let q = mul f a b in
    let r = mul f b a in
    let s = mul f b b in
    let lo = least (least p q) (least r s) in
    let hi = most (most p q) (most r s) in
    only (ends (most lo nought) hi && four p q r s lo hi) (most lo nought) hi

unfoldable pub div_i : Format → Ival → Ival → Ival
unfolding div corners
div_i f bad j = bad
div_i f (ival a b) bad = bad
div_i f (ival a b) (ival c d) = elim (positive c) [ true ↦ corners (div f a c) (div f a d) (div f b c) (div f b d) | false ↦ bad ]

unfoldable pub hull_i : Ival → Ival → Ival
unfolding least most inn
hull_i bad j = bad
hull_i (ival a b) bad = bad
hull_i (ival a b) (ival c d) =
    let lo = least a c in
    let hi = most b d in
    only (ends lo hi && ((le lo a && le b hi) && (le lo c && le d hi))) lo hi

unfoldable pub bound : Format → Known → Expr → Ival
unfolding neg_i add_i sub_i mul_i sqr_i div_i hull_i
bound f k (var i) = only (ends (from k i) (upto k i)) (from k i) (upto k i)
bound f k (lit x) = only (ends x x) x x
bound f k (neg' a) = neg_i (bound f k a)
bound f k (sqr' a) = sqr_i f (bound f k a)
bound f k (add' a b) = add_i f (bound f k a) (bound f k b)
bound f k (sub' a b) = sub_i f (bound f k a) (bound f k b)
bound f k (mul' a b) = mul_i f (bound f k a) (bound f k b)
bound f k (div' a b) = div_i f (bound f k a) (bound f k b)
bound f k (ite c a b) = hull_i (bound f k a) (bound f k b)

-- ---- soundness
ends_of : (lo hi : Float) → T (ends lo hi) → T (finite lo) × T (finite hi)
ends_of lo hi t = (and_l (finite lo) (finite hi) t, and_r (finite lo) (finite hi) t)

corners_hold : (x p q r s : Float) → ((lo hi : Float) → Four p q r s lo hi → Within x lo hi) → Holds x (corners p q r s)
unfolding corners
corners_hold x p q r s h =
    let lo = least (least p q) (least r s) in
    let hi = most (most p q) (most r s) in
    only_holds x lo hi (ends lo hi && four p q r s lo hi)
    (λ (t : T (ends lo hi && four p q r s lo hi)).
    let e = ends_of lo hi (and_l (ends lo hi) (four p q r s lo hi) t) in
    (e.0, e.1, h lo hi (four→ p q r s lo hi (and_r (ends lo hi) (four p q r s lo hi) t))))

neg_holds : (x : Float) (i : Ival) → Holds x i → Holds (neg x) (neg_i i)
unfolding neg_i
neg_holds x bad h = tt
neg_holds x (ival a b) h = (neg_finite b h.1, neg_finite a h.0, neg_within x a b h.2)

add_holds : (f : Format) (x y : Float) (i j : Ival) → Holds x i → Holds y j → Holds (add f x y) (add_i f i j)
unfolding add_i
add_holds f x y bad j h k = tt
add_holds f x y (ival a b) bad h k = tt
add_holds f x y (ival a b) (ival c d) h k =
    only_holds (add f x y) (add f a c) (add f b d) (ends (add f a c) (add f b d))
    (λ (t : T (ends (add f a c) (add f b d))). let e = ends_of (add f a c) (add f b d) t in (e.0, e.1, add_within f x y a b c d h.0 h.1 k.0 k.1 h.2 k.2))

sub_holds : (f : Format) (x y : Float) (i j : Ival) → Holds x i → Holds y j → Holds (sub f x y) (sub_i f i j)
unfolding sub_i
sub_holds f x y bad j h k = tt
sub_holds f x y (ival a b) bad h k = tt
sub_holds f x y (ival a b) (ival c d) h k =
    only_holds (sub f x y) (sub f a d) (sub f b c) (ends (sub f a d) (sub f b c))
    (λ (t : T (ends (sub f a d) (sub f b c))). let e = ends_of (sub f a d) (sub f b c) t in (e.0, e.1, sub_within f x y a b c d h.0 h.1 k.0 k.1 h.2 k.2))

mul_holds : (f : Format) (x y : Float) (i j : Ival) → Holds x i → Holds y j → Holds (mul f x y) (mul_i f i j)
unfolding mul_i
mul_holds f x y bad j h k = tt
mul_holds f x y (ival a b) bad h k = tt
mul_holds f x y (ival a b) (ival c d) h k =
    corners_hold (mul f x y) (mul f a c) (mul f a d) (mul f b c) (mul f b d)
    (λ (lo hi : Float) (w : Four (mul f a c) (mul f a d) (mul f b c) (mul f b d) lo hi). mul_within f x y a b c d lo hi h.0 h.1 k.0 k.1 h.2 k.2 w.0 w.1 w.2 w.3)

most_le : (a b x : Float) → T (le a x) → T (le b x) → T (le (most a b) x)
unfolding most
most_le a b x h k = go (le a b)
  where
    go : (t : Bool) → T (le (cond t b a) x)
    go true = k
    go false = h

sqr_holds : (f : Format) (x : Float) (i : Ival) → Holds x i → Holds (mul f x x) (sqr_i f i)
unfolding sqr_i
sqr_holds f x bad h = tt
sqr_holds f x (ival a b) h =
    let p = mul f a a in
    let q = mul f a b in
    let r = mul f b a in
    let s = mul f b b in
    let lo = least (least p q) (least r s) in
    let hi = most (most p q) (most r s) in
    only_holds (mul f x x) (most lo nought) hi (ends (most lo nought) hi && four p q r s lo hi)
    (λ (t : T (ends (most lo nought) hi && four p q r s lo hi)).
    let e = ends_of (most lo nought) hi (and_l (ends (most lo nought) hi) (four p q r s lo hi) t) in
    let w = four→ p q r s lo hi (and_r (ends (most lo nought) hi) (four p q r s lo hi) t) in
    let v = mul_within f x x a b a b lo hi h.0 h.1 h.0 h.1 h.2 h.2 w.0 w.1 w.2 w.3 in
    (e.0, e.1, (most_le lo nought (mul f x x) v.0 (square_from f x (within_finite x a b h.0 h.1 h.2)), v.1)))

div_holds : (f : Format) (x y : Float) (i j : Ival) → Holds x i → Holds y j → Holds (div f x y) (div_i f i j)
unfolding div_i
div_holds f x y bad j h k = tt
div_holds f x y (ival a b) bad h k = tt
div_holds f x y (ival a b) (ival c d) h k = go (positive c) (λ (t : T (positive c)). t)
  where
    go : (p : Bool) → (T p → T (positive c)) → Holds (div f x y) (elim p [ true ↦ corners (div f a c) (div f a d) (div f b c) (div f b d) | false ↦ bad ])
    go true t =
        corners_hold (div f x y) (div f a c) (div f a d) (div f b c) (div f b d)
        (λ (lo hi : Float) (w : Four (div f a c) (div f a d) (div f b c) (div f b d) lo hi). div_within f x y a b c d lo hi h.0 h.1 (t tt) k.1 h.2 k.2 w.0 w.1 w.2 w.3)
    go false t = tt

hull_holds : (c : Bool) (x y : Float) (i j : Ival) → Holds x i → Holds y j → Holds (cond c x y) (hull_i i j)
unfolding hull_i
hull_holds c x y bad j h k = tt
hull_holds c x y (ival a b) bad h k = tt
hull_holds t x y (ival a b) (ival c d) h k =
    let lo = least a c in
    let hi = most b d in
    only_holds (cond t x y) lo hi (ends lo hi && ((le lo a && le b hi) && (le lo c && le d hi)))
    (λ (u : T (ends lo hi && ((le lo a && le b hi) && (le lo c && le d hi)))).
    let e = ends_of lo hi (and_l (ends lo hi) ((le lo a && le b hi) && (le lo c && le d hi)) u) in
    let v = and_r (ends lo hi) ((le lo a && le b hi) && (le lo c && le d hi)) u in
    let v₁ = and_l (le lo a && le b hi) (le lo c && le d hi) v in
    let v₂ = and_r (le lo a && le b hi) (le lo c && le d hi) v in
    (e.0, e.1, pick t lo hi (widen x a b lo hi (and_l (le lo a) (le b hi) v₁) (and_r (le lo a) (le b hi) v₁) h.2) (widen y c d lo hi (and_l (le lo c) (le d hi) v₂) (and_r (le lo c) (le d hi) v₂) k.2)))
  where
    pick : (t : Bool) (lo hi : Float) → Within x lo hi → Within y lo hi → Within (cond t x y) lo hi
    pick true lo hi v w = v
    pick false lo hi v w = w

fin_number : (x : Float) → T (finite x) → T (number x)
fin_number nan p = absurd p
fin_number (inf s) p = tt
fin_number (fin s m e) p = tt

pub holds : (f : Format) (k : Known) (e : Expr) → Holds (eval f k e) (bound f k e)
unfolding bound
holds f k (var i) = only_holds (value k i) (from k i) (upto k i) (ends (from k i) (upto k i)) (λ (t : T (ends (from k i) (upto k i))). let e = ends_of (from k i) (upto k i) t in (e.0, e.1, lookup k i))
holds f k (lit x) = only_holds x x x (ends x x) (λ (t : T (ends x x)). let e = ends_of x x t in let r = le_rf x (fin_number x e.0) in (e.0, e.1, (r, r)))
holds f k (neg' a) = neg_holds (eval f k a) (bound f k a) (holds f k a)
holds f k (sqr' a) = sqr_holds f (eval f k a) (bound f k a) (holds f k a)
holds f k (add' a b) = add_holds f (eval f k a) (eval f k b) (bound f k a) (bound f k b) (holds f k a) (holds f k b)
holds f k (sub' a b) = sub_holds f (eval f k a) (eval f k b) (bound f k a) (bound f k b) (holds f k a) (holds f k b)
holds f k (mul' a b) = mul_holds f (eval f k a) (eval f k b) (bound f k a) (bound f k b) (holds f k a) (holds f k b)
holds f k (div' a b) = div_holds f (eval f k a) (eval f k b) (bound f k a) (bound f k b) (holds f k a) (holds f k b)
holds f k (ite c a b) = hull_holds c (eval f k a) (eval f k b) (bound f k a) (bound f k b) (holds f k a) (holds f k b)

-- ---- what a user asks
unfoldable pub inside : Ival → Float → Float → Bool
unfolding le
inside bad lo hi = false
inside (ival a b) lo hi = le lo a && le b hi

abbrev pub good : Ival → Bool
good bad = false
good (ival a b) = true

inside_holds : (x : Float) (i : Ival) (lo hi : Float) → Holds x i → T (inside i lo hi) → Within x lo hi
unfolding inside
inside_holds x bad lo hi h t = absurd t
inside_holds x (ival a b) lo hi h t = widen x a b lo hi (and_l (le lo a) (le b hi) t) (and_r (le lo a) (le b hi) t) h.2

good_holds : (x : Float) (i : Ival) → Holds x i → T (good i) → T (finite x)
good_holds x bad h t = absurd t
good_holds x (ival a b) h t = within_finite x a b h.0 h.1 h.2

pub bounded : (f : Format) (k : Known) (e : Expr) (lo hi : Float) → T (inside (bound f k e) lo hi) → Within (eval f k e) lo hi
bounded f k e lo hi t = inside_holds (eval f k e) (bound f k e) lo hi (holds f k e) t

pub is_finite : (f : Format) (k : Known) (e : Expr) → T (good (bound f k e)) → T (finite (eval f k e))
is_finite f k e t = good_holds (eval f k e) (bound f k e) (holds f k e) t
