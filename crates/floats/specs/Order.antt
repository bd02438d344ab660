-- The order of all values, infinities included: transitive, reflexive but at a NaN, turned round by negation. A value within an interval.
use Rattle.std.specs.Prelude.{◌≡◌, refl, ℕ, ◌+◌, ◌*◌, Bool, true, false, not, ◌&&◌, ◌||◌, pos, T, Float}
use Rattle.std.proofs.Common.{arith, nltb→le}
use Rattle.std.specs.Bool.{beq}
use Rattle.std.specs.Float.{nan, inf, fin, Format, binary32, binary64}
use Rattle.std.specs.Float.Ieee.{up, down, neg, below, level, lt, eq, le}
use Rattle.std.specs.Float.Ieee.Fits.{and_l, and_r}
use Rattle.std.specs.Float.Ieee.Scale.{finite}
use Rattle.std.specs.Float.Ieee.Positive.{den, den_pos}
use Rattle.floats.specs.Fractions.{pl, mi, plus, less, or_l, lt→signed, le→signed, signed→le, le→ord, ord→le, ord_trans}

abbrev pub nought : Float
nought = fin false 0 (pos 0)

-- ---- order laws for all values, infinities included; a NaN is in no order
abbrev pub number : Float → Bool
number nan = false
number (inf s) = true
number (fin s m e) = true

abbrev inf_le : Bool → Bool → Bool
inf_le s t = (s && not t) || beq s t

inf_trans : (s t u : Bool) → T (inf_le s t) → T (inf_le t u) → T (inf_le s u)
inf_trans true t true h k = tt
inf_trans true t false h k = tt
inf_trans false true u h k = absurd h
inf_trans false false u h k = k

inf_from : (s t : Bool) → T (inf_le s t) → T (t || false) → T (s || false)
inf_from true t h k = tt
inf_from false true h k = h
inf_from false false h k = k

inf_to : (s t : Bool) → T (not s || false) → T (inf_le s t) → T (not t || false)
inf_to true t h k = absurd h
inf_to false t h k = not_of t k
  where
    not_of : (t : Bool) → T (inf_le false t) → T (not t || false)
    not_of true k = k
    not_of false k = tt

inf_over : (s t : Bool) → T (s || false) → T (inf_le s t)
inf_over true true h = tt
inf_over true false h = tt
inf_over false t h = absurd h

inf_not : (s : Bool) → T (not s || false) → T (s || false) → ⊥
inf_not true h k = h
inf_not false h k = k

pub le_tr : (x y z : Float) → T (le x y) → T (le y z) → T (le x z)
unfolding le
le_tr nan y z h k = absurd h
le_tr (inf s) nan z h k = absurd h
le_tr (inf s) (inf t) nan h k = absurd k
le_tr (inf s) (inf t) (inf u) h k = inf_trans s t u h k
le_tr (inf s) (inf t) (fin u l g) h k = inf_from s t h k
le_tr (inf s) (fin t n d) nan h k = absurd k
le_tr (inf s) (fin t n d) (inf u) h k = inf_over s u h
le_tr (inf s) (fin t n d) (fin u l g) h k = h
le_tr (fin s m e) nan z h k = absurd h
le_tr (fin s m e) (inf t) nan h k = absurd k
le_tr (fin s m e) (inf t) (inf u) h k = inf_to t u h k
le_tr (fin s m e) (inf t) (fin u l g) h k = absurd (inf_not t h k)
le_tr (fin s m e) (fin t n d) nan h k = absurd k
le_tr (fin s m e) (fin t n d) (inf u) h k = k
le_tr (fin s m e) (fin t n d) (fin u l g) h k =
    let x = fin s m e in
    let y = fin t n d in
    let z = fin u l g in
    ord→le x z tt tt (ord_trans (plus x) (less x) (den x) (plus y) (less y) (den y) (plus z) (less z) (den z) (den_pos y) (le→ord x y tt tt h) (le→ord y z tt tt k))

pub lt→le : (x y : Float) → T (lt x y) → T (le x y)
unfolding le
lt→le x y h = or_l (lt x y) (eq x y) h

beq_refl : (s : Bool) → T (inf_le s s)
beq_refl true = tt
beq_refl false = tt

pub le_rf : (x : Float) → T (number x) → T (le x x)
le_rf nan p = absurd p
le_rf (inf s) p = unfold le in beq_refl s
le_rf (fin s m e) p = ord→le (fin s m e) (fin s m e) tt tt (omega arith)

inf_flip : (s t : Bool) → T (not (s && not t)) → T (inf_le t s)
inf_flip true true h = tt
inf_flip true false h = absurd h
inf_flip false true h = tt
inf_flip false false h = tt

or_of : (b : Bool) → T b → T (b || false)
or_of b h = or_l b false h

not_not : (b : Bool) → T (not (not b)) → T b
not_not true h = tt
not_not false h = h

flip : (s : Bool) (a : ℕ) (t : Bool) (b : ℕ) → T (not (below s a t b)) → T (below t b s a || level t b s a)
flip false a false b h = signed→le false b false a (omega (arith, nltb→le a b h))
flip false a true b h = signed→le true b false a (omega arith)
flip true a false b h = signed→le false b true a (omega (arith, nltb→le 0 (a + b) h))
flip true a true b h = signed→le true b true a (omega (arith, nltb→le b a h))

-- no NaN: what is not below is at least
pub nlt→le : (x y : Float) → T (number x) → T (number y) → T (not (lt x y)) → T (le y x)
unfolding le
nlt→le nan y p q h = absurd p
nlt→le (inf s) nan p q h = absurd q
nlt→le (inf s) (inf t) p q h = inf_flip s t h
nlt→le (inf s) (fin t n d) p q h = or_of (not s) h
nlt→le (fin s m e) nan p q h = absurd q
nlt→le (fin s m e) (inf t) p q h = or_of t (not_not t h)
nlt→le (fin s m e) (fin t n d) p q h = flip s (m * up e * down d) t (n * up d * down e) h

inf_strict : (s t : Bool) → T (s && not t) → T (inf_le t s) → ⊥
inf_strict true true h k = h
inf_strict true false h k = k
inf_strict false t h k = h

pub lt→nle : (x y : Float) → T (lt x y) → T (le y x) → ⊥
unfolding le
lt→nle nan y h k = h
lt→nle (inf s) nan h k = h
lt→nle (inf s) (inf t) h k = inf_strict s t h k
lt→nle (inf s) (fin t n d) h k = inf_not s k (or_of s h)
lt→nle (fin s m e) nan h k = h
lt→nle (fin s m e) (inf t) h k = inf_not t (or_of (not t) h) k
lt→nle (fin s m e) (fin t n d) h k =
    let a : _ = lt→signed s (m * up e * down d) t (n * up d * down e) h in
    let b : _ = le→signed t (n * up d * down e) s (m * up e * down d) k in
    omega arith

pub le→number : (x y : Float) → T (le x y) → T (number x) × T (number y)
unfolding le
le→number nan y h = absurd h
le→number (inf s) nan h = absurd h
le→number (inf s) (inf t) h = (tt, tt)
le→number (inf s) (fin t n d) h = (tt, tt)
le→number (fin s m e) nan h = absurd h
le→number (fin s m e) (inf t) h = (tt, tt)
le→number (fin s m e) (fin t n d) h = (tt, tt)

-- ---- a value in an interval
abbrev pub Within : Float → Float → Float → Type 0
Within x lo hi = T (le lo x) × T (le x hi)

pub within_finite : (x lo hi : Float) → T (finite lo) → T (finite hi) → Within x lo hi → T (finite x)
unfolding le
within_finite nan nan hi p q w = absurd p
within_finite nan (inf s) hi p q w = absurd p
within_finite nan (fin s m e) hi p q w = absurd w.0
within_finite (inf t) nan hi p q w = absurd p
within_finite (inf t) (inf s) hi p q w = absurd p
within_finite (inf t) (fin s m e) nan p q w = absurd q
within_finite (inf t) (fin s m e) (inf u) p q w = absurd q
within_finite (inf t) (fin s m e) (fin u l g) p q w = absurd (inf_not t w.0 w.1)
within_finite (fin t n d) lo hi p q w = tt

-- a constant of each format, and what lies between two such
abbrev pub finite_each : (Format → Float) → Bool
finite_each c = finite (c binary32) && finite (c binary64)

pub each_finite : (c : Format → Float) → T (finite_each c) → (w : Format) → T (finite (c w))
each_finite c h binary32 = and_l (finite (c binary32)) (finite (c binary64)) h
each_finite c h binary64 = and_r (finite (c binary32)) (finite (c binary64)) h

pub between_finite : (lo hi : Format → Float) → T (finite_each lo && finite_each hi) → (w : Format) (x : Float) → Within x (lo w) (hi w) → T (finite x)
between_finite lo hi h w x =
    let a = finite_each lo in
    let b = finite_each hi in
    within_finite x (lo w) (hi w) (each_finite lo (and_l a b h) w) (each_finite hi (and_r a b h) w)

pub widen : (x lo hi lo' hi' : Float) → T (le lo' lo) → T (le hi hi') → Within x lo hi → Within x lo' hi'
widen x lo hi lo' hi' h k w = (le_tr lo' lo x h w.0, le_tr x hi hi' w.1 k)

-- ---- negation
pub neg_finite : (x : Float) → T (finite x) → T (finite (neg x))
unfolding neg
neg_finite nan p = absurd p
neg_finite (inf s) p = absurd p
neg_finite (fin s m e) p = tt

pub pl_not : (s : Bool) (a : ℕ) → pl (not s) a ≡ mi s a
pl_not true a = refl
pl_not false a = refl

pub mi_not : (s : Bool) (a : ℕ) → mi (not s) a ≡ pl s a
mi_not true a = refl
mi_not false a = refl

inf_neg : (s t : Bool) → T (inf_le s t) → T (inf_le (not t) (not s))
inf_neg true true h = tt
inf_neg true false h = tt
inf_neg false true h = h
inf_neg false false h = tt

pub neg_le : (x y : Float) → T (le x y) → T (le (neg y) (neg x))
unfolding neg le
neg_le nan y h = absurd h
neg_le (inf s) nan h = absurd h
neg_le (inf s) (inf t) h = inf_neg s t h
neg_le (inf s) (fin t n d) h = twice s h
  where
    twice : (s : Bool) → T (s || false) → T (not (not s) || false)
    twice true h = tt
    twice false h = h
neg_le (fin s m e) nan h = absurd h
neg_le (fin s m e) (inf t) h = h
neg_le (fin s m e) (fin t n d) h =
    let a = m * up e * down d in
    let b = n * up d * down e in
    signed→le (not t) b (not s) a (omega (arith, le→signed s a t b h, pl_not s a, mi_not s a, pl_not t b, mi_not t b))

pub neg_within : (x lo hi : Float) → Within x lo hi → Within (neg x) (neg hi) (neg lo)
neg_within x lo hi w = (neg_le x hi w.1, neg_le lo x w.0)
