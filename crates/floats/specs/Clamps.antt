-- A clamp keeps within its ends, whatever goes in; so do the larger and the smaller of two values, and a choice of two that both keep.
use Rattle.std.specs.Prelude.{◌⊎◌, Bool, not, cond, Float}
use Rattle.std.proofs.Common.{inl, inr}
use Rattle.std.proofs.Math.Bool.{true, false}
use Rattle.std.proofs.Math.Dec.{T}
use Rattle.std.specs.Float.Ieee.{lt, eq, le}
use Rattle.floats.specs.Definitions.{clamp, larger}
use Rattle.floats.specs.Tests.{either}
use Rattle.floats.specs.Order.{number, lt→le, lt→nle, le_rf, nlt→le, le→number, Within}

-- ---- `clamp`, on any x
pub clamp_within : (x lo hi : Float) → T (le lo hi) → Within (clamp x lo hi) lo hi
unfolding clamp
clamp_within x lo hi h = go (le x hi) (le lo x) (λ (t : T (le x hi)). t) (λ (t : T (le lo x)). t)
  where
    go : (a b : Bool) → (T a → T (le x hi)) → (T b → T (le lo x)) → Within (cond a (cond b x lo) hi) lo hi
    go true true u v = (v tt, u tt)
    go true false u v = (le_rf lo (le→number lo hi h).0, h)
    go false b u v = (h, le_rf hi (le→number lo hi h).1)

-- `max(lo, x)` and `min(x, hi)`, a NaN going to the end
pub at_least : (x lo : Float) → T (number lo) → T (le lo (cond (lt lo x) x lo))
at_least x lo p = go (lt lo x) (lt→le lo x)
  where
    go : (b : Bool) → (T b → T (le lo x)) → T (le lo (cond b x lo))
    go true h = h tt
    go false h = le_rf lo p

pub at_most : (x hi : Float) → T (number hi) → T (le (cond (lt x hi) x hi) hi)
at_most x hi p = go (lt x hi) (lt→le x hi)
  where
    go : (b : Bool) → (T b → T (le x hi)) → T (le (cond b x hi) hi)
    go true h = h tt
    go false h = le_rf hi p

pub cond_within : (b : Bool) (x y lo hi : Float) → Within x lo hi → Within y lo hi → Within (cond b x y) lo hi
cond_within true x y lo hi v w = v
cond_within false x y lo hi v w = w

-- ---- the source's `x.max(y)`, on no NaN
equals_itself : (x : Float) → T (number x) → T (eq x x)
unfolding le
equals_itself x p = go (either (lt x x) (eq x x) (le_rf x p))
  where
    go : T (lt x x) ⊎ T (eq x x) → T (eq x x)
    go (inl h) = absurd (lt→nle x x h (le_rf x p))
    go (inr h) = h

module _ (x y : Float) (p : T (number x)) (q : T (number y)) where
  pub larger_from_first : T (le x (larger x y))
  unfolding larger
  larger_from_first = go (lt x y) (eq x x) (lt→le x y) (equals_itself x p)
    where
      go : (a b : Bool) → (T a → T (le x y)) → T b → T (le x (cond a y (cond b x y)))
      go true b h k = h tt
      go false true h k = le_rf x p
      go false false h k = absurd k

  pub larger_from_second : T (le y (larger x y))
  unfolding larger
  larger_from_second = go (lt x y) (eq x x) (nlt→le x y p q)
    where
      go : (a b : Bool) → (T (not a) → T (le y x)) → T (le y (cond a y (cond b x y)))
      go true b h = le_rf y q
      go false true h = h tt
      go false false h = le_rf y q

pub larger_up_to : (x y hi : Float) → T (le x hi) → T (le y hi) → T (le (larger x y) hi)
unfolding larger
larger_up_to x y hi h k = go (lt x y) (eq x x)
  where
    go : (a b : Bool) → T (le (cond a y (cond b x y)) hi)
    go true b = k
    go false true = h
    go false false = k
