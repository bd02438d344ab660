-- What the prover computes of a heading in each format: intervals of what the step of a heading computes, end by end.
use Rattle.floats.specs.Prelude.{◌≡◌, refl, T, Float, nan, Format, binary32, binary64, add, sub, mul, neg, lt, le, of_bits, finite}
use Rattle.floats.specs.Notation.{zero, one, two, pi}
use Rattle.floats.specs.Order.{nought, Within}
use Rattle.floats.specs.Intervals.{Known, none, known, Expr, var, lit, add', sub', mul', div', bound, inside}
use Rattle.filters.specs.Bounds.{Gain}
use Rattle.limits.specs.Limits.{rejection_factor_limit}
use Rattle.magnetic.specs.Headings.{wrapped}
use Rattle.magnetic.specs.HowFar.{Angle}

module _ (w : Format) where
  abbrev pub turn : Float
  turn = mul w (two w) (pi w)

  abbrev pub Factor : Float → Type 0
  Factor r = Within r (one w) (rejection_factor_limit w)

  abbrev pub angle : (x : Float) → Angle w x → Known → Known
  angle x v = known x (neg (pi w)) (pi w) v

  abbrev pub gain : (k : Float) → Gain w k → Known → Known
  gain k v = known k (zero w) (one w) v

  abbrev pub Inside : Known → Expr → Float → Float → Type 0
  Inside k e lo hi = T (inside (bound w k e) lo hi)

  pub record Computed : Type 0 where
    pub wrapped_down : (x : Float) (v : Within x (pi w) turn) → Inside (known x (pi w) turn v none) (sub' (var 0) (lit turn)) (neg (pi w)) (pi w)
    pub wrapped_up : (x : Float) (v : Within x (neg turn) (neg (pi w))) → Inside (known x (neg turn) (neg (pi w)) v none) (add' (var 0) (lit turn)) (neg (pi w)) (pi w)
    pub apart : (a d : Float) (u : Angle w a) (v : Angle w d) → Inside (angle a u (angle d v none)) (sub' (var 0) (var 1)) (neg turn) turn
    pub gone : (d k a : Float) (u : Angle w d) (v : Gain w k) (t : Angle w a) → Inside (angle d u (gain k v (angle a t none))) (add' (var 0) (mul' (var 1) (var 2))) (neg turn) turn
    pub nowhere : (k a : Float) (v : Within k nought nought) (t : Angle w a) → Inside (known k nought nought v (angle a t none)) (mul' (var 0) (var 1)) nought nought
    pub lessened : (k r : Float) (u : Gain w k) (v : Factor r) → Inside (gain k u (known r (one w) (rejection_factor_limit w) v none)) (div' (var 0) (var 1)) (zero w) (one w)
    pub next : (k : Float) (u : Gain w k) → Inside (gain k u none) (div' (var 0) (add' (var 0) (lit (one w)))) (zero w) (one w)
    pub largest : (k : Float) (u : Gain w k) → Inside (gain k u none) (mul' (var 0) (lit (pi w))) (zero w) (pi w)
    pub ends : T (finite (neg (pi w))) × T (finite (pi w))
    pub units : T (finite (zero w)) × T (finite (one w))
    pub no_angle : (d : Float) → wrapped w (sub w nan d) ≡ nan

pub computed : (w : Format) → Computed w
unfolding bound inside neg mul le of_bits
computed binary32 = record { wrapped_down = λ x v. tt; wrapped_up = λ x v. tt; apart = λ a d u v. tt; gone = λ d k a u v t. tt; nowhere = λ k a v t. tt; lessened = λ k r u v. tt; next = λ k u. tt; largest = λ k u. tt; ends = (tt, tt); units = (tt, tt); no_angle = λ d. unfold wrapped sub add lt in refl }
computed binary64 = record { wrapped_down = λ x v. tt; wrapped_up = λ x v. tt; apart = λ a d u v. tt; gone = λ d k a u v t. tt; nowhere = λ k a v t. tt; lessened = λ k r u v. tt; next = λ k u. tt; largest = λ k u. tt; ends = (tt, tt); units = (tt, tt); no_angle = λ d. unfold wrapped sub add lt in refl }
