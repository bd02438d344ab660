-- The number of quarter turns by interval arithmetic; each product is computed.
use Rattle.floats.specs.Prelude.{refl, ◌&&◌, T, Float, binary64, of_bits, of_int, round, mul, neg, le}
use Rattle.floats.specs.Order.{Within}
use Rattle.floats.specs.Intervals.{none, known, var, lit, add', sub', mul', bound, inside, bounded}
use Rattle.numbers.specs.Constants.{ANGLE_LIMIT, TWO_OVER_PI, P1, P2, MAGIC}
use Rattle.numbers.specs.Sines.{reduce}
use Rattle.numbers.specs.Reduction.{whole, most, quarter_turns, exact, all_up_to, Reduction}

at_most : (x : Float) → Within x (neg ANGLE_LIMIT) ANGLE_LIMIT → Within (quarter_turns x) (neg (whole most)) (whole most)
unfolding bound inside of_int round neg le of_bits
at_most x h =
    bounded binary64 (known x (neg ANGLE_LIMIT) ANGLE_LIMIT h none)
    (sub' (add' (mul' (var 0) (lit TWO_OVER_PI)) (lit MAGIC)) (lit MAGIC)) (neg (whole most)) (whole most) tt

products : T (all_up_to most (λ k. exact k P1 && exact k P2))
unfolding of_int round mul neg of_bits
products = tt

pub reduction : Reduction
reduction = record { of_reduce = λ x. unfold reduce in refl; at_most = at_most; products = products }
