-- Rounding keeps the order: the sum of the squares, its root and the product are largest where each rate and the interval are.
-- Sum and product by interval arithmetic, the root by the order of roots; the largest angle itself is computed.
use Rattle.floats.specs.Prelude.{T, Float, Format, binary32, binary64, of_bits, add, mul, div, neg, le, add-fits, finite}
use Rattle.floats.specs.Notation.{zero, one, two}
use Rattle.floats.specs.Order.{nought, Within}
use Rattle.floats.specs.Intervals.{Known, none, known, Expr, var, lit, sqr', add', mul', div', bound, inside, bounded}
use Rattle.numbers.specs.Constants.{ANGLE_LIMIT}
use Rattle.numbers.specs.Root.{root}
use Rattle.numbers.specs.HalfAngles.{fastest, largest, HalfAngles}
use Rattle.numbers.proofs.RootOrder.{root_up_to}

abbrev pub squares : Format → Float → Float → Float → Float
squares w x y z = add w (add w (add w (zero w) (mul w x x)) (mul w y y)) (mul w z z)

abbrev squares' : Format → Expr
squares' w = add' (add' (add' (lit (zero w)) (sqr' (var 0))) (sqr' (var 1))) (sqr' (var 2))

abbrev half' : Format → Expr
half' w = div' (mul' (var 0) (var 1)) (lit (two w))

abbrev pub Rate : Format → Float → Type 0
Rate w x = Within x (neg (fastest w)) (fastest w)

abbrev pub most : Format → Float
most w = squares w (fastest w) (fastest w) (fastest w)

abbrev rates : (w : Format) (x y z : Float) → Rate w x → Rate w y → Rate w z → Known
rates w x y z p q r = known x (neg (fastest w)) (fastest w) p (known y (neg (fastest w)) (fastest w) q (known z (neg (fastest w)) (fastest w) r none))

squares_within : (w : Format) (x y z : Float) → Rate w x → Rate w y → Rate w z → Within (squares w x y z) nought (most w)
unfolding bound inside add mul div neg le of_bits
squares_within binary32 x y z p q r = bounded binary32 (rates binary32 x y z p q r) (squares' binary32) nought (most binary32) tt
squares_within binary64 x y z p q r = bounded binary64 (rates binary64 x y z p q r) (squares' binary64) nought (most binary64) tt

most_finite : (w : Format) → T (finite (most w))
unfolding add mul div of_bits
most_finite binary32 = tt
most_finite binary64 = tt

abbrev turn : (w : Format) (n ts : Float) → Within n nought (root w (most w)) → Within ts (zero w) (one w) → Known
turn w n ts p q = known n nought (root w (most w)) p (known ts (zero w) (one w) q none)

half_within : (w : Format) (n ts : Float) → Within n nought (root w (most w)) → Within ts (zero w) (one w) → Within (div w (mul w n ts) (two w)) (zero w) (largest w)
unfolding bound inside root add mul div neg le of_bits
half_within binary32 n ts p q = bounded binary32 (turn binary32 n ts p q) (half' binary32) (zero binary32) (largest binary32) tt
half_within binary64 n ts p q = bounded binary64 (turn binary64 n ts p q) (half' binary64) (zero binary64) (largest binary64) tt

pub norm_within : (w : Format) (x y z : Float) → Rate w x → Rate w y → Rate w z → Within (root w (squares w x y z)) nought (root w (most w))
norm_within w x y z p q r = root_up_to w (squares w x y z) (most w) (add-fits w _ _) (add-fits w _ _) (most_finite w) (squares_within w x y z p q r)

largest_served : (w : Format) → T (le (largest w) ANGLE_LIMIT)
unfolding root add mul div le of_bits
largest_served binary32 = tt
largest_served binary64 = tt

pub half_angles : (w : Format) → HalfAngles w
half_angles w = record {
  up_to_largest = λ x y z ts p q r. half_within w _ ts (norm_within w x y z p q r);
  largest_served = largest_served w;
}
