-- The turn of a sample at a rate up to `fastest` is by an angle up to `largest`, and leaves a finite quaternion: sine and cosine lie within ±1 there, the
-- norm that divides is above epsilon, and the quaternion that is turned is small.
use Rattle.floats.specs.Prelude.{T, Float, Format, binary32, binary64, of_bits, add, sub, mul, div, neg, lt, le}
use Rattle.floats.specs.Notation.{zero, one}
use Rattle.floats.specs.Tests.{both, keeps}
use Rattle.floats.specs.Order.{Within, widen, lt→le}
use Rattle.floats.specs.Intervals.{Known, none, known, var, mul', div', bound, inside, bounded}
use Rattle.numbers.specs.Constants.{ANGLE_LIMIT}
use Rattle.numbers.specs.Root.{root}
use Rattle.numbers.specs.Sines.{sin}
use Rattle.numbers.specs.HalfAngles.{half_angle, fastest, largest}
use Rattle.numbers.proofs.Ranges.{ranges}
use Rattle.numbers.proofs.HalfAngles.{Rate, most, norm_within, half_angles}
use Rattle.algebra.specs.Vectors as vectors
use Rattle.algebra.specs.Quaternions as quaternions
use Rattle.algebra.specs.declared.vector.Vector.{Vector}
use Rattle.algebra.specs.declared.quaternion.Quaternion.{Quaternion}
use Rattle.algebra.proofs.Normalized.{small, Small, AllSmall, times_finite, normalize_small, small_finite}
use Rattle.limits.specs.Limits.{shortest_interval, longest_interval, interval_taken}
use Rattle.limits.specs.declared.updated.Tried.{Tried}
use Rattle.tilt.specs.Gyr.{turned, predicted}

abbrev pub Rates : (w : Format) → Vector → Type 0
Rates w v = Rate w v.0 × Rate w v.1 × Rate w v.2

abbrev Unit : (w : Format) → Float → Type 0
Unit w x = Within x (neg (one w)) (one w)

abbrev norm_most : (w : Format) → Float
norm_most w = root w (most w)

module _ (w : Format) where
  abbrev part : (s n g : Float) → Unit w s → Within n (vectors.epsilon w) (norm_most w) → Rate w g → Known
  part s n g p q r = known s (neg (one w)) (one w) p (known n (vectors.epsilon w) (norm_most w) q (known g (neg (fastest w)) (fastest w) r none))

  -- what the prover computes in each format
  record Computed : Type 0 where
    second : T (le (zero w) (shortest_interval w)) × T (le (longest_interval w) (one w))
    from : T (le (neg ANGLE_LIMIT) (zero w))
    unit : T (le (neg (small w)) (neg (one w))) × T (le (one w) (small w))
    part_small : (s n g : Float) (p : Unit w s) (q : Within n (vectors.epsilon w) (norm_most w)) (r : Rate w g) → T (inside (bound w (part s n g p q r) (mul' (div' (var 0) (var 1)) (var 2))) (neg (small w)) (small w))

computed : (w : Format) → Computed w
unfolding bound inside root add mul div neg le of_bits
computed binary32 = record { second = (tt, tt); from = tt; unit = (tt, tt); part_small = λ s n g p q r. tt }
computed binary64 = record { second = (tt, tt); from = tt; unit = (tt, tt); part_small = λ s n g p q r. tt }

module _ (w : Format) where
  c : Computed w
  c = computed w

  pub half_within : (v : Vector) (ts : Float) → Rates w v → T (interval_taken w ts) → Within (half_angle w v.0 v.1 v.2 ts) (zero w) (largest w)
  half_within v ts r i =
      (half_angles w).up_to_largest v.0 v.1 v.2 ts r.0 r.1 r.2
      (widen ts (shortest_interval w) (longest_interval w) (zero w) (one w) c.second.0 c.second.1 (simp both at i))

  -- ---- the turn
  turned_finite : (q : Quaternion) (v : Vector) (ts : Float) → AllSmall w q → Rates w v → T (interval_taken w ts) → T (lt (vectors.epsilon w) (vectors.norm w v))
      → T (quaternions.finite (turned w q v (vectors.norm w v) ts))
  unfolding turned vectors.norm
  turned_finite q v ts low r i above =
      let n = vectors.norm w v in
      let h = half_angle w v.0 v.1 v.2 ts in
      let k = widen h (zero w) (largest w) (neg ANGLE_LIMIT) ANGLE_LIMIT c.from (half_angles w).largest_served (half_within v ts r i) in
      let s = (ranges w).sin.within h k in
      let m : Within n (vectors.epsilon w) (norm_most w) = (lt→le (vectors.epsilon w) n above, (norm_within w v.0 v.1 v.2 r.0 r.1 r.2).1) in
      let of : (g : Float) → Rate w g → Small w (mul w (div w (sin w h) n) g)
      = λ g u. bounded w (part w (sin w h) n g s m u) (mul' (div' (var 0) (var 1)) (var 2)) _ _ (c.part_small (sin w h) n g s m u) in
      let unit = widen _ (neg (one w)) (one w) (neg (small w)) (small w) c.unit.0 c.unit.1 ((ranges w).cos.within h k) in
      small_finite w _ (normalize_small w _ (times_finite w q _ low (unit, of _ r.0, of _ r.1, of _ r.2)))

  pub predicted_finite : (q : Quaternion) (bias gyr : Vector) (ts : Float) → AllSmall w q → Rates w (vectors.both (sub w) gyr bias) → T (interval_taken w ts) → T (predicted w q bias gyr ts).finite
  unfolding predicted
  predicted_finite q bias gyr ts low r i =
      let v = vectors.both (sub w) gyr bias in
      keeps (λ (t : Tried Quaternion). T t.finite) (lt (vectors.epsilon w) (vectors.norm w v)) _ _ (turned_finite q v ts low r i) tt
