-- The root grows, so it is at most 1e-6 up to a value of the third component and above it from the next value on; both ends are computed.
-- Where the half turn leads is computed on intervals.
use Rattle.floats.specs.Prelude.{◌≡◌, refl, sym, ap, ◌∙◌, subst, Bool, true, false, not, ◌^◌, T, Float, Format, binary32, binary64, size, odd, add, sub, mul, div, neg, lt, le, fits, round, of_bits, to_bits, div-fits, positive, positive-finite, finite}
use Rattle.floats.specs.Notation.{zero as nil, one, two}
use Rattle.floats.specs.Decimals.{decimal, millionth}
use Rattle.floats.specs.Order.{nought, le_tr, lt→le, lt→nle, nlt→le, le→number, Within}
use Rattle.floats.specs.Quotients.{positive_up}
use Rattle.floats.specs.Tests.{is_true, is_false}
use Rattle.floats.specs.Intervals.{Known, none, known, Expr, var, lit, add', sub', mul', div', bound, inside, bounded}
use Rattle.numbers.specs.Root.{root}
use Rattle.numbers.proofs.RootOrder.{root_grows, root_up_to}
use Rattle.algebra.specs.Quaternions.{quaternion, norm, normalize, rotate}
use Rattle.algebra.specs.declared.vector.Vector.{Vector}
use Rattle.algebra.specs.declared.quaternion.Quaternion.{Quaternion}
use Rattle.tilt.specs.Acc.{acc_correction}
use Rattle.tilt.specs.HalfTurn.{up, down, flip, little, nearly_one, less_nearly_one, Plumb, NearDown, NearUp, HalfTurn}

lt_le : (x y z : Float) → T (lt x y) → T (le y z) → T (lt x z)
lt_le x y z h k = held (lt x z) (λ t. lt→nle x y h (le_tr y z x k (nlt→le x z (le→number x y (lt→le x y h)).0 (le→number y z k).1 t)))
  where
    held : (b : Bool) → (T (not b) → ⊥) → T b
    held true n = tt
    held false n = absurd (n tt)

-- ---- the expressions that are bounded
module _ (w : Format) where
  abbrev 𝟎 : Expr
  𝟎 = lit (nil w)

  abbrev 𝟏 : Expr
  𝟏 = lit (one w)

  abbrev 𝟐 : Expr
  𝟐 = lit (two w)

  -- what `rotate` makes of `flip`: 1, -1 and four zeros
  abbrev same : Expr
  same = sub' (sub' 𝟏 (mul' (mul' 𝟐 𝟎) 𝟎)) (mul' (mul' 𝟐 𝟎) 𝟎)

  abbrev turned : Expr
  turned = sub' (sub' 𝟏 (mul' (mul' 𝟐 𝟏) 𝟏)) (mul' (mul' 𝟐 𝟎) 𝟎)

  abbrev first : Expr
  first = add' (add' (mul' same (var 0)) (mul' (mul' 𝟐 (var 1)) (sub' (mul' 𝟎 𝟏) (mul' 𝟎 𝟎)))) (mul' (mul' 𝟐 (var 2)) (add' (mul' 𝟎 𝟎) (mul' 𝟎 𝟏)))

  abbrev second : Expr
  second = add' (add' (mul' (mul' 𝟐 (var 0)) (add' (mul' 𝟎 𝟎) (mul' 𝟎 𝟏))) (mul' (var 1) turned)) (mul' (mul' 𝟐 (var 2)) (sub' (mul' 𝟎 𝟎) (mul' 𝟏 𝟎)))

  abbrev third : Expr
  third = add' (add' (mul' (mul' 𝟐 (var 0)) (sub' (mul' 𝟎 𝟏) (mul' 𝟎 𝟎))) (mul' (mul' 𝟐 (var 1)) (add' (mul' 𝟎 𝟏) (mul' 𝟎 𝟎)))) (mul' (var 2) turned)

  abbrev radicand' : Expr
  radicand' = div' (add' (var 0) 𝟏) 𝟐

  abbrev radicand : Float → Float
  radicand z = div w (add w z (one w)) (two w)

  abbrev components : (v : Vector) → Plumb w v → NearDown w v.2 → Known
  components v l d = known v.0 (neg (little w)) (little w) l.0 (known v.1 (neg (little w)) (little w) l.1 (known v.2 (neg (one w)) (neg (nearly_one w)) d none))

  -- 10 ^ -12, and the smallest radicand above it
  abbrev most : Float
  most = decimal w 1 (10 ^ 12)

  abbrev next : Float
  next = radicand (neg (less_nearly_one w))

  record Computed : Type 0 where
    pub most_is : T (fits w most) × T (positive most) × T (le (root w most) (millionth w))
    pub next_is : T (fits w next) × T (positive next) × T (lt (millionth w) (root w next))
    pub one_finite : T (finite (one w))
    pub length_one : normalize w (flip w) ≡ flip w
    pub straight : rotate w (flip w) (down w) ≡ up w
    pub sideways : T (le (rotate w (normalize w (quaternion (nil w) (one w) (nil w) (one w))) (down w)).2 (nil w))
    pub small : (z : Float) (d : NearDown w z) → T (inside (bound w (known z (neg (one w)) (neg (nearly_one w)) d none) radicand') nought most)
    pub large : (z : Float) (h : Within z (neg (less_nearly_one w)) (one w)) → T (inside (bound w (known z (neg (less_nearly_one w)) (one w) h none) radicand') next (one w))
    pub rows :
        (v : Vector) (l : Plumb w v) (d : NearDown w v.2)
        → T (inside (bound w (components v l d) first) (neg (little w)) (little w))
        × T (inside (bound w (components v l d) second) (neg (little w)) (little w))
        × T (inside (bound w (components v l d) third) (nearly_one w) (one w))

computed : (w : Format) → Computed w
unfolding bound inside normalize norm rotate root odd size fits add sub mul div neg lt le round of_bits to_bits
computed binary32 = record { most_is = (tt, tt, tt); next_is = (tt, tt, tt); one_finite = tt; length_one = refl; straight = refl; sideways = tt; small = λ z d. tt; large = λ z h. tt; rows = λ v l d. (tt, tt, tt) }
computed binary64 = record { most_is = (tt, tt, tt); next_is = (tt, tt, tt); one_finite = tt; length_one = refl; straight = refl; sideways = tt; small = λ z d. tt; large = λ z h. tt; rows = λ v l d. (tt, tt, tt) }

-- ---- for either format
module _ (w : Format) where
  k : Computed w
  k = computed w

  abbrev is_above : Float → Bool
  is_above z = lt (millionth w) (root w (radicand w z))

  not_above : (z : Float) → NearDown w z → is_above z ≡ false
  not_above z d =
      let s = radicand w z in
      let m = k.most_is in
      let up_to_lem = root_up_to w s (most w) (div-fits w _ _) m.0 (positive-finite (most w) m.1) (bounded w (known z (neg (one w)) (neg (nearly_one w)) d none) (radicand' w) nought (most w) (k.small z d)) in
      is_false (is_above z) (λ t. lt→nle _ _ t (le_tr (root w s) (root w (most w)) (millionth w) up_to_lem.1 m.2))

  above : (z : Float) → Within z (neg (less_nearly_one w)) (one w) → T (is_above z)
  above z h =
      let s = radicand w z in
      let n = k.next_is in
      let b = bounded w (known z (neg (less_nearly_one w)) (one w) h none) (radicand' w) (next w) (one w) (k.large z h) in
      lt_le _ _ _ n.2 (root_grows w (next w) s n.0 (div-fits w _ _) n.1 (positive_up s (next w) (one w) n.1 k.one_finite b) b.0)

  corrected : (v : Vector) → NearDown w v.2 → acc_correction w v ≡ flip w
  unfolding acc_correction
  corrected v d = simp (not_above v.2 d)

  further : (v : Vector) → Within v.2 (neg (less_nearly_one w)) (one w) → T (lt (millionth w) (acc_correction w v).0)
  unfolding acc_correction
  further v h = simp (is_true (is_above v.2) (above v.2 h)) tt

  flipped : (v : Vector) → Plumb w v → NearDown w v.2 → let c = rotate w (flip w) v in Plumb w c × NearUp w c.2
  unfolding rotate
  flipped v l d =
      let c = components w v l d in
      let r = k.rows v l d in
      ((bounded w c (first w) _ _ r.0, bounded w c (second w) _ _ r.1), bounded w c (third w) _ _ r.2)

  carried : (v : Vector) → Plumb w v → NearDown w v.2 → let c = rotate w (normalize w (acc_correction w v)) v in Plumb w c × NearUp w c.2
  carried v l d =
      let is : normalize w (acc_correction w v) ≡ flip w = ap (normalize w) (corrected v d) ∙ k.length_one in
      subst (λ (q : Quaternion). Plumb w (rotate w q v) × NearUp w (rotate w q v).2) (sym is) (flipped v l d)

  pub half_turn : HalfTurn w
  half_turn = record { straight = k.straight; corrected = corrected; further = further; carried = carried; sideways = k.sideways }
