-- In either format a gain lies within 0 and 1: what the exponential is taken of lies within its domain, and 1 less what it gives stays within.
use Rattle.floats.specs.Prelude.{◌⊎◌, inl, inr, Bool, true, false, ◌||◌, cond, T, Float, Format, binary32, binary64, of_bits, sub, div, neg, lt, eq, le}
use Rattle.floats.specs.Notation.{zero, one}
use Rattle.floats.specs.Decimals.{ten_thousand, ten_thousandth}
use Rattle.floats.specs.Order.{Within}
use Rattle.floats.specs.Intervals.{Known, none, known, var, lit, neg', sub', div', bound, inside, bounded}
use Rattle.numbers.specs.Constants.{𝟎, EXP_LIMIT}
use Rattle.numbers.specs.Exponential.{exp}
use Rattle.numbers.proofs.Ranges.{ranges}
use Rattle.filters.specs.Coefficients.{gain_from_tau}
use Rattle.filters.specs.Bounds.{Interval, GainConstant, Gain}

pub none_or_all : (w : Format) → Gain w (zero w) × Gain w (one w)
unfolding le of_bits
none_or_all binary32 = ((tt, tt), (tt, tt))
none_or_all binary64 = ((tt, tt), (tt, tt))

abbrev at : (w : Format) (tau ts : Float) → Interval w ts → Within tau (ten_thousandth w) (ten_thousand w) → Known
at w tau ts v u = known ts (ten_thousandth w) (one w) v (known tau (ten_thousandth w) (ten_thousand w) u none)

-- ---- what the prover computes in each format
record Computed (w : Format) : Type 0 where
  exponent : (tau ts : Float) (v : Interval w ts) (u : Within tau (ten_thousandth w) (ten_thousand w)) → T (inside (bound w (at w tau ts v u) (div' (neg' (var 0)) (var 1))) (neg EXP_LIMIT) 𝟎)
  rest : (e : Float) (u : Gain w e) → T (inside (bound w (known e (zero w) (one w) u none) (sub' (lit (one w)) (var 0))) (zero w) (one w))

computed : (w : Format) → Computed w
unfolding bound inside neg of_bits
computed binary32 = record { exponent = λ tau ts v u. tt; rest = λ e u. tt }
computed binary64 = record { exponent = λ tau ts v u. tt; rest = λ e u. tt }

-- nothing, all, or x where neither test passes
chosen : (w : Format) (a b : Bool) (x : Float) → T (a || b) ⊎ Gain w x → Gain w (cond a (zero w) (cond b (one w) x))
chosen w true b x h = (none_or_all w).0
chosen w false true x h = (none_or_all w).1
chosen w false false x (inl h) = absurd h
chosen w false false x (inr h) = h

pub gain_within : (w : Format) (tau ts : Float) → Interval w ts → GainConstant w tau → Gain w (gain_from_tau w tau ts)
unfolding gain_from_tau le
gain_within w tau ts v u = chosen w (lt tau (zero w)) (eq tau (zero w)) _ (by_kind u)
  where
    by_kind : GainConstant w tau → T (le tau (zero w)) ⊎ Gain w (sub w (one w) (exp w (div w (neg ts) tau)))
    by_kind (inl u) = inl u.1
    by_kind (inr u) =
        let e = (ranges w).exp.within _ (bounded w (at w tau ts v u) (div' (neg' (var 0)) (var 1)) (neg EXP_LIMIT) 𝟎 ((computed w).exponent tau ts v u)) in
        inr (bounded w (known _ (zero w) (one w) e none) (sub' (lit (one w)) (var 0)) (zero w) (one w) ((computed w).rest _ e))
