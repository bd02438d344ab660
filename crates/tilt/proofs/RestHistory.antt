-- What rest turns on is a view of the filter. A sample moves that view by one function of the view and the sample, and what a diary and its events tell
-- moves in the same way.
use Rattle.floats.specs.Prelude.{◌≡◌, refl, sym, ap, ◌∙◌, Bool, true, false, not, cond, ◌&&◌, ◌||◌, List, [], ◌∷◌, ◌++◌, replicate, Float, Format, lt, le}
use Rattle.floats.specs.Notation.{rounded, zero}
use Rattle.floats.specs.Definitions.{magnitude}
use Rattle.algebra.specs.declared.vector.Vector.{Vector}
use Rattle.filters.specs.Banks.{filter_vec3}
use Rattle.filters.specs.Channels.{fresh}
use Rattle.filters.specs.Coefficients.{filter_coeffs}
use Rattle.filters.specs.declared.channel.Channel.{Channel}
use Rattle.filters.specs.declared.coeffs.Coeffs.{Coeffs}
use Rattle.limits.specs.declared.updated.Tried.{Tried}
use Rattle.tilt.specs.Scalars.{square, radians}
use Rattle.tilt.specs.Rest.{squared_deviation, broken}
use Rattle.tilt.specs.Gyr.{gyr_stirred, gyr_rest, gyr_filtered}
use Rattle.tilt.specs.Acc.{acc_rest, acc_filtered, counted, acc_stirred, acc_tried}
use Rattle.tilt.specs.RestHistory.{Event, breaks, adds, neither, added_after, any, sums_from, sums, Diary, watched, note_gyr, note_acc, memory, lowpassed, gyr_quiet, acc_quiet, gyr_event, acc_event}
use Rattle.tilt.specs.Types.{Rest, RestParams}

-- ---- The events alone: the sum since the last break, and whether a sum has reached `rest_min_t`.
pub record Clock : Type 0 where
  pub min_t : Float
  pub t : Float
  pub reached : Bool

or_swap : (a b c : Bool) → (a || (b || c)) ≡ (b || (a || c))
or_swap true true c = refl
or_swap true false c = refl
or_swap false b c = refl

module _ (w : Format) where
  open rounded w use {◌⊕◌}

  abbrev pub moved_by : Clock → Event → Clock
  moved_by c breaks = record { min_t = c.min_t; t = zero w; reached = false }
  moved_by c (adds ts) = record { min_t = c.min_t; t = c.t ⊕ ts; reached = le c.min_t (c.t ⊕ ts) || c.reached }
  moved_by c neither = c

  abbrev pub moved_by_all : Clock → List Event → Clock
  moved_by_all c [] = c
  moved_by_all c (e ∷ es) = moved_by_all (moved_by c e) es

  abbrev total_from : Float → List Float → Float
  total_from s [] = s
  total_from s (t ∷ ts) = total_from (s ⊕ t) ts

  total_of_one_more : (s : Float) (ts : List Float) (t : Float) → total_from s (ts ++ t ∷ []) ≡ total_from s ts ⊕ t
  total_of_one_more s [] t = refl
  total_of_one_more s (x ∷ ts) t = total_of_one_more (s ⊕ x) ts t

  any_of_one_more : (p : Float → Bool) (s : Float) (ts : List Float) (t : Float)
      → any p (sums_from w s (ts ++ t ∷ [])) ≡ (p (total_from s ts ⊕ t) || any p (sums_from w s ts))
  any_of_one_more p s [] t = refl
  any_of_one_more p s (x ∷ ts) t = rw (any_of_one_more p (s ⊕ x) ts t) (or_swap (p (s ⊕ x)) (p (total_from (s ⊕ x) ts ⊕ t)) (any p (sums_from w (s ⊕ x) ts)))

  -- the clock after the additions of ts
  abbrev pub shown : Float → List Float → Clock
  shown min_t ts = record { min_t = min_t; t = total_from (zero w) ts; reached = any (le min_t) (sums w ts) }

  one_more : (min_t : Float) (ts : List Float) (t : Float) → moved_by (shown min_t ts) (adds t) ≡ shown min_t (ts ++ t ∷ [])
  one_more min_t ts t = λ i. record {
    min_t = min_t;
    t = sym (total_of_one_more (zero w) ts t) i;
    reached = sym (any_of_one_more (le min_t) (zero w) ts t) i;
  }

  pub told_by : (min_t : Float) (ts : List Float) (es : List Event) → moved_by_all (shown min_t ts) es ≡ shown min_t (added_after ts es)
  told_by min_t ts [] = refl
  told_by min_t ts (breaks ∷ es) = told_by min_t [] es
  told_by min_t ts (adds t ∷ es) = ap (λ (c : Clock). moved_by_all c es) (one_more min_t ts t) ∙ told_by min_t (ts ++ t ∷ []) es
  told_by min_t ts (neither ∷ es) = told_by min_t ts es

-- ---- What rest turns on.
pub record View : Type 0 where
  pub settings : RestParams
  pub gyr_ts : Float
  pub acc_ts : Float
  pub gyr_lp : Coeffs
  pub acc_lp : Coeffs
  pub gyr_memory : List Channel
  pub acc_memory : List Channel
  pub clock : Clock

abbrev pub view : RestParams → Float → Float → Coeffs → Coeffs → Rest → View
view p gyr_ts acc_ts gyr_lp acc_lp r =
    record {
      settings = p;
      gyr_ts = gyr_ts;
      acc_ts = acc_ts;
      gyr_lp = gyr_lp;
      acc_lp = acc_lp;
      gyr_memory = r.rest_gyr_lp_state;
      acc_memory = r.rest_acc_lp_state;
      clock = record { min_t = p.rest_min_t; t = r.rest_t; reached = r.rest_detected };
    }

abbrev pub with_memories : View → List Channel → List Channel → Clock → View
with_memories v gyrs accs c =
    record {
      settings = v.settings;
      gyr_ts = v.gyr_ts;
      acc_ts = v.acc_ts;
      gyr_lp = v.gyr_lp;
      acc_lp = v.acc_lp;
      gyr_memory = gyrs;
      acc_memory = accs;
      clock = c;
    }

abbrev pub with_settings : View → RestParams → View
with_settings v p =
    record {
      settings = p;
      gyr_ts = v.gyr_ts;
      acc_ts = v.acc_ts;
      gyr_lp = v.gyr_lp;
      acc_lp = v.acc_lp;
      gyr_memory = v.gyr_memory;
      acc_memory = v.acc_memory;
      clock = v.clock;
    }

module _ (w : Format) where
  abbrev pub restarted : View → View
  restarted v = with_memories v (replicate 3 fresh) (replicate 3 fresh) (moved_by w v.clock breaks)

  abbrev pub gyr_seen : View → Vector → View
  gyr_seen v x =
      let b = filter_vec3 w x v.settings.rest_filter_tau v.gyr_ts v.gyr_lp v.gyr_memory in
      let stirred = gyr_stirred w v.settings (squared_deviation w x b.y) b.y in
      cond (watched v.settings) (with_memories v b.channels v.acc_memory (moved_by w v.clock (cond stirred breaks neither))) v

  abbrev pub acc_seen : View → Vector → View
  acc_seen v x =
      let b = filter_vec3 w x v.settings.rest_filter_tau v.acc_ts v.acc_lp v.acc_memory in
      let stirred = le (square w v.settings.rest_th_acc) (squared_deviation w x b.y) in
      cond v.settings.rest_bias_est_enabled
      (with_memories v v.gyr_memory b.channels (moved_by w v.clock (cond stirred breaks (adds v.acc_ts)))) v

  -- ---- Each sample moves the view so.
  module _ (p : RestParams) (gyr_ts acc_ts : Float) (gyr_lp acc_lp : Coeffs) (r : Rest) (x : Vector) where
    abbrev seen : Rest → View
    seen = view p gyr_ts acc_ts gyr_lp acc_lp

    pub gyr_rest_moves : seen (gyr_rest w r p gyr_ts gyr_lp x).value ≡ gyr_seen (seen r) x
    unfolding gyr_filtered gyr_rest broken
    gyr_rest_moves = go (watched p) (gyr_stirred w p lp.rest_last_squared_deviations.0 lp.rest_last_gyr_lp) _
      where
        lp : Rest
        lp = gyr_filtered w r p.rest_filter_tau gyr_ts gyr_lp x

        go : (on stirred finite : Bool)
            → seen (cond {A = Tried Rest} on (record { finite = finite; value = cond stirred (broken w lp) lp }) (record { finite = true; value = r })).value
            ≡ cond on (with_memories (seen r) lp.rest_gyr_lp_state r.rest_acc_lp_state (moved_by w (seen r).clock (cond stirred breaks neither))) (seen r)
        go true true finite = refl
        go true false finite = refl
        go false stirred finite = refl

    pub acc_rest_moves : seen (acc_rest w r p acc_ts acc_lp x).value ≡ acc_seen (seen r) x
    unfolding acc_filtered acc_rest counted broken
    acc_rest_moves = go p.rest_bias_est_enabled (acc_stirred w p lp)
      where
        lp : Rest
        lp = acc_filtered w r p.rest_filter_tau acc_ts acc_lp x

        go : (on stirred : Bool)
            → seen (cond {A = Tried Rest} on (cond stirred (acc_tried w (broken w lp)) (acc_tried w (counted w lp p.rest_min_t acc_ts))) (record { finite = true; value = r })).value
            ≡ cond on (with_memories (seen r) r.rest_gyr_lp_state lp.rest_acc_lp_state (moved_by w (seen r).clock (cond stirred breaks (adds acc_ts)))) (seen r)
        go true true = refl
        go true false = refl
        go false stirred = refl

  -- ---- What a history tells moves in the same way.
  abbrev pub told_view : Diary → Clock → View
  told_view d c =
      let tau = d.settings.rest_filter_tau in
      record {
        settings = d.settings;
        gyr_ts = d.gyr_ts;
        acc_ts = d.acc_ts;
        gyr_lp = filter_coeffs tau d.gyr_ts;
        acc_lp = filter_coeffs tau d.acc_ts;
        gyr_memory = memory w tau d.gyr_ts d.gyr_heard;
        acc_memory = memory w tau d.acc_ts d.acc_heard;
        clock = c;
      }

  de_morgan : (a b c d : Bool) → (a || b || c || d) ≡ not (not a && not b && not c && not d)
  de_morgan true b c d = refl
  de_morgan false true c d = refl
  de_morgan false false true d = refl
  de_morgan false false false true = refl
  de_morgan false false false false = refl

  gyr_stirs : (d : Diary) (x : Vector)
      → let lp = lowpassed w d.settings.rest_filter_tau d.gyr_ts d.gyr_heard x in
      gyr_stirred w d.settings (squared_deviation w x lp) lp ≡ not (gyr_quiet w d x)
  unfolding gyr_quiet gyr_stirred
  gyr_stirs d x =
      let p = d.settings in
      let lp = lowpassed w p.rest_filter_tau d.gyr_ts d.gyr_heard x in
      let clip = radians w p.bias_clip in
      de_morgan (le (square w (radians w p.rest_th_gyr)) (squared_deviation w x lp))
      (lt clip (magnitude lp.0)) (lt clip (magnitude lp.1)) (lt clip (magnitude lp.2))

  pub gyr_kept_up : (d : Diary) (k : Clock) (x : Vector) → gyr_seen (told_view d k) x ≡ told_view (note_gyr d x) (moved_by w k (gyr_event w d x))
  gyr_kept_up d k x = rw (gyr_stirs d x) (go (watched d.settings) (not (gyr_quiet w d x)))
    where
      heard : Diary
      heard = record { settings = d.settings; gyr_ts = d.gyr_ts; acc_ts = d.acc_ts; gyr_heard = x ∷ d.gyr_heard; acc_heard = d.acc_heard }

      go : (on stirred : Bool)
          → cond on (with_memories (told_view d k) (told_view heard k).gyr_memory (told_view d k).acc_memory (moved_by w k (cond stirred breaks neither))) (told_view d k)
          ≡ told_view (cond on heard d) (moved_by w k (cond (on && stirred) breaks neither))
      go true true = refl
      go true false = refl
      go false stirred = refl

  pub acc_kept_up : (d : Diary) (k : Clock) (x : Vector) → acc_seen (told_view d k) x ≡ told_view (note_acc d x) (moved_by w k (acc_event w d x))
  unfolding acc_quiet
  acc_kept_up d k x =
      go d.settings.rest_bias_est_enabled
      (le (square w d.settings.rest_th_acc) (squared_deviation w x (lowpassed w d.settings.rest_filter_tau d.acc_ts d.acc_heard x)))
    where
      heard : Diary
      heard = record { settings = d.settings; gyr_ts = d.gyr_ts; acc_ts = d.acc_ts; gyr_heard = d.gyr_heard; acc_heard = x ∷ d.acc_heard }

      go : (on stirred : Bool)
          → cond on (with_memories (told_view d k) (told_view d k).gyr_memory (told_view heard k).acc_memory (moved_by w k (cond stirred breaks (adds d.acc_ts)))) (told_view d k)
          ≡ told_view (cond on heard d) (moved_by w k (cond on (cond (not stirred) (adds d.acc_ts) breaks) neither))
      go true true = refl
      go true false = refl
      go false stirred = refl
