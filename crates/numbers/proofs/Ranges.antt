-- The ranges and the domains follow from the clamps, whatever the kernels give. Rounding to a format keeps to a range whose ends it rounds too.
use Rattle.floats.specs.Prelude.{◌≡◌, refl, sym, ap, subst, ◌∙◌, ◌⊎◌, inl, inr, Bool, true, false, not, cond, ◌&&◌, T, Float, nan, inf, fin, Format, binary32, binary64, round, of_bits, neg, lt, le, is_nan, and_l, and_r, and_i, finite}
use Rattle.floats.specs.Notation.{zero, one, pi, single, narrow}
use Rattle.floats.specs.Decimals.{half_pi}
use Rattle.floats.specs.NoNan.{is_the_nan}
use Rattle.floats.specs.Fractions.{sign}
use Rattle.floats.specs.Definitions.{magnitude, clamp}
use Rattle.floats.specs.Order.{number, le_tr, le→number, Within, widen, neg_within}
use Rattle.floats.specs.Clamps.{clamp_within, cond_within}
use Rattle.floats.proofs.Narrowed.{narrow_within, narrow_nan}
use Rattle.numbers.specs.Constants.{𝟎, 𝟏, HALF, between, ANGLE_LIMIT, TAN_LIMIT, EXP_LIMIT, NEAR, EXP_FLOOR, PI, PIO2}
use Rattle.numbers.specs.Sines.{sine, cosine, tan}
use Rattle.numbers.specs.Exponential.{exponential}
use Rattle.numbers.specs.Arcs.{katan, upper, arcsine, arccosine, angle, atan2}
use Rattle.numbers.specs.Ranges.{GivenFrom, Ranges}

-- ---- r lies within lo and hi where `inside` holds, and is no number elsewhere
record Given (r : Float) (inside : Bool) (lo hi : Float) : Type 0 where
  pub within : T inside → Within r lo hi
  pub domain : is_nan r ≡ not inside

a_number : (r : Float) → T (number r) → is_nan r ≡ false
unfolding is_nan
a_number nan p = absurd p
a_number (inf s) p = refl
a_number (fin s m e) p = refl

within_given : (r lo hi : Float) → Within r lo hi → Given r true lo hi
within_given r lo hi v = record { within = λ _. v; domain = a_number r (le→number lo r v.0).1 }

-- the shape of every recipe: u near by, v in the rest of the domain, nothing elsewhere
given : (near inside : Bool) (u v lo hi : Float) → (T near → T inside) → Within u lo hi → Within v lo hi → Given (cond near u (cond inside v nan)) inside lo hi
given true true u v lo hi h p q = within_given u lo hi p
given true false u v lo hi h p q = absurd (h tt)
given false true u v lo hi h p q = within_given v lo hi q
given false false u v lo hi h p q = record { within = λ t. absurd t; domain = unfold is_nan in refl }

only : (inside : Bool) (v lo hi : Float) → Within v lo hi → Given (cond inside v nan) inside lo hi
only inside v lo hi q = given false inside v v lo hi (λ (t : T false). absurd t) q q

-- ---- the test of a domain says that x lies within it
between→within : (x lo hi : Float) → T (between x lo hi) → Within x lo hi
between→within x lo hi t = (and_l (le lo x) (le x hi) t, and_r (le lo x) (le x hi) t)

within→between : (x lo hi : Float) → Within x lo hi → T (between x lo hi)
within→between x lo hi w = and_i (le lo x) (le x hi) w.0 w.1

narrower : (x lo hi lo' hi' : Float) → T (le lo' lo) → T (le hi hi') → T (between x lo hi) → T (between x lo' hi')
narrower x lo hi lo' hi' h k t = within→between x lo' hi' (widen x lo hi lo' hi' h k (between→within x lo hi t))

-- ---- the recipes
near_inside : (x : Float) → T (between x (neg NEAR) NEAR) → T (between x (neg ANGLE_LIMIT) ANGLE_LIMIT)
near_inside x = narrower x (neg NEAR) NEAR (neg ANGLE_LIMIT) ANGLE_LIMIT (unfold le neg of_bits in tt) (unfold le neg of_bits in tt)

clamped : (v : Float) → Within (clamp v (neg 𝟏) 𝟏) (neg 𝟏) 𝟏
clamped v = clamp_within v (neg 𝟏) 𝟏 (unfold le neg of_bits in tt)

sin_given : (x : Float) → Given (sine x) (between x (neg ANGLE_LIMIT) ANGLE_LIMIT) (neg 𝟏) 𝟏
unfolding sine
sin_given x = given (between x (neg NEAR) NEAR) (between x (neg ANGLE_LIMIT) ANGLE_LIMIT) _ _ (neg 𝟏) 𝟏 (near_inside x) (clamped _) (clamped _)

cos_given : (x : Float) → Given (cosine x) (between x (neg ANGLE_LIMIT) ANGLE_LIMIT) (neg 𝟏) 𝟏
unfolding cosine
cos_given x = given (between x (neg NEAR) NEAR) (between x (neg ANGLE_LIMIT) ANGLE_LIMIT) _ _ (neg 𝟏) 𝟏 (near_inside x) (clamped _) (clamped _)

tan_given : (x : Float) → Given (tan x) (between x 𝟎 TAN_LIMIT) 𝟎 𝟏
unfolding tan le of_bits
tan_given x = only (between x 𝟎 TAN_LIMIT) _ 𝟎 𝟏 (clamp_within _ 𝟎 𝟏 tt)

exp_given : (x : Float) → Given (exponential x) (between x (neg EXP_LIMIT) 𝟎) 𝟎 𝟏
unfolding exponential le neg of_bits
exp_given x =
    given (between x (neg EXP_FLOOR) 𝟎) (between x (neg EXP_LIMIT) 𝟎) _ 𝟎 𝟎 𝟏 (narrower x (neg EXP_FLOOR) 𝟎 (neg EXP_LIMIT) 𝟎 tt tt) (clamp_within _ 𝟎 𝟏 tt) (tt, tt)

-- of either sign
mirrored : (b : Bool) (v lo hi : Float) → T (le (neg hi) lo) → T (le (neg lo) hi) → Within v lo hi → Within (cond b (neg v) v) (neg hi) hi
mirrored b v lo hi h k u =
    let n = neg_within v lo hi u in
    cond_within b (neg v) v (neg hi) hi (n.0, le_tr (neg v) (neg lo) hi n.1 k) (le_tr (neg hi) lo v h u.0, u.1)

quarter : (v : Float) → Within (clamp v (neg PIO2) PIO2) (neg PIO2) PIO2
quarter v = clamp_within v (neg PIO2) PIO2 (unfold le neg of_bits in tt)

asin_given : (x : Float) → Given (arcsine x) (between x (neg 𝟏) 𝟏) (neg PIO2) PIO2
unfolding arcsine
asin_given x =
    only (between x (neg 𝟏) 𝟏) _ (neg PIO2) PIO2
    (cond_within (le (magnitude x) HALF) _ _ (neg PIO2) PIO2 (quarter _)
    (mirrored (lt x 𝟎) _ (neg PIO2) PIO2 (unfold le neg of_bits in tt) (unfold le neg of_bits in tt) (quarter _)))

upward : (v : Float) → Within (clamp v 𝟎 PI) 𝟎 PI
upward v = clamp_within v 𝟎 PI (unfold le of_bits in tt)

acos_given : (x : Float) → Given (arccosine x) (between x (neg 𝟏) 𝟏) 𝟎 PI
unfolding arccosine
acos_given x =
    only (between x (neg 𝟏) 𝟏) _ 𝟎 PI
    (cond_within (le (magnitude x) HALF) _ _ 𝟎 PI (upward _) (cond_within (lt x 𝟎) _ _ 𝟎 PI (upward _) (upward _)))

upper_within : (y x : Float) → Within (upper y x) 𝟎 PI
unfolding upper katan
upper_within y x = cond_within (lt (magnitude x) y) _ _ 𝟎 PI (upward _) (cond_within (sign x) _ _ 𝟎 PI (upward _) (upward _))

angle_given : (y x : Float) → Given (angle y x) (finite y && finite x) (neg PI) PI
unfolding angle
angle_given y x =
    only (finite y && finite x) _ (neg PI) PI (mirrored (sign y) _ 𝟎 PI (unfold le neg of_bits in tt) (unfold le neg of_bits in tt) (upper_within (magnitude y) x))

-- ---- in the format w
-- what an end is rounded to
record End (w : Format) (c d : Float) : Type 0 where
  pub is_finite : T (finite c)
  pub rounds : narrow w c ≡ d

end : (c : Float) (d : Format → Float) → T (finite c) → single c ≡ d binary32 → c ≡ d binary64 → (w : Format) → End w c (d w)
end c d f p q binary32 = record { is_finite = f; rounds = p }
end c d f p q binary64 = record { is_finite = f; rounds = q }

narrowed : (w : Format) {r lo hi lo' hi' : Float} {inside : Bool} → End w lo lo' → End w hi hi' → Given r inside lo hi → Given (narrow w r) inside lo' hi'
narrowed w {r} {lo} {hi} {lo'} {hi'} {inside} l h g = go inside g.within g.domain
  where
    go : (b : Bool) → (T b → Within r lo hi) → is_nan r ≡ not b → Given (narrow w r) b lo' hi'
    go true v d = within_given (narrow w r) lo' hi' (rw (l.rounds, h.rounds) at (narrow_within w r lo hi l.is_finite h.is_finite (v tt)))
    go false v d = record { within = λ t. absurd t; domain = ap is_nan (ap (narrow w) (is_the_nan r (subst T (sym d) tt)) ∙ narrow_nan w) ∙ (unfold is_nan in refl) }

given_from : {lo hi : Float} {f : Float → Float} {least most : Float} → ((x : Float) → Given (f x) (between x lo hi) least most) → GivenFrom lo hi f least most
given_from {lo} {hi} h = record { within = λ x v. (h x).within (within→between x lo hi v); domain = λ x. (h x).domain }

module _ (w : Format) where
  atan2_given : (y x : Float) → Given (atan2 w y x) (finite y && finite x) (neg (pi w)) (pi w)
  unfolding of_bits neg round
  atan2_given y x = narrowed w (end (neg PI) (λ w. neg (pi w)) tt refl refl w) (end PI pi tt refl refl w) (angle_given y x)

  pub ranges : Ranges w
  unfolding of_bits neg round
  ranges =
      let nil = end 𝟎 zero tt refl refl w in
      let unit = end 𝟏 one tt refl refl w in
      let back = end (neg 𝟏) (λ w. neg (one w)) tt refl refl w in
      record {
        sin = given_from (λ x. narrowed w back unit (sin_given x));
        cos = given_from (λ x. narrowed w back unit (cos_given x));
        tan = given_from tan_given;
        exp = given_from (λ x. narrowed w nil unit (exp_given x));
        asin = given_from (λ x. narrowed w (end (neg PIO2) (λ w. neg (half_pi w)) tt refl refl w) (end PIO2 half_pi tt refl refl w) (asin_given x));
        acos = given_from (λ x. narrowed w nil (end PI pi tt refl refl w) (acos_given x));
        atan2_within = λ y x p q. (atan2_given y x).within (and_i (finite y) (finite x) p q);
        atan2_domain = λ y x. (atan2_given y x).domain;
      }

  -- of two numbers that are not both finite there is no angle
  pub angle_within : (y x : Float) → (atan2 w y x ≡ nan) ⊎ Within (atan2 w y x) (neg (pi w)) (pi w)
  angle_within y x = let g = atan2_given y x in go (finite y && finite x) g.within g.domain
    where
      go : (b : Bool) → (T b → Within (atan2 w y x) (neg (pi w)) (pi w)) → is_nan (atan2 w y x) ≡ not b → (atan2 w y x ≡ nan) ⊎ Within (atan2 w y x) (neg (pi w)) (pi w)
      go true v d = inr (v tt)
      go false v d = inl (is_the_nan _ (subst T (sym d) tt))
