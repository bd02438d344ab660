-- The exact values: each row has what a function gives, and what it is. A zero's sign counts.
use Rattle.std.specs.Prelude.{◌≡◌, List, [], ◌∷◌, map, refl, Float}
use Rattle.std.specs.Float.{binary64}
use Rattle.std.specs.Float.Ieee.{of_bits, to_bits, neg, add, sub, mul, div, lt, eq, le}
use Rattle.floats.specs.Definitions.{magnitude, clamp}
use Rattle.numbers.specs.Constants.{𝟎, 𝟏, EXP_LIMIT, PI, PIO2}
use Rattle.numbers.specs.Root.{root}
use Rattle.numbers.specs.Sines.{ksin, kcos, reduce, sine_of, cosine_of, sine, cosine, sin, cos, tan}
use Rattle.numbers.specs.Exponential.{kexp, power, exponential, exp}
use Rattle.numbers.specs.Arcs.{kasin, near_one, arcsine, arccosine, ratio, katan, upper, angle, asin, acos, atan2}

abbrev pub rows : List (Float × Float)
rows =
    (sin binary64 𝟎, 𝟎)
    ∷ (sin binary64 PIO2, 𝟏)
    ∷ (cos binary64 𝟎, 𝟏)
    ∷ (cos binary64 PI, neg 𝟏)
    ∷ (tan 𝟎, 𝟎)
    ∷ (exp binary64 𝟎, 𝟏)
    ∷ (exp binary64 (neg EXP_LIMIT), 𝟎)
    ∷ (asin binary64 𝟏, PIO2)
    ∷ (asin binary64 (neg 𝟏), neg PIO2)
    ∷ (acos binary64 𝟏, 𝟎)
    ∷ (acos binary64 (neg 𝟏), PI)
    ∷ (atan2 binary64 𝟎 (neg 𝟏), PI)
    ∷ (atan2 binary64 (neg 𝟎) (neg 𝟏), neg PI)
    ∷ (atan2 binary64 𝟎 𝟏, 𝟎)
    ∷ []

pub values : map (λ (r : Float × Float). r.0) rows ≡ map (λ (r : Float × Float). r.1) rows
unfolding of_bits to_bits neg add sub mul div lt eq le magnitude clamp root ksin kcos reduce sine_of cosine_of sine cosine tan kexp power exponential kasin near_one arcsine arccosine ratio katan upper angle
values = refl
