-- Banks of channels: each channel goes by itself, whatever their number.
use Rattle.std.specs.Prelude.{Bool, true, ◌&&◌, List, [], ◌∷◌, map, ℕ, zero, suc, get_or, Float}
use Rattle.std.specs.Float.{nan, Format}
use Rattle.floats.specs.Notation.{narrow}
use Rattle.algebra.specs.Vectors.{components, of_components}
use Rattle.algebra.specs.declared.vector.Vector.{Vector}
use Rattle.filters.specs.Channels.{averaging, filter_channel, filter_adapt_state_for_coeff_change, first_number, finite_channel}
use Rattle.filters.specs.declared.coeffs.Coeffs.{Coeffs}
use Rattle.filters.specs.declared.channel.Channel.{Channel}
use Rattle.filters.specs.declared.channel.Filtered.{Filtered}
use Rattle.filters.specs.declared.bank.Bank.{Bank}

-- k, k + 1, .. , n numbers
abbrev pub from : ℕ → ℕ → List ℕ
from k zero = []
from k (suc n) = k ∷ from (suc k) n

-- f at each number below n
abbrev pub each : {A : Type 0} → ℕ → (ℕ → A) → List A
each n f = map f (from 0 n)

-- whether f holds at each number below n
abbrev pub every : ℕ → (ℕ → Bool) → Bool
every zero f = true
every (suc n) f = every n f && f n

abbrev pub sample : List Float → ℕ → Float
sample xs i = get_or xs i nan

abbrev pub channel : List Channel → ℕ → Channel
channel cs i = get_or cs i (averaging nan nan)

-- what a bank of three answers to a vector, and its channels after it
pub record FilteredVector : Type 0 where
  pub y : Vector
  pub channels : List Channel

module _ (w : Format) where
  abbrev pub filtered : List Float → Float → Float → Coeffs → List Channel → ℕ → Filtered
  filtered xs tau ts k cs i = filter_channel w (sample xs i) tau ts k (channel cs i)

  unfoldable pub outputs : ℕ → List Float → Float → Float → Coeffs → List Channel → List Float
  outputs n xs tau ts k cs = each n (λ i. (filtered xs tau ts k cs i).y)

  unfoldable pub channels : ℕ → List Float → Float → Float → Coeffs → List Channel → List Channel
  channels n xs tau ts k cs = each n (λ i. (filtered xs tau ts k cs i).channel)

  abbrev pub filter_vec : (n : ℕ) → List Float → Float → Float → Coeffs → List Channel → Bank n
  filter_vec n xs tau ts k cs = record { y = outputs n xs tau ts k cs; channels = channels n xs tau ts k cs }

  -- a vector, one channel for each component
  unfoldable pub filter_vec3 : Vector → Float → Float → Coeffs → List Channel → FilteredVector
  filter_vec3 v tau ts k cs = let f = filter_vec 3 (components v) tau ts k cs in record { y = of_components f.y; channels = f.channels }

  -- the source takes the first memory for the last answer, to which it is close
  unfoldable pub first_numbers : ℕ → List Channel → List Float
  first_numbers n cs = each n (λ i. narrow w (first_number (channel cs i)))

unfoldable pub adapted : ℕ → List Float → Coeffs → Coeffs → List Channel → List Channel
adapted n ys old new cs = each n (λ i. filter_adapt_state_for_coeff_change (sample ys i) old new (channel cs i))

-- after an answer that is a vector
unfoldable pub adapt3 : Vector → Coeffs → Coeffs → List Channel → List Channel
adapt3 v = adapted 3 (components v)

unfoldable pub finite_channels : ℕ → List Channel → Bool
finite_channels n cs = every n (λ i. finite_channel (channel cs i))
