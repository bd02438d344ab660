-- A count begins at 0 and 1 is added to it; each channel of a bank goes by itself.
use Rattle.floats.specs.Prelude.{◌≡◌, sym, subst, ap, ◌∙◌, Bool, true, List, map, ℕ, zero, suc, ◌+◌, ◌<◌, not-suc-le-zero, le_of_suc-le-suc, add-zero, add-suc, suc-add, zero-add, arith, T, get_or, replicate, get_or-replicate, Float, Format, binary64, mul, le, add, of_bits}
use Rattle.floats.specs.Notation.{one, narrow}
use Rattle.floats.specs.Tests.{both, keeps}
use Rattle.floats.proofs.FromZero.{sum_from_zero}
use Rattle.filters.specs.Channels.{fresh, filter_initial_state, filter_adapt_state_for_coeff_change, filter_step, average, filter_channel}
use Rattle.filters.specs.Banks.{from, each, every, sample, channel, channels, adapted}
use Rattle.filters.specs.Counts.{counts_from_zero, all_from_zero}
use Rattle.filters.specs.Types.{Coeffs, Phase, Channel}
use Rattle.filters.specs.declared.channel.Phase.TheVariants.{Averaging, Running}

-- ---- one channel
abbrev FromZero : Channel → Type 0
FromZero c = T (counts_from_zero c.phase)

phase_filtered : (w : Format) (x tau ts : Float) (k : Coeffs) (p : Phase) → T (counts_from_zero p) → FromZero (filter_channel w x tau ts k (record { phase = p })).channel
unfolding filter_channel filter_step average filter_initial_state
phase_filtered w x tau ts k (Averaging n s) h =
    let m = add binary64 n (one binary64) in
    keeps FromZero (le tau (mul w (narrow w m) ts)) _ _ (λ _. tt) (sum_from_zero binary64 n (one binary64) h (unfold le of_bits in tt))
phase_filtered w x tau ts k (Running a b) h = tt

phase_adapted : (y : Float) (old new : Coeffs) (p : Phase) → T (counts_from_zero p) → FromZero (filter_adapt_state_for_coeff_change y old new (record { phase = p }))
unfolding filter_adapt_state_for_coeff_change
phase_adapted y old new (Averaging n s) h = h
phase_adapted y old new (Running a b) h = tt

-- ---- a bank of any number
at : (f : ℕ → Channel) (k n i : ℕ) (d : Channel) → i < n → get_or (map f (from k n)) i d ≡ f (k + i)
at f k zero i d h = absurd (not-suc-le-zero h)
at f k (suc n) zero d h = ap f (sym (add-zero k))
at f k (suc n) (suc i) d h = at f (suc k) n i d (le_of_suc-le-suc h) ∙ ap f (suc-add k i ∙ sym (add-suc k i))

every_from : (n m : ℕ) (p q : ℕ → Bool) → ((i : ℕ) → i < m → T (p i) → T (q i)) → n < suc m → T (every n p) → T (every n q)
every_from zero m p q h l t = tt
every_from (suc n) m p q h l t =
    let u = (both (every n p) (p n)).0 t in
    (both (every n q) (q n)).1 (every_from n m p q h (omega arith) u.0, h n (omega arith) u.1)

bank : (n : ℕ) (cs : List Channel) (f : ℕ → Channel) → ((i : ℕ) → FromZero (channel cs i) → FromZero (f i)) → T (all_from_zero n cs) → T (all_from_zero n (each n f))
unfolding all_from_zero
bank n cs f h =
    every_from n n _ _
    (λ i l t. subst FromZero (sym (at f 0 n i _ l ∙ ap f (zero-add i))) (h i t)) (omega arith)

pub channels_from_zero : (w : Format) (n : ℕ) (xs : List Float) (tau ts : Float) (k : Coeffs) (cs : List Channel) → T (all_from_zero n cs) → T (all_from_zero n (channels w n xs tau ts k cs))
unfolding channels
channels_from_zero w n xs tau ts k cs = bank n cs _ (λ i. phase_filtered w (sample xs i) tau ts k (channel cs i).phase)

pub adapted_from_zero : (n : ℕ) (ys : List Float) (old new : Coeffs) (cs : List Channel) → T (all_from_zero n cs) → T (all_from_zero n (adapted n ys old new cs))
unfolding adapted
adapted_from_zero n ys old new cs = bank n cs _ (λ i. phase_adapted (sample ys i) old new (channel cs i).phase)

pub fresh_from_zero : (n : ℕ) → T (all_from_zero n (replicate n fresh))
unfolding all_from_zero
fresh_from_zero n = every_from n n (λ i. true) _ (λ i l t. subst FromZero (sym (get_or-replicate n i fresh _ l)) (unfold le of_bits in tt)) (omega arith) (all n)
  where
    all : (n : ℕ) → T (every n (λ i. true))
    all zero = tt
    all (suc n) = (both (every n (λ i. true)) true).1 (all n, tt)
