-- Loops over n channels, one a turn, whatever their number: what holds after i turns, that a turn keeps it, and what it says after the last turn.
--     Filling    a list l that starts as q and is given P i at each i
--     Filtering    two such lists, which take their elements from one answer a turn
--     Checking    a flag that is true as long as f i is at each i
use Rattle.floats.specs.Prelude.{◌≡◌, refl, sym, ap, subst, ◌∙◌, Bool, true, ◌&&◌, List, [], ◌∷◌, ◌++◌, map, ℕ, zero, suc, ◌+◌, ◌<◌, ◌≤◌, zero-le, not-suc-le-zero, le_of_suc-le-suc, add-zero, zero-add, add-suc, suc-add, le_antisymm, add-one, arith, length, set, drop, Float}
use Rattle.filters.specs.Banks.{from, each, every}
use Rattle.filters.specs.Types.{Channel}
use Rattle.filters.specs.declared.channel.Filtered.{Filtered}

module _ {A : Type 0} (P : ℕ → A) where
  fill_suc : (k i : ℕ) (q : List A) → i < length q → set (map P (from k i) ++ drop i q) i (P (k + i)) ≡ map P (from k (suc i)) ++ drop (suc i) q
  fill_suc k i [] h = absurd (not-suc-le-zero h)
  fill_suc k zero (x ∷ q) h = rw add-zero
  fill_suc k (suc i) (x ∷ q) h =
      ap (λ (l : List A). P k ∷ l)
      (ap (λ (n : ℕ). set (map P (from (suc k) i) ++ drop i q) i (P n)) (add-suc k i ∙ sym (suc-add k i)) ∙ fill_suc (suc k) i q (le_of_suc-le-suc h))

  fill_more : (i : ℕ) (q : List A) (v : A) → i < length q → v ≡ P i → set (each i P ++ drop i q) i v ≡ each (i + 1) P ++ drop (i + 1) q
  fill_more i q v h e =
      ap (λ (a : A). set (each i P ++ drop i q) i a) (e ∙ ap P (sym (zero-add i)))
      ∙ fill_suc 0 i q h
      ∙ ap (λ (n : ℕ). each n P ++ drop n q) (sym (add-one i))

  fill_end : (k : ℕ) (q : List A) → map P (from k (length q)) ++ drop (length q) q ≡ map P (from k (length q))
  fill_end k [] = refl
  fill_end k (x ∷ q) = ap (λ (l : List A). P k ∷ l) (fill_end (suc k) q)

pub record Filling {A : Type 0} (P : ℕ → A) (n : ℕ) (q l : List A) (i : ℕ) : Type 0 where
  within : i ≤ n
  filled : l ≡ each i P ++ drop i q

module _ {A : Type 0} {P : ℕ → A} {n : ℕ} {q : List A} where
  pub filling_none : Filling P n q q 0
  filling_none = record { within = zero-le; filled = refl }

  pub filling_more : {l : List A} {i : ℕ} {v : A} → Filling P n q l i → i < n → length q ≡ n → v ≡ P i → Filling P n q (set l i v) (i + 1)
  filling_more {l = l} {i = i} {v = v} f h e p = let done = f.filled in record { within = omega arith; filled = ap (λ (m : List A). set m i v) done ∙ fill_more P i q v (omega arith) p }

  pub filling_done : {l : List A} {i : ℕ} → Filling P n q l i → n ≤ i → length q ≡ n → l ≡ each n P
  filling_done f h e =
      f.filled
      ∙ ap (λ (m : ℕ). each m P ++ drop m q) (le_antisymm f.within h)
      ∙ subst (λ (m : ℕ). each m P ++ drop m q ≡ each m P) e (fill_end P 0 q)

pub record Filtering (P : ℕ → Filtered) (n : ℕ) (x : List Float) (c : List Channel) (y : List Float) (d : List Channel) (i : ℕ) : Type 0 where
  answers : Filling (λ j. (P j).y) n x y i
  channels : Filling (λ j. (P j).channel) n c d i

module _ {P : ℕ → Filtered} {n : ℕ} {x : List Float} {c : List Channel} where
  pub filtering_none : Filtering P n x c x c 0
  filtering_none = record { answers = filling_none; channels = filling_none }

  pub filtering_more : {y : List Float} {d : List Channel} {i : ℕ} {f : Filtered} → Filtering P n x c y d i → i < n → length x ≡ n → length c ≡ n → f ≡ P i → Filtering P n x c (set y i f.y) (set d i f.channel) (i + 1)
  filtering_more s h e k p = record {
    answers = filling_more s.answers h e (ap (λ (f : Filtered). f.y) p);
    channels = filling_more s.channels h k (ap (λ (f : Filtered). f.channel) p);
  }

  pub filtering_done : {y : List Float} {d : List Channel} {i : ℕ} → Filtering P n x c y d i → n ≤ i → length x ≡ n → length c ≡ n → (y ≡ each n (λ j. (P j).y)) × (d ≡ each n (λ j. (P j).channel))
  filtering_done s h e k = (filling_done s.answers h e, filling_done s.channels h k)

pub record Checking (f : ℕ → Bool) (n : ℕ) (all : Bool) (i : ℕ) : Type 0 where
  within : i ≤ n
  checked : all ≡ every i f

module _ {f : ℕ → Bool} {n : ℕ} where
  pub checking_none : Checking f n true 0
  checking_none = record { within = zero-le; checked = refl }

  pub checking_more : {all : Bool} {i : ℕ} {b : Bool} → Checking f n all i → i < n → b ≡ f i → Checking f n (all && b) (i + 1)
  checking_more s h e = let done = s.checked in record { within = omega arith; checked = rw (done, e, add-one) }

  pub checking_done : {all : Bool} {i : ℕ} → Checking f n all i → n ≤ i → all ≡ every n f
  checking_done s h = s.checked ∙ ap (λ (m : ℕ). every m f) (le_antisymm s.within h)
