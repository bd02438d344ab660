-- An update of the library, from the call by value on what is read of the image and of the samples.
use Rattle.floats.specs.Prelude.{◌≡◌, true, false, sym, ap, ◌∙◌, cond, ◌&&◌, List, ℕ, eqb, length, Float}
use Rattle.limits.specs.Answers.{number, Told, told}
use Rattle.limits.specs.declared.updated.Updated.{Updated}
use Rattle.vqf.specs.Told.{told_of, all_told}
use Rattle.vqf.specs.declared.types.VQF.{VQF}
use Rattle.vqf.specs.declared.types.UpdatedAll.{UpdatedAll}
use Rattle.image.specs.Pack.{pack}
use Rattle.image.specs.Image.{fits, unpack}
use Rattle.sambighjone.specs.Calls.{wrong_length, kept, sampled, stepped, three_numbers, summed_up, all_kept, updated, given}

module _ (samples s : List Float) (answers : List ℕ) where
  pub updated_refused : (fits s && eqb (length answers) 3 && sampled samples) ≡ false → told wrong_length (s, answers) ≡ updated samples s answers
  unfolding updated
  updated_refused no_fit = sym (λ j. cond (no_fit j) (all_kept (stepped (unpack s) samples)) (told wrong_length (s, answers)))

  pub updated_done : (all : UpdatedAll) (u : Updated VQF) (answered : Told (List ℕ)) (t : Told (List Float))
      → fits s ≡ true → eqb (length answers) 3 ≡ true → sampled samples ≡ true → all_told all ≡ stepped (unpack s) samples
      → told_of u ≡ summed_up (all_told all) → answered ≡ given (three_numbers (all_told all)) answers
      → t ≡ kept s (told_of u) → told t.number (t.left, answered.left) ≡ updated samples s answers
  unfolding updated given kept
  updated_done all u answered t fit room enough steps sums puts keeps =
      (λ j. told (keeps j).number ((keeps j).left, (puts j).left))
      ∙ (λ j. let k = cond (fit j) (told (number u.answer) (pack u.filter)) (told wrong_length s) in told k.number (k.left, (cond (room j) (told 0 (three_numbers (all_told all))) (told wrong_length answers)).left))
      ∙ (λ j. told (sums j).number (pack (sums j).left, three_numbers (all_told all)))
      ∙ ap all_kept steps
      ∙ sym (λ j. cond (fit j && room j && enough j) (all_kept (stepped (unpack s) samples)) (told wrong_length (s, answers)))
