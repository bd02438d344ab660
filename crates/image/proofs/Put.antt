-- Runs that are written one after the other are one run, by recursion over the list; so the six parts of an image are the whole (`put_pack`).
use borrow.Rule.Slice.PartMut.{put_mid}
use Rattle.std.proofs.lemmas.List.{take_all}
use Rattle.std.proofs.lemmas.Slice.{put_mid-paste}
use Rattle.std.proofs.Common.{append_assoc, le_refl, length-append, take-append-drop}
use Rattle.floats.specs.Prelude.{◌≡◌, refl, sym, ap, ◌∙◌, List, [], ◌∷◌, ◌++◌, append-nil, ℕ, zero, suc, ◌+◌, ◌*◌, ◌≤◌, zero-add, add-zero, suc-add, add-suc, suc_inj, arith, length, take, drop, Float}
use Rattle.filters.specs.declared.channel.Channel.{Channel}
use Rattle.vqf.specs.declared.types.VQF.{VQF}
use Rattle.image.specs.Put.{put}
use Rattle.image.specs.Image.{SIZE}
use Rattle.image.specs.Pack.{all_params, all_coeffs, all_inclination, all_bias, all_rest, all_magnetic_state, inertial_params, magnetic_params, inertial_coeffs, magnetic_coeffs, inclination, bias, rest, magnetic_state, one_channel, channels, pack}

pub length_put : (xs l : List Float) (n : ℕ) → length (put xs l n) ≡ length l
unfolding put
length_put [] l n = refl
length_put (x ∷ xs) [] n = refl
length_put (x ∷ xs) (y ∷ l) zero = ap suc (length_put xs l zero)
length_put (x ∷ xs) (y ∷ l) (suc n) = ap suc (length_put (x ∷ xs) l n)

-- one run after another
pub put_put : (xs ys l : List Float) (n : ℕ) → put ys (put xs l n) (n + length xs) ≡ put (xs ++ ys) l n
unfolding put
put_put [] ys l n = ap (put ys l) (add-zero n)
put_put (x ∷ xs) [] l n = ap (λ (t : List Float). put t l n) (sym (append-nil (x ∷ xs)))
put_put (x ∷ xs) (y ∷ ys) [] n = refl
put_put (x ∷ xs) (y ∷ ys) (z ∷ l) zero =
    ap (put (y ∷ ys) (x ∷ put xs l zero)) (zero-add (suc (length xs)))
    ∙ ap (λ (t : List Float). x ∷ t) (ap (put (y ∷ ys) (put xs l zero)) (sym (zero-add (length xs))) ∙ put_put xs (y ∷ ys) l zero)
put_put (x ∷ xs) (y ∷ ys) (z ∷ l) (suc n) =
    ap (put (y ∷ ys) (z ∷ put (x ∷ xs) l n)) (suc-add n (suc (length xs))) ∙ ap (λ (t : List Float). z ∷ t) (put_put (x ∷ xs) (y ∷ ys) l n)

pub put_three : (xs ys zs l : List Float) (n : ℕ) → put zs (put ys (put xs l n) (n + length xs)) (n + length (xs ++ ys)) ≡ put ((xs ++ ys) ++ zs) l n
put_three xs ys zs l n = ap (λ (t : List Float). put zs t (n + length (xs ++ ys))) (put_put xs ys l n) ∙ put_put (xs ++ ys) zs l n

-- the next run, where the runs so far start the list
pub put_next : (w x l : List Float) (n : ℕ) (t : List Float) → n ≡ length w → t ≡ put w l 0 → put x t n ≡ put (w ++ x) l 0
put_next w x l n t e h = ap (λ (t : List Float). put x t n) h ∙ ap (put x (put w l 0)) (e ∙ sym (zero-add (length w))) ∙ put_put w x l 0

-- a run as long as the list is all that is left
pub put_all : (xs l : List Float) → length l ≡ length xs → put xs l 0 ≡ xs
unfolding put
put_all [] [] h = refl
put_all [] (y ∷ l) h = absurd (no h)
  where
    no : {n : ℕ} → suc n ≡ zero → ⊥
    no h = omega arith
put_all (x ∷ xs) [] h = absurd (no h)
  where
    no : {n : ℕ} → zero ≡ suc n → ⊥
    no h = omega arith
put_all (x ∷ xs) (y ∷ l) h = ap (λ (t : List Float). x ∷ t) (put_all xs l (suc_inj h))

-- a run that fits: what stands before it, the run, and what stands after it
put_at : (xs l : List Float) (n : ℕ) → n + length xs ≤ length l → put xs l n ≡ take n l ++ (xs ++ drop (n + length xs) l)
unfolding put
put_at [] l n h = simp (add-zero, take-append-drop) refl
put_at (x ∷ xs) [] n h = absurd (omega arith)
put_at (x ∷ xs) (y ∷ l) zero h =
    ap (λ (t : List Float). x ∷ t) (put_at xs l zero (omega arith)) ∙ ap (λ (k : ℕ). (x ∷ xs) ++ drop k (y ∷ l)) (sym (add-suc 0 (length xs)))
put_at (x ∷ xs) (y ∷ l) (suc n) h =
    ap (λ (t : List Float). y ∷ t) (put_at (x ∷ xs) l n (omega arith))
    ∙ ap (λ (k : ℕ). (y ∷ take n l) ++ ((x ∷ xs) ++ drop k (y ∷ l))) (sym (suc-add n (suc (length xs))))

-- a run as the library copies it over a part of a list
pub copied : (a k : ℕ) (xs l ys : List Float) → ys ≡ xs → k ≡ length xs → a + length xs ≤ length l → put_mid a k l ys ≡ put xs l a
copied a k xs l ys e n h =
    let m = length xs in
    put_mid-paste a k l ys xs m e (sym n) refl
    ∙ ap (λ (t : List Float). (take a l ++ t) ++ drop (a + m) l) (take_all m xs (le_refl m))
    ∙ append_assoc (take a l) xs (drop (a + m) l)
    ∙ sym (put_at xs l a h)

-- one channel more
length_channels : (n : ℕ) (c : List Channel) → length (channels n c) ≡ 3 * n
unfolding channels
length_channels zero c = refl
length_channels (suc n) c = simp length-append (rw (length_channels n c) (omega arith))

pub put_channel : (c : List Channel) (l : List Float) (n at : ℕ) → put (one_channel c n) (put (channels n c) l at) (at + 3 * n) ≡ put (channels (suc n) c) l at
unfolding channels
put_channel c l n at = rw (← length_channels n c) (put_put (channels n c) (one_channel c n) l at)

-- the six parts one after the other, over a list of the right length, are the whole
module _ (f : VQF) (l : List Float) (h : length l ≡ SIZE) {l₁ l₂ l₃ l₄ l₅ l₆ : List Float} where
  pub put_pack :
      l₁ ≡ put (all_params f.inertial.params f.magnetic.params) l 0
      → l₂ ≡ put (all_coeffs f.inertial.coeffs f.magnetic.coeffs) l₁ 25
      → l₃ ≡ put (all_inclination f.inertial.state.inclination) l₂ 56
      → l₄ ≡ put (all_bias f.inertial.state.bias) l₃ 77
      → l₅ ≡ put (all_rest f.inertial.state.rest) l₄ 122
      → l₆ ≡ put (all_magnetic_state f.magnetic.state) l₅ 150
      → l₆ ≡ pack f
  unfolding pack all_params all_coeffs all_inclination all_bias all_rest all_magnetic_state inertial_params magnetic_params inertial_coeffs magnetic_coeffs inclination bias rest magnetic_state channels
  put_pack e₁ e₂ e₃ e₄ e₅ e₆ =
      let a = all_params f.inertial.params f.magnetic.params in
      let b = all_coeffs f.inertial.coeffs f.magnetic.coeffs in
      let c = all_inclination f.inertial.state.inclination in
      let d = all_bias f.inertial.state.bias in
      let e = all_rest f.inertial.state.rest in
      let g = all_magnetic_state f.magnetic.state in
      let two = e₂ ∙ put_next a b l 25 l₁ refl e₁ in
      let three = e₃ ∙ put_next (a ++ b) c l 56 l₂ refl two in
      let four = e₄ ∙ put_next ((a ++ b) ++ c) d l 77 l₃ refl three in
      let five = e₅ ∙ put_next (((a ++ b) ++ c) ++ d) e l 122 l₄ refl four in
      let six = e₆ ∙ put_next ((((a ++ b) ++ c) ++ d) ++ e) g l 150 l₅ refl five in
      six ∙ put_all (pack f) l h
