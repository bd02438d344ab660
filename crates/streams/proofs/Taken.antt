-- How the bytes of a buffer stand before those of its reader.
use Rattle.std.proofs.Common.{◌≡◌, ℕ, ◌+◌, ◌-◌, ◌<◌, ◌≤◌, suc, List, [], ◌∷◌, ◌++◌, length, take, drop, get_or, Option, Some, None, arith, refl, sym, ◌∙◌, ap}
use Rattle.std.specs.List.{slice_range}
use Rattle.std.specs.Io.KnownBytes.{prepend_known, Consumes}
use Rattle.std.proofs.lemmas.List.{drop_more}
use Rattle.std.proofs.lemmas.Slice.{between_from_start}

range-more : (bs : List ℕ) (i j : ℕ) → i < j → j ≤ length bs → slice_range bs i j ≡ get_or bs i 0 ∷ slice_range bs (i + 1) j
range-more bs i j i<j j≤ =
    let e : j - i ≡ suc (j - (i + 1)) = omega (arith, i<j) in
    let m : drop i bs ≡ get_or bs i 0 ∷ drop (i + 1) bs = drop_more bs i 0 (omega (arith, i<j, j≤)) in
    rw (m, e) refl

-- a buffer of which all is taken
pub spent : (known : Option (List ℕ)) (bs : List ℕ) (i j : ℕ) → i ≡ j → prepend_known (slice_range bs i j) known ≡ known
spent known bs i j same = let e : j - i ≡ 0 = omega (arith, same) in rw e (elim known as (λ k. prepend_known [] k ≡ k) [ None ↦ refl | Some xs ↦ refl ])

-- what is taken of a buffer that has bytes
pub taken : (known : Option (List ℕ)) (bs : List ℕ) (i j : ℕ) → i < j → j ≤ length bs → Consumes (prepend_known (slice_range bs i j) known) (prepend_known (slice_range bs (i + 1) j) known) (get_or bs i 0 ∷ [])
taken None bs i j i<j j≤ = tt
taken (Some xs) bs i j i<j j≤ = ap (λ ys. ys ++ xs) (range-more bs i j i<j j≤)

-- what is taken first after a read
pub filled : (old new : Option (List ℕ)) (bs : List ℕ) (n : ℕ) → 0 < n → n ≤ length bs → Consumes old new (take n bs) → Consumes old (prepend_known (slice_range bs 1 n) new) (get_or bs 0 0 ∷ [])
filled None new bs n pos fits h = tt
filled (Some xs) (Some ys) bs n pos fits h = h ∙ ap (λ zs. zs ++ ys) (sym (between_from_start bs n) ∙ range-more bs 0 n pos fits)
filled (Some xs) None bs n pos fits h = absurd h
