-- Both results are the definition's; and a number tells its answer, so that the calls of a filter lose nothing where they are told.
use Rattle.floats.specs.Prelude.{◌≡◌, sym, ap, ◌∙◌, ℕ}
use Rattle.limits.specs.Answers.{number, Told, told, told_of}
use Rattle.limits.proofs.Answers.{number_tells}
use Rattle.limits.specs.declared.answer.Answer.{Answer}
use Rattle.limits.specs.declared.updated.Updated.{Updated}
use Rattle.tilt.specs.Gyr.{ToldGyr, after_gyr}
use Rattle.tilt.specs.declared.gyr.AfterGyr.{AfterGyr}
use Rattle.vqf.specs.Told.{ToldAll, all_told}
use Rattle.vqf.specs.declared.types.UpdatedAll.{UpdatedAll}

pub equal : {A : Type 0} {d r s : A} → r ≡ d → s ≡ d → r ≡ s
equal p q = p ∙ sym q

pub gyr_call : {d : ToldGyr} {r s : AfterGyr} → after_gyr r ≡ d → after_gyr s ≡ d → r ≡ s
gyr_call {d} {r} {s} p q =
    let e : after_gyr r ≡ after_gyr s = p ∙ sym q in
    λ i. record { answer = number_tells r.answer s.answer (λ j. (e j).number) i; rest = (e i).rest; quat = (e i).quat }

pub call : {A : Type 0} {d : Told A} {r s : Updated A} → told_of r ≡ d → told_of s ≡ d → r ≡ s
call {A} {d} {r} {s} p q =
    let e : told_of r ≡ told_of s = p ∙ sym q in
    λ i. record { answer = number_tells r.answer s.answer (λ j. (e j).number) i; filter = (e i).left }

pub update : {d : ToldAll} {r s : UpdatedAll} → all_told r ≡ d → all_told s ≡ d → r ≡ s
update {d} {r} {s} p q =
    let e : all_told r ≡ all_told s = p ∙ sym q in
    λ i. record {
      gyr = number_tells r.gyr s.gyr (λ j. (e j).gyr) i;
      acc = number_tells r.acc s.acc (λ j. (e j).acc) i;
      mag = number_tells r.mag s.mag (λ j. (e j).mag) i;
      filter = (e i).left;
    }

-- a result beside what is left behind a reference
pub lent : {A B : Type 0} {d r s : A} {d' x y : B} → (r ≡ d) × (x ≡ d') → (s ≡ d) × (y ≡ d') → (r ≡ s) × (x ≡ y)
lent p q = (equal p.0 q.0, equal p.1 q.1)

pub by_number : {A : Type 0} {d : Told A} {r s : ℕ} {x y : A} → told r x ≡ d → told s y ≡ d → (r ≡ s) × (x ≡ y)
by_number {A} {d} {r} {s} {x} {y} p q =
    let e : told r x ≡ told s y = p ∙ sym q in
    (ap (λ (t : Told A). t.number) e, ap (λ (t : Told A). t.left) e)

pub in_place : {A : Type 0} {d : Told A} {r s : Answer} {x y : A} → told (number r) x ≡ d → told (number s) y ≡ d → (r ≡ s) × (x ≡ y)
in_place {A} {d} {r} {s} p q = let same = by_number p q in (number_tells r s same.0, same.1)
