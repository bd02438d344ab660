-- The answer is read back from its number. What is told is done or refused.
use Rattle.floats.specs.Prelude.{◌≡◌, refl, sym, ap, ◌∙◌, Bool, true, false, not, cond, ℕ, zero, suc, arith, T}
use Rattle.limits.specs.Answers.{number, Told, told, Kept, NumberTells}
use Rattle.limits.specs.declared.answer.Answer.{Answer}
use Rattle.limits.specs.declared.answer.Answer.TheVariants.{Done, ZeroSample, BadSample, BadInterval, BadSetting, Singular, NotFinite}

answer : ℕ → Answer
answer zero = Done
answer (suc zero) = ZeroSample
answer (suc (suc zero)) = BadSample
answer (suc (suc (suc zero))) = BadInterval
answer (suc (suc (suc (suc zero)))) = BadSetting
answer (suc (suc (suc (suc (suc zero))))) = Singular
answer (suc (suc (suc (suc (suc (suc n)))))) = NotFinite

pub number_tells : NumberTells
unfolding answer
number_tells a b h = sym (same a) ∙ ap answer h ∙ same b
  where
    same : (a : Answer) → answer (number a) ≡ a
    same Done = refl
    same ZeroSample = refl
    same BadSample = refl
    same BadInterval = refl
    same BadSetting = refl
    same Singular = refl
    same NotFinite = refl

-- ---- a call is a choice between `told 0 next` and `told n f`, where f is what it was given; its tests tell the number
pub record Says {A : Type 0} (n : ℕ) (next f : A) (t : Told A) : Type 0 where
  pub number : t.number ≡ n
  pub done : t.number ≡ 0 → t.left ≡ next
  pub kept : Kept f t

pub done : {A : Type 0} {next f : A} → Says 0 next f (told 0 next)
done = record { number = refl; done = λ _. refl; kept = λ n. absurd (n refl) }

pub refused : {A : Type 0} {n : ℕ} {next f : A} → Says (suc n) next f (told (suc n) f)
refused = record { number = refl; done = λ e. absurd (omega arith); kept = λ _. refl }

pub if : {A : Type 0} {m n : ℕ} {next f : A} {t u : Told A} (b : Bool) → Says m next f t → Says n next f u → Says (cond b m n) next f (cond b t u)
if true p q = p
if false p q = q

pub only_if : {A : Type 0} {m n : ℕ} {next f : A} {t u : Told A} (b : Bool) → Says m next f t → Says n next f u → Says (cond (not b) n m) next f (cond b t u)
only_if true p q = p
only_if false p q = q

-- a setter that stores what it is given where it lies within limits
pub setting : {A : Type 0} (b : Bool) (next f : A) → Says (cond (not b) 4 0) next f (cond b (told 0 next) (told 4 f))
setting b next f = only_if b done refused

-- what is asked after a test may use that the test holds
pub then : (b : Bool) (n : ℕ) {x y : ℕ} → (T b → x ≡ y) → cond (not b) n x ≡ cond (not b) n y
then true n h = h tt
then false n h = refl
