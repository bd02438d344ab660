-- "Each public function carries a promise that, for any input, determines its answer, refusals too, and the filter left. Any two results allowed by it are proved equal."
-- A promise is taken from the function itself: `Learnt` is what a caller learns from its contract. Each file beside this one has the public functions of one crate.
use Rattle.std.specs.Prelude.{◌≡◌}

-- a promise, of the lifetimes κs, the arguments a, the result z and the parameters e as the call leaves them
abbrev pub Promise : (K : Type 0) → (K → Type 0) → (K → Type 0) → (K → Type 0) → Type 1
Promise K A R E = (κs : K) → A κs → R κs → E κs → Type 0

abbrev pub OneResult : {K : Type 0} {A R E : K → Type 0} → Promise K A R E → Type 0
OneResult {K} {A} {R} {E} promise = (κs : K) (a : A κs) (z z' : R κs) (e e' : E κs) → promise κs a z e → promise κs a z' e' → z ≡ z'

-- the same of what is behind a lent reference, picked by `left` from the parameters as the call leaves them
abbrev pub OneResultAndLeft : {K : Type 0} {A R E : K → Type 0} {L : Type 0} → Promise K A R E → ((κs : K) → E κs → L) → Type 0
OneResultAndLeft {K} {A} {R} {E} promise left =
    (κs : K) (a : A κs) (z z' : R κs) (e e' : E κs) → promise κs a z e → promise κs a z' e' → (z ≡ z') × (left κs e ≡ left κs e')
