-- What holds of each arm of a `cond` holds of it; an arm may use how the test came out.
use Rattle.floats.specs.Prelude.{Bool, true, false, not, cond, T}

pub chosen : {A : Type 0} (P : A → Type 0) (b : Bool) (x y : A) → (T b → P x) → (T (not b) → P y) → P (cond b x y)
chosen P true x y h k = h tt
chosen P false x y h k = k tt
