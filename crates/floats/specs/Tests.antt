-- Tests made of tests. `simp both at h` takes a conjunction apart, and `simp both` asks for its parts.
use Rattle.std.specs.Prelude.{◌≡◌, refl, ◌↔◌, ◌⊎◌, Bool, true, false, cond, ◌&&◌, ◌||◌, T}
use Rattle.std.proofs.Common.{sym, inl, inr}

pub both : (a b : Bool) → T (a && b) ↔ (T a × T b)
both true true = (λ (t : _). (tt, tt), λ (t : _). tt)
both true false = (λ (t : _). absurd t, λ t. t.1)
both false b = (λ (t : _). absurd t, λ t. t.0)

pub either : (a b : Bool) → T (a || b) → T a ⊎ T b
either true b h = inl tt
either false b h = inr h

pub is_true : (b : Bool) → T b → b ≡ true
is_true true h = refl
is_true false h = absurd h

pub is_false : (b : Bool) → (T b → ⊥) → b ≡ false
is_false true h = absurd (h tt)
is_false false h = refl

-- two tests that hold of the same are the same
pub alike : (a b : Bool) → (T a → T b) → (T b → T a) → a ≡ b
alike true b h k = sym (is_true b (h tt))
alike false b h k = sym (is_false b k)

-- what holds of both arms of a `cond` holds of it; the first arm may use that the test holds
pub keeps : {A : Type 0} (P : A → Type 0) (b : Bool) (x y : A) → (T b → P x) → P y → P (cond b x y)
keeps P true x y h k = h tt
keeps P false x y h k = k
