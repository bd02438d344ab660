-- A run of calls after a run.
use Rattle.floats.specs.Prelude.{◌≡◌, refl, ap, List, [], ◌∷◌, ◌++◌, ℕ, Format}
use Rattle.inertial.specs.Calls.{Call, reply, run, answers}
use Rattle.inertial.specs.declared.types.Inertial.{Inertial}

module _ (w : Format) where
  pub run_append : (f : Inertial) (cs ds : List Call) → run w f (cs ++ ds) ≡ run w (run w f cs) ds
  run_append f [] ds = refl
  run_append f (c ∷ cs) ds = run_append (reply w f c).left cs ds

  pub answers_append : (f : Inertial) (cs ds : List Call) → answers w f (cs ++ ds) ≡ answers w f cs ++ answers w (run w f cs) ds
  answers_append f [] ds = refl
  answers_append f (c ∷ cs) ds = ap (λ (l : List ℕ). (reply w f c).number ∷ l) (answers_append (reply w f c).left cs ds)
