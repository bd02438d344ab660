-- What the calls leave of the inertial half, and what they answer there, is what the inertial half itself leaves and answers: a call on it is given
-- the inertial half alone, and a magnetic call gives it back.
use Rattle.floats.specs.Prelude.{◌≡◌, refl, sym, ap, ap₂, ◌∙◌, Bool, true, false, cond, Bool_beq, List, [], ◌∷◌, ◌++◌, append_assoc, arith, T, take, Float, Format, Option, None, Some}
use Rattle.floats.specs.Tests.{keeps}
use Rattle.algebra.specs.declared.vector.Vector.{Vector}
use Rattle.limits.specs.Answers.{Told}
use Rattle.inertial.specs.Calls as inertial
use Rattle.inertial.specs.Setters as on_inertial
use Rattle.inertial.specs.Setup as setup
use Rattle.inertial.proofs.Runs.{run_append, answers_append}
use Rattle.inertial.specs.declared.types.Inertial.{Inertial}
use Rattle.inertial.specs.declared.types.InertialParams.{InertialParams}
use Rattle.vqf.specs.Build.{interval_or, settings_or_house, built, new}
use Rattle.vqf.specs.Construction.{all_taken}
use Rattle.vqf.specs.Update as updates
use Rattle.vqf.specs.Setters as setters
use Rattle.vqf.specs.Calls.{Call, on_inertial, on_magnetic, update, set_mag_dist_rejection_enabled, reset_state, inertial_part, inertial_calls, reply, run}
use Rattle.vqf.specs.Struck.{magnetic, without_sample, struck, plain_answers}
use Rattle.vqf.specs.Apart.{Built}
use Rattle.vqf.specs.Types.{VQF, Params}

-- what is struck out does not reach the inertial half
one_struck : (c : Call) (cs : List Call) → inertial_calls (cond (magnetic c) cs (without_sample c ∷ cs)) ≡ inertial_part c ++ inertial_calls cs
one_struck (on_inertial c) cs = refl
one_struck (on_magnetic c) cs = refl
one_struck (update g a m) cs = refl
one_struck (set_mag_dist_rejection_enabled on) cs = refl
one_struck reset_state cs = refl

pub struck_reaches : (cs : List Call) → inertial_calls (struck cs) ≡ inertial_calls cs
struck_reaches [] = refl
struck_reaches (c ∷ cs) = one_struck c (struck cs) ∙ ap (λ (l : List inertial.Call). inertial_part c ++ l) (struck_reaches cs)

module _ (w : Format) where
  pub record Same (f : VQF) (cs : List Call) (ds : List inertial.Call) : Type 0 where
    pub half : (run w f cs).inertial ≡ inertial.run w f.inertial ds
    pub numbers : plain_answers w f cs ≡ inertial.answers w f.inertial ds

  sample_left : (f : VQF) (s : Option Vector) → (updates.update_sample w f s).left.inertial ≡ f.inertial
  unfolding updates.update_sample updates.update_mag
  sample_left f None = refl
  sample_left f (Some v) = refl

  -- the disturbance switch, set or left as it is, is what the inertial half is told
  switched : (f : VQF) (on : Bool)
      → let t = setters.set_mag_dist_rejection_enabled w f on in
      (t.left.inertial ≡ on_inertial.set_mag_dist_rejection_enabled f.inertial on) × (t.number ≡ 0)
  unfolding setters.set_mag_dist_rejection_enabled on_inertial.set_mag_dist_rejection_enabled
  switched f on =
      keeps (λ (t : Told VQF). (t.left.inertial ≡ on_inertial.set_mag_dist_rejection_enabled f.inertial on) × (t.number ≡ 0)) (Bool_beq now on) _ _
      (λ t. (ap (on_inertial.set_mag_dist_rejection_enabled f.inertial) (as_set now on t), refl))
      (refl, refl)
    where
      now : Bool
      now = f.inertial.params.rest.mag_dist_rejection_enabled

      as_set : (now on : Bool) → T (Bool_beq now on) → now ≡ on
      as_set true true h = refl
      as_set true false h = absurd h
      as_set false true h = absurd h
      as_set false false h = refl

  reset : (f : VQF) → Same f (reset_state ∷ []) (inertial_part reset_state)
  unfolding setters.reset_state
  reset f = record { half = refl; numbers = refl }

  one : (f : VQF) (c : Call) → Same f (c ∷ []) (inertial_part c)
  unfolding updates.update_gyr updates.update_acc updates.update
  one f (on_inertial c) = record { half = refl; numbers = refl }
  one f (on_magnetic c) = record { half = refl; numbers = refl }
  one f (update gyr acc s) = record { half = sample_left _ s; numbers = refl }
  one f (set_mag_dist_rejection_enabled on) = let s = switched f on in record { half = s.0; numbers = λ k. s.1 k ∷ [] }
  one f reset_state = reset f

  pub inertial_run : (f : VQF) (cs : List Call) → Same f cs (inertial_calls cs)
  inertial_run f [] = record { half = refl; numbers = refl }
  inertial_run f (c ∷ cs) =
      let s = one f c in
      let r = inertial_run (reply w f c).left cs in
      record {
        half = r.half ∙ ap (λ (i : Inertial). inertial.run w i (inertial_calls cs)) s.half ∙ sym (run_append w f.inertial (inertial_part c) (inertial_calls cs));
        numbers =
            sym (append_assoc (cond (magnetic c) [] (take 2 (reply w f c).numbers)) [] _)
            ∙ ap₂ ◌++◌ s.numbers (r.numbers ∙ ap (λ (i : Inertial). inertial.answers w i (inertial_calls cs)) s.half)
            ∙ sym (answers_append w f.inertial (inertial_part c) (inertial_calls cs));
      }

  -- what an accepted construction gives of the inertial half
  pub built_half : (gyr_ts : Float) (acc_given mag_given : Option Float) (given : Option Params) → (new w gyr_ts acc_given mag_given given).number ≡ 0
      → (new w gyr_ts acc_given mag_given given).left.inertial ≡ setup.new w (settings_or_house w given).inertial gyr_ts (interval_or acc_given gyr_ts)
  unfolding new built
  built_half gyr_ts acc_given mag_given given =
      keeps (λ (t : Told VQF). t.number ≡ 0 → t.left.inertial ≡ setup.new w (settings_or_house w given).inertial gyr_ts (interval_or acc_given gyr_ts))
      (all_taken w gyr_ts acc_given mag_given given) _ _ (λ _ _. refl) (λ e. absurd (omega arith))

  pub same_half : (gyr_ts acc_ts : Float) (p : InertialParams) (f : VQF) → Built w gyr_ts acc_ts p f → f.inertial ≡ setup.new w p gyr_ts acc_ts
  same_half gyr_ts acc_ts p f b =
      sym (λ i. (b.accepted i).left.inertial)
      ∙ built_half gyr_ts b.acc_given b.mag_given b.settings (λ i. (b.accepted i).number)
      ∙ (λ i. setup.new w (b.same_settings i) gyr_ts (b.same_acc_ts i))
