-- Every public function of `entry`. Each promise is written out here, and held to the clause of the contract.
use Rattle.std.specs.Prelude.{◌≡◌}
use Rattle.std.specs.Float.{binary64}
use seplogic.Ra.Ura.{Ura}
use base.Logic.{SProp}
use prog.Memory.{Memory}
use prog.Routine.{Routine}
use types.Logic.{Logic}
use contract.Lifetimes.{Lfts}
use contract.Monad.{Fun, fact}
use denote.Triple.Entry.{Args, Res}
use denote.Triple.Clauses.{Ended, Clauses, AtExit}
use Rattle.limits.specs.Answers.{number, told}
use Rattle.vqf.specs.Update.{update_gyr, update_gyr_with_ts, update_acc, update_mag}
use Rattle.determined.specs.OneResult.{Promise, OneResultAndLeft}
use Rattle.entry.specs.contracts.feed_gyr as gyr
use Rattle.entry.specs.contracts.feed_gyr_with_ts as gyr_with_ts
use Rattle.entry.specs.contracts.feed_acc as acc
use Rattle.entry.specs.contracts.feed_mag as mag

abbrev pub PromiseOf : Ended → Type 1
PromiseOf T = Promise (Lfts T.signature.lifetimes) (Args T.signature) (Res T.signature) (AtExit T)

abbrev pub gyr_promise : PromiseOf gyr.ended
gyr_promise κs a z e = told (number z) e.0.now ≡ update_gyr binary64 a.0.now a.1.0

abbrev pub gyr_with_ts_promise : PromiseOf gyr_with_ts.ended
gyr_with_ts_promise κs a z e = told (number z) e.0.now ≡ update_gyr_with_ts binary64 a.0.now a.1.0.gyr a.1.0.ts

abbrev pub acc_promise : PromiseOf acc.ended
acc_promise κs a z e = told (number z) e.0.now ≡ update_acc binary64 a.0.now a.1.0

abbrev pub mag_promise : PromiseOf mag.ended
mag_promise κs a z e = told (number z) e.0.now ≡ update_mag binary64 a.0.now a.1.0

-- the clause of a contract is the fact that the promise holds
abbrev pub Says : (T : Ended) → ((M : Type 1) (𝓤 : Ura M) (𝓛 : Logic 𝓤) → (Memory → SProp 𝓤) → (Routine → Fun 𝓤) → Clauses 𝓤 T) → PromiseOf T → Type 2
Says T clauses promise =
    (M : Type 1) (𝓤 : Ura M) (𝓛 : Logic 𝓤) (mem : Memory → SProp 𝓤) (run : Routine → Fun 𝓤)
    (κs : Lfts T.signature.lifetimes) (a : Args T.signature κs) (g : (clauses M 𝓤 𝓛 mem run κs a).ghost) (z : Res T.signature κs) (e : AtExit T κs)
    → (clauses M 𝓤 𝓛 mem run κs a).ensures g z e ≡ fact 𝓤 (promise κs a z e)

pub record Entry : Type 2 where
  pub gyr_says : Says gyr.ended (λ M 𝓤. gyr.clauses) gyr_promise
  pub feed_gyr : OneResultAndLeft gyr_promise (λ κs e. e.0.now)
  pub gyr_with_ts_says : Says gyr_with_ts.ended (λ M 𝓤. gyr_with_ts.clauses) gyr_with_ts_promise
  pub feed_gyr_with_ts : OneResultAndLeft gyr_with_ts_promise (λ κs e. e.0.now)
  pub acc_says : Says acc.ended (λ M 𝓤. acc.clauses) acc_promise
  pub feed_acc : OneResultAndLeft acc_promise (λ κs e. e.0.now)
  pub mag_says : Says mag.ended (λ M 𝓤. mag.clauses) mag_promise
  pub feed_mag : OneResultAndLeft mag_promise (λ κs e. e.0.now)
