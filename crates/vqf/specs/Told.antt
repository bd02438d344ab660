-- What a call on the whole filter is told to give. A call on one half leaves the other as it is.
pub use Rattle.limits.specs.Answers.{told_of}
use Rattle.std.specs.Prelude.{ℕ}
use Rattle.limits.specs.Answers.{number, Told, told}
use Rattle.inertial.specs.declared.types.Inertial.{Inertial}
use Rattle.magnetic.specs.declared.types.Magnetic.{Magnetic}
use Rattle.vqf.specs.declared.types.VQF.{VQF}
use Rattle.vqf.specs.declared.types.UpdatedAll.{UpdatedAll}

-- the numbers of the three calls of an update, and the filter that the last leaves
pub record ToldAll : Type 0 where
  pub gyr : ℕ
  pub acc : ℕ
  pub mag : ℕ
  pub left : VQF

abbrev pub all_told : UpdatedAll → ToldAll
all_told u = record { gyr = number u.gyr; acc = number u.acc; mag = number u.mag; left = u.filter }

abbrev pub halves : Inertial → Magnetic → VQF
halves i m = record { inertial = i; magnetic = m }

abbrev pub inertially : VQF → Told Inertial → Told VQF
inertially f t = told t.number (halves t.left f.magnetic)

abbrev pub magnetically : VQF → Told Magnetic → Told VQF
magnetically f t = told t.number (halves f.inertial t.left)
