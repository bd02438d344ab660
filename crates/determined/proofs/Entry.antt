-- Each clause is written as its promise is; and a number tells its answer.
use mathlib.Core.Path.{refl}
use Rattle.determined.specs.Entry.{Entry}
use Rattle.determined.proofs.OneResult.{in_place}

pub entry : Entry
entry = record {
  gyr_says = λ M 𝓤 𝓛 mem run κs a g z e. refl;
  feed_gyr = λ κs a z z' e e'. in_place;
  gyr_with_ts_says = λ M 𝓤 𝓛 mem run κs a g z e. refl;
  feed_gyr_with_ts = λ κs a z z' e e'. in_place;
  acc_says = λ M 𝓤 𝓛 mem run κs a g z e. refl;
  feed_acc = λ κs a z z' e e'. in_place;
  mag_says = λ M 𝓤 𝓛 mem run κs a g z e. refl;
  feed_mag = λ κs a z z' e e'. in_place;
}
