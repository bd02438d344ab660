-- `numbers::root_pattern` meets its contract.
use Rattle.floats.specs.Prelude.{◌≡◌, ◌-◌, ◌*◌, ◌^◌, ◌<◌}
use Rattle.numbers.proofs.roots.root_pattern.Given as goal

abbrev pub invariant-loop-m : goal.invariant-loop-m
invariant-loop-m l = (l.m * 2 ^ l.e ≡ l.m0 * 2 ^ l.e0) × (0 < l.m) × (l.m < 2 ^ 53) × (l.e < 3120)

abbrev pub decreases-loop-m : goal.decreases-loop-m
decreases-loop-m l = 2 ^ 53 - l.m
