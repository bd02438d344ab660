-- `numbers::near_root` meets its contract. The first loop leaves q with (q - 1) * (q - 1) + (q - 1) below c * 2 ^ 52, which the second loop keeps.
use Rattle.floats.specs.Prelude.{◌+◌, ◌-◌, ◌*◌, ◌^◌, ◌≤◌, ◌<◌}
use Rattle.numbers.proofs.roots.near_root.Given as goal

abbrev pub invariant-loop-q : goal.invariant-loop-q
invariant-loop-q l = (0 < l.q) × (l.q ≤ 2 ^ 53)

abbrev pub decreases-loop-q : goal.decreases-loop-q
decreases-loop-q l = l.q

abbrev pub invariant-loop-q-2 : goal.invariant-loop-q-2
invariant-loop-q-2 l = (l.q * l.q < l.c * 2 ^ 52 + l.q) × (l.q ≤ 2 ^ 53)

abbrev pub decreases-loop-q-2 : goal.decreases-loop-q-2
decreases-loop-q-2 l = 2 ^ 53 - l.q
