-- What was read ends within the buffer.
use Rattle.std.proofs.Common.{◌≤◌}
use Rattle.times.proofs.input.read_full.Given as goal

abbrev pub invariant-loop : goal.invariant-loop
invariant-loop l = l.at ≤ 4096
