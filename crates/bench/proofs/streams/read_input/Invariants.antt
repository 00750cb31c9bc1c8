-- What was read stands within the buffer.
use Rattle.std.proofs.Common.{◌≤◌, length}
use Rattle.bench.proofs.streams.read_input.Given as goal

abbrev pub invariant-loop : goal.invariant-loop
invariant-loop g l = l.done ≤ length l.buffer
