-- The loop's invariant: the first of j places that has the size.
use Rattle.std.proofs.Common.{nat_abs}
use Rattle.rows.specs.Worst.{First}
use Rattle.rows.proofs.worst.first_of.Given as goal

abbrev pub invariant-loop-j : goal.invariant-loop-j
invariant-loop-j l = First l.block (nat_abs l.size) l.j l.first
