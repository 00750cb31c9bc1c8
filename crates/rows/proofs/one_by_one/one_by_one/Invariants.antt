-- The loop's invariant: the row has been reached as far as pair `at`, whatever the places held before the row.
use Rattle.std.proofs.Common.{List, ℤ}
use Rattle.rows.specs.Totals.{Going, Ongoing}
use Rattle.rows.proofs.one_by_one.one_by_one.Given as goal

abbrev pub invariant-loop-at : goal.invariant-loop-at
invariant-loop-at g l =
    (places : List ℤ) → Ongoing (g.D.Multiplier.design l.d) l.weights l.frame places l.initial.residues l.initial.from l.initial.sums
    → Going (g.D.Multiplier.design l.d) l.weights l.frame places l.residues l.at l.sums
