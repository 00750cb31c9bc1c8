-- The loop's invariant: what is written up to `at`, for any residues that the caller names.
use Rattle.std.proofs.Common.{ℕ, ◌≤◌, List, ℤ}
use Rattle.rows.specs.Totals.{Writable, Written}
use Rattle.rows.proofs.sums.write.Given as goal

abbrev pub invariant-loop-at : goal.invariant-loop-at
invariant-loop-at l =
    (l.at ≤ l.end)
    × ((z : ℕ → ℤ) (before : List ℤ) → Writable z before l.initial.residues l.initial.all l.block l.from l.end
    → Written z before l.residues l.at l.all)
