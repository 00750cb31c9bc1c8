-- After so many turns the sum is that of as many numbers.
use Rattle.std.proofs.Common.{◌≡◌, ℕ, length, ℤ}
use Rattle.blocks.specs.Counts.{total}
use Rattle.many_stages.specs.Strips.{Patterned}
use Rattle.many_stages.proofs.left.sum.Given as goal

abbrev pub invariant-loop-p : goal.invariant-loop-p
invariant-loop-p l = (n : ℕ) (f : ℕ → ℤ) → length l.left ≡ n → Patterned n f l.left → l.sum ≡ total f l.p-index
