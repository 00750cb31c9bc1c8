-- After j turns the sum is that of the first j products of what the stages leave.
use Rattle.std.proofs.Common.{◌≡◌, ℕ, List, length, ℤ}
use Rattle.blocks.specs.Counts.{total}
use Rattle.many_stages.specs.Strips.{ReadyRests}
use Rattle.many_stages.proofs.Products.{rest_product}
use Rattle.many_stages.proofs.sums.rests.Given as goal

abbrev pub invariant-loop-j : goal.invariant-loop-j
invariant-loop-j l =
    (s n : ℕ) (part : List ℤ) (f : ℕ → ℤ) → length l.left ≡ n → ReadyRests s n part f l.left l.held → l.sum ≡ total (rest_product s part f) l.j
