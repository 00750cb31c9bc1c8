-- After j turns the two sums are those of the first j products with the high and the low bytes.
use Rattle.std.proofs.Common.{◌≡◌, ℕ, List, length, ℤ}
use Rattle.blocks.specs.Counts.{total}
use Rattle.many_stages.specs.Strips.{Ready}
use Rattle.many_stages.proofs.Products.{high_product, low_product}
use Rattle.many_stages.proofs.sums.whole.Given as goal

abbrev pub invariant-loop-j : goal.invariant-loop-j
invariant-loop-j l =
    (s n : ℕ) (part : List ℤ) (f : ℕ → ℤ) → length l.left ≡ n → Ready s n part f l.left l.held
    → (l.high ≡ total (high_product part f) l.j) × (l.low ≡ total (low_product part f) l.j)
