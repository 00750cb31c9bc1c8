-- The rest is below the leading power, so it can be taken off the power less 1.
use Rattle.std.proofs.Common.{◌≡◌, ℕ, ◌*◌, ◌%◌, ◌^◌, ap, ◌∙◌, arith}
use Rattle.designs.specs.Designs.{left_over, log2}
use Rattle.designs.proofs.Parts.{one_shifted, rest_lt}
use Rattle.kernels.specs.Steps.{Split}
use Rattle.kernels.proofs.truncation.left_over.Goals as goal

pub returns-then-low : goal.returns-then-low
unfolding left_over
returns-then-low c = rw c.if-low.true c.args.x.split.left

power_is : {x k r : ℕ} → Split x k r → 1 * 2 ^ k % 2 ^ 32 ≡ 2 ^ log2 x
power_is split = one_shifted _ 32 split.small ∙ ap (λ (j : ℕ). 2 ^ j) split.log

pub overflow_sub-result-2 : goal.overflow_sub-result-2
overflow_sub-result-2 c = let x = c.args.x.split in omega (arith, power_is x, x.left, rest_lt c.args.x.value)

pub returns : goal.returns
unfolding left_over
returns c = let x = c.args.x.split in rw c.if-low.false (omega (arith, power_is x, x.left, rest_lt c.args.x.value))
