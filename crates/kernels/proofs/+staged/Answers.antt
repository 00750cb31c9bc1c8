-- `staged` adds one stage to the stages of what is left. Both together are at most the product of the operands, so the sum fits.
use Rattle.std.proofs.Common.{ℕ, ◌+◌, ◌∙◌, ap₂, arith}
use mathlib.Core.Logic.{⊎_elim}
use Rattle.designs.specs.Designs.{staged, product}
use Rattle.designs.proofs.Zeros.{zero_left, zero_right}
use Rattle.kernels.proofs.StagedSteps.{Output, output, Turn, turn, no-stages}
use Rattle.kernels.proofs.+staged.Goals as goal
use Rattle.kernels.proofs.+staged.Goals.{After-shifted-2, After-staged}

module _ (t : ℕ) where
  output_at : (c : After-shifted-2 t) → Output c.of-a.result.value c.of-b.result.value (c.shifted.result + c.shifted-2.result)
  output_at c =
      let a = c.of-a.result.split in
      let b = c.of-b.result.split in
      rw (c.shifted.ensures, c.shifted-2.ensures)
      (output _ _ _ _ _ a.some b.some (omega (arith, c.of-a.ensures)) (omega (arith, c.of-b.ensures)) a.log b.log b.left)

  turn_at : (c : After-staged t) → Output c.of-a.result.value c.of-b.result.value (c.shifted.result + c.shifted-2.result)
      → Turn c.args.stages c.of-a.result.value c.of-b.result.value (c.shifted.result + c.shifted-2.result + c.staged.result)
  turn_at c o =
      turn _ _ _ _ _ _ _ (omega arith) (omega (arith, c.of-a.ensures)) (omega (arith, c.of-b.ensures)) o.is c.of-a.result.split.left
      c.of-b.result.split.left c.staged.ensures

pub returns-then-a-eq0 : goal.returns-then-a-eq0
returns-then-a-eq0 t c =
    ⊎_elim (λ e. zero_left (staged _) _ _ e) (λ h. ⊎_elim (λ e. zero_right (staged _) _ _ e.1) (λ e. no-stages _ _ _ e.2) h)
    c.then-a-eq0.either

pub overflow_add-output : goal.overflow_add-output
overflow_add-output t c = record { fits = (output_at t c).fits }

pub overflow_add-result : goal.overflow_add-result
overflow_add-result t c = record { fits = (turn_at t c (output_at t (goal.at.overflow_add-result t c).After-shifted-2)).fits }

pub returns : goal.returns
returns t c =
    (turn_at t c (output_at t (goal.at.returns t c).After-shifted-2)).is ∙ ap₂ (product (staged c.args.stages)) c.of-a.ensures c.of-b.ensures
