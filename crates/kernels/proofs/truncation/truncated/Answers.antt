-- A product with a zero operand is 0.
use Rattle.designs.specs.Designs.{truncated}
use Rattle.kernels.proofs.Zero.{zero}
use Rattle.kernels.proofs.truncation.truncated.Goals as goal

pub returns-in_default : goal.returns-in_default
returns-in_default c = zero (truncated _) _ _ c.in_default.ensures.none
