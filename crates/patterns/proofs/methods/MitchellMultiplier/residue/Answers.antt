-- The sum of the patterns stands for the product of design 1, which is taken off the true product.
use Rattle.std.proofs.Common.{◌≡◌, ◌*ℤ◌, sym, w32, to_z, of_z}
use Rattle.designs.specs.Designs.{mitchell}
use Rattle.designs.specs.Signs.{signed_product}
use Rattle.patterns.specs.Patterns.{Less}
use Rattle.pairs.proofs.Integers.{read-true, size16}
use Rattle.patterns.proofs.Moved.{read-pattern}
use Rattle.patterns.proofs.Pair.{residue-is}
use Rattle.patterns.proofs.Mitchell.{mitchell-less}
use Rattle.patterns.proofs.methods.MitchellMultiplier.residue.Goals as goal
use Rattle.patterns.proofs.methods.MitchellMultiplier.residue.Goals.{After-log_sum}

module _ (c : After-log_sum) where
  truth : to_z w32 (of_z w32 c.true_product.result) ≡ c.args.w *ℤ c.args.x
  truth = read-true c.true_product.type_inv c.true_product.ensures c.ranges.w c.ranges.x

  less : Less (to_z w32 (of_z w32 c.true_product.result)) c.log_sum.result (signed_product mitchell c.args.w c.args.x)
  less =
      rw truth
      (mitchell-less c.args.w c.args.x c.log_sum.result (size16 c.ranges.w) (size16 c.ranges.x) c.log_sum.type_inv
      (λ pw px. rw (sym (read-pattern c.ranges.w c.pattern.ensures pw), sym (read-pattern c.ranges.x c.pattern-2.ensures px)) c.log_sum.ensures))

pub residue_by-requires : goal.residue_by-requires
residue_by-requires c = (signed_product mitchell c.args.w c.args.x, less c)

pub returns : goal.returns
returns c =
    let b = (goal.at.returns c).After-log_sum in
    residue-is mitchell c.args.w c.args.x c.residue_by.type_inv (c.residue_by.ensures _ (less b)) (truth b)
