-- What the stages leave of weights and frame, multiplied, are the residues, whose pairs are then added up.
use Rattle.std.proofs.Common.{◌++◌}
use Rattle.blocks.specs.Residues.{ResiduesByStages}
use Rattle.blocks.specs.Sums.{Held, taken}
use Rattle.blocks.proofs.LeftOfBlock.{both-small, filled, products, then-added}
use Rattle.blocks.proofs.StagedByBlocksTWO_BLOCKS.fill.Goals as goal
use Rattle.blocks.proofs.StagedByBlocksTWO_BLOCKS.fill.Goals.{After-multiply}

pub multiply-requires : goal.multiply-requires
multiply-requires c =
    let parts = c.split_at_mut-of_weights.ensures in
    both-small _ _ parts.front_len (rw parts.value at c.pairs_left-n.ensures.1.small)

multiplied : (c : After-multiply) → let ws = c.args.weights.now in let fs = c.args.frame.now in
    let block = c.multiply.new.numbers ++ c.split_at_mut-of_weights.result.1.now in
    ResiduesByStages c.args.self.stages ws fs (taken ws fs) c.args.block.now block × Held ws fs block
multiplied c =
    let parts = c.split_at_mut-of_weights.ensures in
    filled _ _ _ _ (rw parts.value at c.pairs_left-n.ensures.1) (products _ _ parts.front_len c.multiply.ensures) c.told-block c.pairs_left-n.ensures.0

pub added-requires : goal.added-requires
added-requires c = (multiplied (goal.at.added-requires c).After-multiply).1

pub returns : goal.returns
returns c = then-added (multiplied (goal.at.returns c).After-multiply).0 c.added.ensures
