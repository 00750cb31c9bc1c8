-- A turn adds the next pair, whose residue the block holds with a size below 2^31; after n turns the sums are those of n pairs.
use Rattle.std.proofs.Common.{rules, arith, w32, SFits, to_z-of_z}
use Rattle.patterns.specs.Blocks.{place}
use Rattle.blocks.proofs.Adding.{all-added, none-added, roomy, turned}
use Rattle.blocks.proofs.sums.added.Goals as goal

pub loop-j-init : goal.loop-j-init
loop-j-init c = (omega arith, none-added _ _ _ (search rules))

pub with_pair-sums-requires : goal.with_pair-sums-requires
with_pair-sums-requires c =
    let fits : SFits w32 (place c.args.block.now c.loop-j.j) = search rules in
    (roomy c.loop-j.invariant.1 (omega arith), rw (to_z-of_z fits) (c.requires.small c.loop-j.j (omega arith)))

pub loop-j-preserved : goal.loop-j-preserved
loop-j-preserved c =
    let fits : SFits w32 (place c.args.block.now c.loop-j.j) = search rules in
    (omega arith, turned c.loop-j.invariant.1 (search rules) (search rules) (to_z-of_z fits) c.with_pair-sums.ensures)

pub returns : goal.returns
returns c = all-added c.loop-j.invariant.1 c.loop-j.invariant.0 c.loop-j-test.false c.taken-n.ensures
