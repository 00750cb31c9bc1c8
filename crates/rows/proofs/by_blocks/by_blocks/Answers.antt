-- Each turn takes a block, and `add` takes what was reached as far as the block goes.
use Rattle.std.proofs.Common.{rules, ◌*◌, ◌^◌, ◌<◌, arith}
use Rattle.std.proofs.lemmas.List.{length-replicate}
use Rattle.rows.proofs.ByBlocks.{begun, ended, filled, none, on}
use Rattle.rows.proofs.by_blocks.by_blocks.Goals as goal
use Rattle.rows.proofs.by_blocks.by_blocks.Goals.{After-add-sums}

pub returns-then-to-eq0 : goal.returns-then-to-eq0
returns-then-to-eq0 g c = none c.if-to-eq0.true (search rules)

pub loop-at-init : goal.loop-at-init
loop-at-init g c = begun c.requires (search rules) (length-replicate _ _)

pub fill-all-requires : goal.fill-all-requires
fill-all-requires g c = let small : g.row.N * 4 < 2 ^ 63 = omega (arith, g.met.D.ByBlocks.room.1) in small

pub shared_whole_as_slice-add : goal.shared_whole_as_slice-add
shared_whole_as_slice-add g c = omega (arith, g.met.D.ByBlocks.room.1)

pub add-sums-requires : goal.add-sums-requires
add-sums-requires g c =
    (_, (_, (_, (_, filled c.loop-at.invariant c.fewer.ensures g.met.D.ByBlocks.room.0 (g.met.D.ByBlocks.holds _ _ _ _ _ _ c.fill-all.ensures)))))

pub loop-at-preserved : goal.loop-at-preserved
loop-at-preserved g c =
    let block = g.met.D.ByBlocks.holds _ _ _ _ _ _ c.fill-all.ensures in
    on c.loop-at.invariant c.fewer.ensures block.size
    (c.add-sums.ensures _ _ _ _ (filled c.loop-at.invariant c.fewer.ensures g.met.D.ByBlocks.room.0 block))

pub returns : goal.returns
returns g c = ended c.loop-at.invariant c.loop-at-test.false
