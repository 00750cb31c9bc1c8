-- A block brings the rows that it has.
use Rattle.std.proofs.Common.{◌≡◌, ◌+◌, ◌*◌, ◌<◌, min, length, arith}
use Rattle.std.proofs.lemmas.Grind.{div_ceil_times}
use Rattle.layers.proofs.EachBlock.{ended, next, placed-as}
use Rattle.layers.proofs.by_blocks.by.Goals as goal

pub loop-block-preserved : goal.loop-block-preserved
loop-block-preserved g c =
    let n = length c.args.scores.now in
    let block = c.loop-block.block in
    let inside : block * 16 < n = omega (arith, c.loop-block-test.true, c.div_ceil-block-end.ensures, div_ceil_times n 16 (omega arith)) in
    let first : min (block * 16) n ≡ block * 16 = omega arith in
    let last : c.ahead-last.result ≡ min ((block + 1) * 16) n = omega (arith, c.ahead-last.ensures, c.loop-block.auto.scores) in
    placed-as _ _ _ _ last
    (next _ _ _ _ c.requires (placed-as _ _ _ _ first c.loop-block.invariant) (omega (arith, c.loop-block.auto.scores)) c.ahead-last.ensures
    c.score.ensures c.ahead-start.ensures)

pub returns : goal.returns
returns g c =
    let n = length c.args.scores.now in
    ended _ _ _ _ c.loop-block.invariant
    (omega (arith, c.loop-block-test.false, c.loop-block.auto.scores, c.div_ceil-block-end.ensures, div_ceil_times n 16 (omega arith)))
