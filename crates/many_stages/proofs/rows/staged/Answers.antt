-- A turn adds the sum of one row over the strip to what its place counts for.
use Rattle.std.proofs.Common.{arith, rules, w64, SFits}
use Rattle.patterns.specs.Blocks.{place}
use Rattle.strips.proofs.EachRow.{begun, ended, next-wrapped}
use Rattle.many_stages.proofs.rows.staged.Goals as goal

pub loop-score-init : goal.loop-score-init
loop-score-init c room = begun _ _ _ _ _ _

pub loop-score-preserved : goal.loop-score-preserved
loop-score-preserved c room =
    let score : SFits w64 (place c.loop-score.scores c.loop-score.score-index) = search rules in
    next-wrapped _ _ _ _ _ _ (c.loop-score.invariant room) (omega (arith, c.loop-score-test.true, c.loop-score.auto.scores)) c.ahead-start.ensures
    (omega (arith, c.requires.0.few)) room score c.so_far-before.type_inv c.so_far-before.ensures c.sum.type_inv c.sum.ensures c.ahead-at.ensures

pub returns : goal.returns
returns c room = ended _ _ _ _ _ _ (c.loop-score.invariant room) (omega (arith, c.loop-score-test.false, c.loop-score.auto.scores))
