-- A turn makes one pattern more, and after the last all are made.
use Rattle.std.proofs.Common.{rules, w16, SFits}
use Rattle.patterns.specs.Blocks.{place}
use Rattle.strips.proofs.EachStage.{all-raised, next-raised}
use Rattle.strips.proofs.stages.raise.Goals as goal

pub loop-j-preserved : goal.loop-j-preserved
loop-j-preserved c =
    let fits : SFits w16 (place c.args.numbers.now c.loop-j.j) = search rules in
    next-raised c.loop-j.invariant c.loop-j-test.true c.requires fits.sfits c.raised.ensures

pub returns : goal.returns
returns c = all-raised c.loop-j.invariant c.loop-j-test.false c.requires
