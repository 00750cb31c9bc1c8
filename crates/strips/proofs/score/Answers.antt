-- A strip brings each place on by the products of its row with the strip, and after the last strip the frame is done.
use Rattle.std.proofs.Common.{ap, ◌∙◌, arith, take, rules}
use Rattle.strips.proofs.EachStrip.{begun, ended, next, room}
use Rattle.strips.proofs.score.Goals as goal

pub loop-part-init : goal.loop-part-init
loop-part-init g c =
    record {
      size = ap (λ i. i.size) c.into_iter-part-iterator.ensures.into_iter_gives ∙ c.chunks-part-items.ensures.size ∙ c.NUMBERS.ensures;
      strips =
          begun _ _ _ _
          (ap (λ i. i.rest.now) c.into_iter-part-iterator.ensures.into_iter_gives ∙ c.chunks-part-items.ensures.rest
          ∙ ap (λ n. take n c.args.frame.now) c.fewer.ensures);
    }

pub overflow_add-from : goal.overflow_add-from
overflow_add-from g c = search rules

pub loop-part-preserved : goal.loop-part-preserved
loop-part-preserved g c =
    record {
      size = c.in-Some.ensures.steps.0 ∙ c.loop-part.invariant.size;
      strips =
          next _ _ _ _ _ _ _ _ _ c.loop-part.invariant.strips c.in-Some.ensures.steps.1.0
          (omega (arith, c.in-Some.ensures.steps, c.loop-part.invariant.size, g.met.S.InStrips.some))
          (c.take.ensures.scores (omega (arith, c.in-Some.ensures.steps, c.loop-part.invariant.size)) (room _ _ _ _ c.loop-part.invariant.strips));
    }

pub returns : goal.returns
returns g c = ended _ _ _ _ c.loop-part.invariant.strips c.in-None.ensures.steps.1.0
