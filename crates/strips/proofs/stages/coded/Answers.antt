-- Each turn brings the codes of what one stage more leaves of the part.
use Rattle.std.proofs.Common.{◌≡◌, ◌+◌, ◌-◌, ◌*◌, ◌≤◌, length, take, drop, ◌∙◌, arith, length-drop, length-take}
use Rattle.strips.specs.Stages.{Left}
use Rattle.strips.proofs.EachStage.{more-codes}
use Rattle.strips.proofs.stages.coded.Goals as goal

pub loop-i-preserved : goal.loop-i-preserved
loop-i-preserved c =
    let i = c.loop-i.i in
    let held = c.loop-i.held in
    let before = c.loop-i.invariant in
    let most : i ≤ 16 = omega (arith, c.loop-i-test.true, c.args.stages.few) in
    let room : length held ≡ 1088 = c.loop-i.auto.held ∙ c.requires.1 in
    let lent : length (take (i * 64 + 64 - i * 64) (drop (i * 64) held)) ≡ 64 =
    omega (arith, length-take (i * 64 + 64 - i * 64) (drop (i * 64) held), length-drop (i * 64) held, room, most) in
    let walked : Left i (length c.loop-i.left) c.args.part.now c.loop-i.left = rw before.size before.walked in
    record {
      size = c.next.auto.left ∙ before.size;
      coded = more-codes before.coded room most (rw before.size at (c.codes_of.ensures _ _ walked)) (c.codes_of.auto.held ∙ lent);
      walked = rw before.size at (c.next.ensures _ _ walked);
    }
