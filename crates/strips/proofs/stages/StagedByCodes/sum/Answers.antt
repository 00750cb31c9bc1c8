-- A turn takes one stage more over all pairs, and after the last the products are added up.
use Rattle.std.proofs.Common.{◌≡◌, ℕ, refl, ◌∙◌, le_antisymm, subst, arith, rules, to_z-of_z, w32, SFits}
use Rattle.signs.proofs.Integers.{read_back}
use Rattle.patterns.specs.Blocks.{place}
use Rattle.strips.specs.Stages.{Left, Multiplied, stages_of}
use Rattle.strips.proofs.EachStage.{none-multiplied, stage-taken, summed-stages, taken-left}
use Rattle.strips.proofs.stages.StagedByCodes.sum.Goals as goal

pub loop-i-init : goal.loop-i-init
loop-i-init c =
    record {
      size = search rules;
      walked =
          subst (λ (n : ℕ). Left 0 n c.args.row.now c.raise.new.left) c.fewer-n.ensures
          (taken-left c.args.row.now (omega (arith, c.fewer-n.ensures)) c.raise.ensures);
      found = none-multiplied refl;
    }

pub multiply-requires : goal.multiply-requires
multiply-requires c =
    let i = c.loop-i.invariant in (
      _,
      _,
      stage-taken c.loop-i-test.true c.taken-stages.result.few c.taken-stages.ensures c.requires.0 c.fewer-n.ensures i.size i.walked i.found,
    )

pub loop-i-preserved : goal.loop-i-preserved
loop-i-preserved c =
    let i = c.loop-i.invariant in
    let after =
    c.multiply.ensures _ _
    (stage-taken c.loop-i-test.true c.taken-stages.result.few c.taken-stages.ensures c.requires.0 c.fewer-n.ensures i.size i.walked i.found) in
    record { size = c.multiply.auto.left ∙ i.size; walked = after.0; found = after.1 }

pub returns : goal.returns
returns c =
    let last : c.loop-i.i ≡ stages_of c.args.self.stages = le_antisymm c.loop-i.auto.i-end c.loop-i-test.false ∙ c.taken-stages.ensures in
    let all =
    c.sum.ensures (place c.loop-i.found)
    (λ j z h made. let fits : SFits w32 (place c.loop-i.found j) = search rules in let read = to_z-of_z fits in search rules) in
    summed-stages (subst (λ (s : ℕ). Multiplied s c.args.row.now c.args.part.now c.loop-i.found) last c.loop-i.invariant.found) (omega arith)
    c.fewer-n.ensures (λ k h. c.loop-i.invariant.walked.small k (omega (arith, h, c.fewer-n.ensures))) c.requires.0.small
    (read_back _ c.sum.type_inv ∙ all.0)
