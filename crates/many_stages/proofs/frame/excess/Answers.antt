-- Both sums are exact, and so is what is made of them.
use Rattle.std.proofs.Common.{ℕ, length, ℤ, pos, ◌-ℤ◌, ◌*ℤ◌, ap, ◌∙◌, arith, rules}
use Rattle.designs.specs.Signs.{left_ℤ}
use Rattle.patterns.specs.Blocks.{place}
use Rattle.blocks.specs.Counts.{total}
use Rattle.many_stages.specs.Strips.{Patterned}
use Rattle.many_stages.proofs.Offsets.{less-is, once_more, plus-is, sum_is, times-is}
use Rattle.many_stages.proofs.frame.excess.Goals as goal

pub sum-numbers-requires : goal.sum-numbers-requires
sum-numbers-requires c = (_, _, c.raise.auto.left, (c.raise.ensures (λ z. z) (λ x y small made. search rules)).0, c.requires.1)

pub leave-requires : goal.leave-requires
leave-requires c = (_, _, c.raise.auto.left, (c.raise.ensures (λ z. z) (λ x y small made. search rules)).0)

pub sum-rests-requires : goal.sum-rests-requires
sum-rests-requires c =
    (_, _, c.leave.auto.left ∙ c.raise.auto.left, c.leave.ensures _ _ c.raise.auto.left (c.raise.ensures (λ z. z) (λ x y small made. search rules)).0, c.requires.1)

pub returns : goal.returns
returns c =
    let f = place c.args.part.now in
    let g = λ (k : ℕ). left_ℤ c.args.stages.count (f k) in
    let few = c.requires.1 in
    let raised : Patterned (length c.args.left.now) f c.raise.new.left = (c.raise.ensures (λ z. z) (λ x y small made. search rules)).0 in
    let left = c.leave.ensures _ f c.raise.auto.left raised in
    let numbers = sum_is f few raised.small c.sum-numbers.type_inv (c.sum-numbers.ensures _ f c.raise.auto.left raised) in
    let rests = sum_is g few left.small c.sum-rests.type_inv (c.sum-rests.ensures _ g (c.leave.auto.left ∙ c.raise.auto.left) left) in (
      (less-is (plus-is (times-is numbers 32768 (omega arith)) numbers (omega arith)) (times-is rests 2048 (omega arith)) (omega arith)).is
          ∙ ap (λ (z : ℤ). z -ℤ total g (length c.args.left.now) *ℤ pos 2048) (once_more (total f (length c.args.left.now))),
      left,
    )
