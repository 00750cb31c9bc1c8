-- A turn takes four stages more, or one, of what the stages before leave.
use Rattle.std.proofs.Common.{◌≡◌, ℕ, ◌+◌, ◌*◌, ◌/◌, ◌%◌, sym, ap, ◌∙◌, le_antisymm, arith}
use Rattle.designs.specs.Signs.{left_ℤ, rest_ℤ}
use Rattle.designs.proofs.SignedLeft.{left-none}
use Rattle.many_stages.proofs.Patterned.{leaving, patterned-as}
use Rattle.many_stages.proofs.Stages.{four-left, mag-left, mag-rest, one_left}
use Rattle.many_stages.proofs.left.leave.Goals as goal

pub loop-fours-init : goal.loop-fours-init
loop-fours-init c n f size p = patterned-as (λ k. sym (left-none (f k))) p

pub next-requires : goal.next-requires
next-requires c =
    let (n, f, size, p) = c.requires in
    (_, _, _, leaving (left_ℤ 4) (mag-left 4) (λ p e. e) (λ p q e. e), c.loop-fours.auto.left ∙ size, c.loop-fours.invariant _ _ size p)

pub loop-fours-preserved : goal.loop-fours-preserved
loop-fours-preserved c n f size p =
    patterned-as
    (λ k. four-left (4 * c.loop-fours._fours) (f k) ∙ ap (λ (i : ℕ). left_ℤ i (f k)) (omega arith))
    (c.next.ensures _ _ _ (leaving (left_ℤ 4) (mag-left 4) (λ p e. e) (λ p q e. e)) (c.loop-fours.auto.left ∙ size) (c.loop-fours.invariant n f size p))

pub loop-ones-init : goal.loop-ones-init
loop-ones-init c n f size p =
    let i = c.loop-fours._fours in
    let all : i ≡ c.args.stages.count / 4 = le_antisymm c.loop-fours.auto._fours-end c.loop-fours-test.false in
    patterned-as (λ k. ap (λ (i : ℕ). left_ℤ i (f k)) (omega (arith, all))) (c.loop-fours.invariant n f size p)

pub next-requires-in-loop-ones : goal.next-requires-in-loop-ones
next-requires-in-loop-ones c =
    let (n, f, size, p) = c.requires in
    (_, _, _, leaving rest_ℤ mag-rest (λ p e. e) (λ p q e. e), c.loop-ones.auto.left ∙ c.loop-fours.auto.left ∙ size, c.loop-ones.invariant _ _ size p)

pub loop-ones-preserved : goal.loop-ones-preserved
loop-ones-preserved c n f size p =
    let s = c.args.stages.count in
    patterned-as
    (λ k. one_left (4 * (s / 4) + c.loop-ones._ones) (f k) ∙ ap (λ (i : ℕ). left_ℤ i (f k)) (omega arith))
    (c.next-in-loop-ones.ensures _ _ _ (leaving rest_ℤ mag-rest (λ p e. e) (λ p q e. e)) (c.loop-ones.auto.left ∙ c.loop-fours.auto.left ∙ size) (c.loop-ones.invariant n f size p))

pub returns : goal.returns
returns c n f size p =
    let i = c.loop-ones._ones in
    let all : i ≡ c.args.stages.count % 4 = le_antisymm c.loop-ones.auto._ones-end c.loop-ones-test.false in
    patterned-as (λ k. ap (λ (i : ℕ). left_ℤ i (f k)) (omega (arith, all))) (c.loop-ones.invariant n f size p)
