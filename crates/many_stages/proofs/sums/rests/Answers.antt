-- A turn adds one product of what the stages leave.
use Rattle.std.proofs.Common.{◌≡◌, arith, rules}
use Rattle.pairs.proofs.Integers.{read_back}
use Rattle.many_stages.proofs.Patterned.{no-sum}
use Rattle.many_stages.proofs.Products.{few-pairs, low-offset, more-fits, more-is, number, rest_product, rest-powers, rest-size, turn}
use Rattle.many_stages.proofs.sums.rests.Goals as goal

pub loop-j-init : goal.loop-j-init
loop-j-init c s n part f size r = no-sum (rest_product s part f)

pub plus-p-requires : goal.plus-p-requires
plus-p-requires c = (_, _, number c.requires.5.ready (turn c.requires.4 c.loop-j-test.true), low-offset)

pub six_at-sum-requires : goal.six_at-sum-requires
six_at-sum-requires c =
    let r = c.requires.5 in
    let h = turn c.requires.4 c.loop-j-test.true in
    (_, _, rest-powers r h (c.plus-p.ensures _ _ (number r.ready h) low-offset))

pub overflow_add-sum : goal.overflow_add-sum
overflow_add-sum c =
    let r = c.requires.5 in
    let h = turn c.requires.4 c.loop-j-test.true in
    let product = c.six_at-sum.ensures _ _ (rest-powers r h (c.plus-p.ensures _ _ (number r.ready h) low-offset)) in
    more-fits (rest_product c.requires.0 c.requires.2 c.requires.3) (λ k l. rest-size r l) (few-pairs r.ready) h (c.loop-j.invariant _ _ _ _ c.requires.4 r)
    (read_back c.six_at-sum.type_inv product)

pub loop-j-preserved : goal.loop-j-preserved
loop-j-preserved c s n part f size r =
    let h = turn size c.loop-j-test.true in
    let product = c.six_at-sum.ensures _ _ (rest-powers r h (c.plus-p.ensures _ _ (number r.ready h) low-offset)) in
    more-is (rest_product s part f) (λ k l. rest-size r l) (few-pairs r.ready) h (c.loop-j.invariant s n part f size r)
    (read_back c.six_at-sum.type_inv product)

pub returns : goal.returns
returns c s n part f size r =
    let all : c.loop-j.j ≡ n = omega (arith, c.loop-j-test.false, size) in
    rw (← all) (search rules)
