-- A turn takes one stage more off numbers that are small, and leaves small numbers.
use Rattle.std.proofs.Common.{◌≡◌, ◌+◌, min, arith}
use Rattle.designs.specs.Signs.{rest_ℤ}
use Rattle.patterns.specs.Blocks.{joined, place}
use Rattle.patterns.proofs.Blocks.{done-small, front-done, front-small, one_more, rest-small, standing, then-done}
use Rattle.patterns.proofs.stages.pairs_left.Goals as goal

pub loop-k-init : goal.loop-k-init
loop-k-init c = (standing c.begin.ensures.done, c.begin.ensures.small)

pub clear-requires : goal.clear-requires
clear-requires c = front-small c.loop-k.invariant.1

pub loop-k-preserved : goal.loop-k-preserved
loop-k-preserved c =
    let inv = c.loop-k.invariant in
    let k = c.loop-k._k in
    let now : min c.args.stages k ≡ k = omega arith in
    let then : min c.args.stages (k + 1) ≡ k + 1 = omega arith in
    let cleared = front-done rest_ℤ inv.1.room c.clear.ensures in (
      rw then (one_more (joined c.taken-n.result (place c.args.weights.now) (place c.args.frame.now)) k (rw now at inv.0) cleared),
      done-small cleared inv.1.room (rest-small _ c.loop-k.left inv.1),
    )

pub returns : goal.returns
returns c =
    let all : min c.args.stages c.loop-k._k ≡ c.args.stages = omega arith in
    (c.taken-n.ensures, record { done = then-done c.begin.ensures.done (rw all at c.loop-k.invariant.0); small = c.loop-k.invariant.1 })
