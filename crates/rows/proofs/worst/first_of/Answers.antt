-- A turn takes the smaller of the first place so far and of the next place, where that has the size.
use Rattle.std.proofs.Common.{rules, ◌≡◌, cond, eqb, length, ℤ, nat_abs, ap, ◌∙◌, arith, w32, SFits, to_z, of_z, to_z-of_z}
use Rattle.patterns.specs.Blocks.{place}
use Rattle.rows.proofs.First.{next-by, none_yet}
use Rattle.rows.proofs.worst.first_of.Goals as goal

pub loop-j-init : goal.loop-j-init
loop-j-init c = none_yet

pub loop-j-preserved : goal.loop-j-preserved
loop-j-preserved c =
    let j = c.loop-j.j in
    let block = c.args.block.now in
    let size = to_z w32 (of_z w32 c.args.size) in
    let fits : SFits w32 (place block j) = search rules in
    let here : c.place_of.result ≡ cond (eqb (nat_abs (place block j)) (nat_abs size)) j 64 =
    c.place_of.ensures ∙ ap (λ (z : ℤ). cond (eqb (nat_abs z) (nat_abs size)) j 64) (to_z-of_z fits) in
    next-by c.loop-j.invariant (omega arith) here (search rules)

pub returns : goal.returns
returns c =
    let end : length c.args.block.now ≡ c.loop-j.j = omega arith in
    rw end (rw (to_z-of_z c.ranges.size) at c.loop-j.invariant)
