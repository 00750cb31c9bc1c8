-- A turn finds the number of the start at its place, and leaves there what a stage leaves of it.
use Rattle.std.proofs.Common.{ap, ◌∙◌, arith, to_z-of_z, w32, SFits, rules}
use Rattle.designs.specs.Signs.{rest_ℤ}
use Rattle.patterns.specs.Blocks.{place}
use Rattle.pairs.proofs.Integers.{read_back}
use Rattle.patterns.proofs.Blocks.{all_done, next-done, none_done}
use Rattle.patterns.proofs.stages.clear.Goals as goal

pub loop-x-init : goal.loop-x-init
loop-x-init c = none_done _ _

pub signed_rest-requires : goal.signed_rest-requires
signed_rest-requires c =
    let fits : SFits w32 (place c.loop-x.numbers c.loop-x.x-index) = search rules in
    rw (to_z-of_z fits, c.loop-x.invariant.later c.loop-x.x-index (omega arith)) (c.requires.at c.loop-x.x-index c.loop-x-test.true)

pub loop-x-preserved : goal.loop-x-preserved
loop-x-preserved c =
    let i = c.loop-x.x-index in
    let fits : SFits w32 (place c.loop-x.numbers i) = search rules in
    next-done _ i _ c.loop-x.invariant c.loop-x-test.true
    (read_back c.signed_rest.type_inv (c.signed_rest.ensures ∙ ap rest_ℤ (to_z-of_z fits ∙ c.loop-x.invariant.later i (omega arith))))

pub returns : goal.returns
returns c = all_done c.loop-x.invariant (omega arith) (omega arith)
