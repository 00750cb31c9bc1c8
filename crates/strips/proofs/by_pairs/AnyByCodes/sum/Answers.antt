-- Each number that is added up is the product of a pair.
use Rattle.std.proofs.Common.{◌∙◌, arith, to_z-of_z, rules, ◌<◌, length, SFits, w16}
use Rattle.designs.specs.Signs.{signed_product}
use Rattle.signs.proofs.Integers.{read_back}
use Rattle.patterns.specs.Blocks.{place}
use Rattle.blocks.specs.Residues.{of_pair}
use Rattle.strips.proofs.HalfSums.{summed-pairs}
use Rattle.strips.proofs.by_pairs.AnyByCodes.sum.Goals as goal

pub returns : goal.returns
returns g c =
    let D = g.P.ByPairs.design c.args.self in
    let product = of_pair (signed_product D) c.args.row.now c.args.part.now in
    let all =
    c.sum.ensures product
    (λ j z h made. let fits : SFits w16 (place c.args.row.now j) = search rules in
    let coded = c.requires.0 in
    let few = c.requires.1 in
    let inside : j < length c.args.part.now = omega (arith, h, c.fewer-n.ensures) in
    let read = to_z-of_z fits in search rules) in
    summed-pairs D c.args.row.now c.args.part.now c.fewer-n.ensures (read_back _ c.sum.type_inv ∙ all.0) all.1
