-- Without stages nothing is taken off, and otherwise the first takes a power off.
use Rattle.std.proofs.Common.{◌≡◌, min, sym, ap, ◌∙◌, arith, to_z-of_z, w32, to_z, of_z}
use Rattle.designs.specs.Signs.{left_ℤ, rest_ℤ}
use Rattle.designs.proofs.SignedLeft.{left-next, left-none}
use Rattle.pairs.proofs.Integers.{read_back}
use Rattle.patterns.proofs.stages.first_rest.Goals as goal

pub returns-then-stages-eq0 : goal.returns-then-stages-eq0
returns-then-stages-eq0 c =
    let none : min c.args.stages 1 ≡ 0 = omega arith in
    rw none (to_z-of_z c.ranges.x ∙ sym (left-none c.args.x))

pub returns : goal.returns
returns c =
    let once : min c.args.stages 1 ≡ 1 = omega arith in
    let x_is : to_z w32 (of_z w32 c.args.x) ≡ left_ℤ 0 c.args.x = to_z-of_z c.ranges.x ∙ sym (left-none c.args.x) in
    rw once (read_back c.signed_rest.type_inv (c.signed_rest.ensures ∙ ap rest_ℤ x_is ∙ left-next 0 c.args.x))
