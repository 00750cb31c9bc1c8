-- `signed_product` judges the numbers beside the operands and then the operands, as `refusals` joins their lists, and an accepted input is one
-- whose product fits with its sign.
use Rattle.std.proofs.Common.{◌≡◌, refl, ap, ◌∙◌}
use Rattle.std.proofs.lemmas.Int.{to_z-of_z}
use Rattle.std.proofs.lemmas.Result.{err_from_is_err_and}
use Rattle.signs.proofs.Integers.{read_back}
use Rattle.designs.specs.Designs.{Design}
use Rattle.designs.specs.Signs.{signed_product}
use Rattle.designs.specs.Outcomes.{accepted}
use Rattle.designs.specs.Products.{inside_signed, signed_outcome}
use Rattle.refusals.proofs.Judging.{numbered, refuse, give}
use Rattle.products.proofs.InsideWidth.{signable}
use Rattle.products.proofs.Judgement.{by-setting, by-each}
use Rattle.products.proofs.Accepted.{Accepted, judged-ok}
use Rattle.products.proofs.signed_product.Goals as goal
use Rattle.products.proofs.signed_product.Goals.{In_ok-of_operands}

-- nothing was refused
found : (c : In_ok-of_operands)
    → Accepted c.args.design c.args.width c.args.setting (inside_signed c.args.width c.args.a) (inside_signed c.args.width c.args.b) c.in_ok-method.method
found c =
    let a_fits = c.ranges.a in
    let b_fits = c.ranges.b in
    judged-ok _ _ _ _ _
    (record {
      refusal = by-each _ _ _ _ _ c.in_ok-method.ensures.refusal refl (simp to_z-of_z at c.inside_signed-a_inside.ensures)
          (simp to_z-of_z at c.inside_signed-b_inside.ensures) c.in_ok-of_operands.ensures;
      method = c.in_ok-method.ensures.method;
    })

pub returns-in_err-method : goal.returns-in_err-method
unfolding signed_outcome
returns-in_err-method c =
    let p = err_from_is_err_and c.from_residual.result c.from_residual.ensures.1 in
    rw (p.1, p.2)
    (refuse _ _
    (by-setting c.args.design c.args.width c.args.setting (inside_signed c.args.width c.args.a) (inside_signed c.args.width c.args.b)
    c.in_err-method.ensures.refusal (numbered _)))

pub returns-in_err-of_operands : goal.returns-in_err-of_operands
unfolding signed_outcome
returns-in_err-of_operands c =
    let a_fits = c.ranges.a in
    let b_fits = c.ranges.b in
    let p = err_from_is_err_and c.from_residual-in_err-of_operands.result c.from_residual-in_err-of_operands.ensures.1 in
    rw (p.1, p.2)
    (refuse _ _
    (by-each c.args.design c.args.width c.args.setting (inside_signed c.args.width c.args.a) (inside_signed c.args.width c.args.b)
    c.in_ok-method.ensures.refusal refl (simp to_z-of_z at c.inside_signed-a_inside.ensures)
    (simp to_z-of_z at c.inside_signed-b_inside.ensures) c.in_err-of_operands.ensures))

pub signed_of-requires : goal.signed_of-requires
signed_of-requires c =
    let a_fits = c.ranges.a in
    let b_fits = c.ranges.b in
    let s = (found c).within in
    simp (to_z-of_z, (found c).meant) (signable c.args.width s.high s.low _ s.keeps c.args.a c.args.b s.a-inside s.b-inside)

pub returns : goal.returns
unfolding signed_outcome
returns c =
    let a_fits = c.ranges.a in
    let b_fits = c.ranges.b in
    let found = found (goal.at.returns c).In_ok-of_operands in
    ap accepted
    (read_back c.signed_of.result c.signed_of.type_inv
    ∙ (simp to_z-of_z at c.signed_of.ensures)
    ∙ ap (λ (D : Design). signed_product D c.args.a c.args.b) (found.meant))
    ∙ give _ found.none
