-- `unsigned_product` judges the numbers beside the operands and then the operands, as `refusals` joins their lists, and an accepted input is
-- within what the kernels serve.
use Rattle.std.proofs.Common.{◌≡◌, refl, ap, ◌∙◌}
use Rattle.std.proofs.lemmas.Result.{err_from_is_err_and}
use Rattle.designs.specs.Designs.{Design, product}
use Rattle.designs.specs.Outcomes.{accepted}
use Rattle.designs.specs.Products.{inside_unsigned, unsigned_outcome}
use Rattle.refusals.proofs.Judging.{numbered, refuse, give}
use Rattle.products.proofs.InsideWidth.{unsigned-fits}
use Rattle.products.proofs.Judgement.{by-setting, by-each}
use Rattle.products.proofs.Accepted.{Accepted, judged-ok}
use Rattle.products.proofs.unsigned_product.Goals as goal
use Rattle.products.proofs.unsigned_product.Goals.{In_ok-of_operands}

-- nothing was refused
found : (c : In_ok-of_operands)
    → Accepted c.args.design c.args.width c.args.setting (inside_unsigned c.args.width c.args.a) (inside_unsigned c.args.width c.args.b) c.in_ok-method.method
found c =
    judged-ok _ _ _ _ _
    (record {
      refusal = by-each _ _ _ _ _ c.in_ok-method.ensures.refusal refl c.inside_unsigned-a_inside.ensures c.inside_unsigned-b_inside.ensures
          c.in_ok-of_operands.ensures;
      method = c.in_ok-method.ensures.method;
    })

pub returns-in_err-method : goal.returns-in_err-method
unfolding unsigned_outcome
returns-in_err-method c =
    let p = err_from_is_err_and c.from_residual.result c.from_residual.ensures.1 in
    rw (p.1, p.2)
    (refuse _ _
    (by-setting c.args.design c.args.width c.args.setting (inside_unsigned c.args.width c.args.a) (inside_unsigned c.args.width c.args.b)
    c.in_err-method.ensures.refusal (numbered _)))

pub returns-in_err-of_operands : goal.returns-in_err-of_operands
unfolding unsigned_outcome
returns-in_err-of_operands c =
    let p = err_from_is_err_and c.from_residual-in_err-of_operands.result c.from_residual-in_err-of_operands.ensures.1 in
    rw (p.1, p.2)
    (refuse _ _
    (by-each c.args.design c.args.width c.args.setting (inside_unsigned c.args.width c.args.a) (inside_unsigned c.args.width c.args.b)
    c.in_ok-method.ensures.refusal refl c.inside_unsigned-a_inside.ensures c.inside_unsigned-b_inside.ensures
    c.in_err-of_operands.ensures))

pub overflow_cast-a : goal.overflow_cast-a
overflow_cast-a c = let s = (found c).within in record { fits = unsigned-fits _ s.high _ s.a-inside }

pub overflow_cast-b : goal.overflow_cast-b
overflow_cast-b c = let s = (found c).within in record { fits = unsigned-fits _ s.high _ s.b-inside }

pub returns : goal.returns
unfolding unsigned_outcome
returns c =
    let found = found (goal.at.returns c).In_ok-of_operands in
    ap accepted (c.product_of.ensures ∙ ap (λ (D : Design). product D c.args.a c.args.b) (found.meant)) ∙ give _ found.none
