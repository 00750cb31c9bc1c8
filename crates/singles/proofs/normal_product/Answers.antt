-- `normal_product` adds the fields and carries as `product_fields` does.
use Rattle.std.proofs.Common.{◌∙◌}
use borrow.Author.Tests.{le-ltb, lt-ltb}
use Rattle.singles.specs.Singles.{product_fields}
use Rattle.singles.proofs.normal_product.Goals as goal

pub returns-then-fractions-lt-HIDDEN : goal.returns-then-fractions-lt-HIDDEN
unfolding product_fields
returns-then-fractions-lt-HIDDEN c =
    c.judged.ensures
    ∙ simp (
      c.exponent_field.ensures,
      c.exponent_field-2.ensures,
      c.fraction_field.ensures,
      c.fraction_field-2.ensures,
      lt-ltb _ _ (rw (c.fraction_field.ensures, c.fraction_field-2.ensures) at c.if-fractions-lt-HIDDEN.true),
    )

pub returns : goal.returns
unfolding product_fields
returns c =
    c.judged-2.ensures
    ∙ simp (
      c.exponent_field.ensures,
      c.exponent_field-2.ensures,
      c.fraction_field.ensures,
      c.fraction_field-2.ensures,
      le-ltb _ _ (rw (c.fraction_field.ensures, c.fraction_field-2.ensures) at c.if-fractions-lt-HIDDEN.false),
    )
