-- `single_product` reads the operands as the definition does and makes the tests of the refusals in their order.
use Rattle.std.proofs.Common.{ap, ◌∙◌}
use Rattle.formats.specs.Formats.{binary32}
use Rattle.singles.specs.Singles.{single_outcome}
use Rattle.singles.specs.Answers.{as_single}
use Rattle.singles.proofs.Rules.{nonzero, not_finite, subnormal, zero}
use Rattle.singles.proofs.Answered.{answered}
use Rattle.singles.proofs.single_product.Goals as goal

pub returns-then-not-finite : goal.returns-then-not-finite
unfolding single_outcome
returns-then-not-finite c = answered _ _ _ (ap as_single (not_finite binary32 _ _ _ cc))

pub returns-then-subnormal : goal.returns-then-subnormal
unfolding single_outcome
returns-then-subnormal c = answered _ _ _ (ap as_single (subnormal binary32 _ _ _ (cc) (cc)))

pub returns-then-zero : goal.returns-then-zero
unfolding single_outcome
returns-then-zero c = answered _ _ _ (c.value.ensures ∙ ap as_single (zero binary32 _ _ _ (cc) (cc) (cc) (cc)))

pub returns : goal.returns
unfolding single_outcome
returns c =
    answered _ _ _
    ((simp (c.from_bits-x.ensures, c.from_bits-y.ensures) at c.normal_product.ensures) ∙ ap as_single (nonzero binary32 _ _ _ (cc) (cc) (cc) (cc)))
