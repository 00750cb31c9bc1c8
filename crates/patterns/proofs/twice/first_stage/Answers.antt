-- Design 4 by cut patterns, as a row of it has it, on numbers without a sign.
use Rattle.std.proofs.Common.{◌≡◌, ℕ, ◌+◌, ◌-◌, ◌%◌, ◌^◌, pos, ◌*ℤ◌, nat_abs, sym, ap, ◌∙◌, subst, ap₂, to_z-of_z, w32, to_z, of_z}
use lib.Bits.{bit_and}
use Rattle.designs.specs.Designs.{product, truncated, unless_zero}
use Rattle.designs.specs.Signs.{signed_product}
use Rattle.designs.proofs.Sizes.{size-true}
use Rattle.patterns.specs.Patterns.{Stands}
use Rattle.patterns.proofs.KeptPatterns.{truncated-less}
use Rattle.patterns.proofs.twice.first_stage.Goals as goal
use Rattle.patterns.proofs.twice.first_stage.Goals.{After-unless_zero}

same-size : (c : After-unless_zero) → nat_abs (to_z w32 (of_z w32 c.args.z)) ≡ nat_abs (pos c.args.a *ℤ pos c.args.b)
same-size c = ap nat_abs (to_z-of_z c.ranges.z) ∙ c.requires.truth ∙ sym (size-true (pos c.args.a) (pos c.args.b))

stands : (c : After-unless_zero) → Stands c.unless_zero.result (pos (product (truncated c.args.t.count) c.args.a c.args.b))
unfolding signed_product
stands c =
    let cut = λ (p : ℕ). bit_and p (2 ^ 32 - 2 ^ (23 - c.args.t.count)) in
    subst (λ (p : ℕ). Stands p (pos (product (truncated c.args.t.count) c.args.a c.args.b)))
    (sym (c.unless_zero.ensures ∙ ap (λ (n : ℕ). unless_zero n 1 c.with_carry.result) (same-size c)))
    (truncated-less c.args.t.count c.args.t.few (pos c.args.a) (pos c.args.b) c.requires.first c.requires.second c.args.t.some
    c.log_sum-sum.result c.with_carry.result c.log_sum-sum.type_inv
    (λ _ _. c.log_sum-sum.ensures
    ∙ ap₂ (λ (p q : ℕ). (p + q) % 2 ^ 32) (c.cut.ensures ∙ ap cut c.size_pattern.ensures) (c.cut-2.ensures ∙ ap cut c.size_pattern-2.ensures))
    c.with_carry.ensures).stands

pub whole_size-requires : goal.whole_size-requires
whole_size-requires c = (_, stands (goal.at.whole_size-requires c).After-unless_zero)

pub returns : goal.returns
returns c = c.whole_size.ensures _ (stands (goal.at.returns c).After-unless_zero)
