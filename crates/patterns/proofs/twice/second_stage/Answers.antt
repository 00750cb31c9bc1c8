-- Design 4 with two kept bits by cut patterns, read two places higher, where its sum with the carry is whole; the shift down rounds.
use Rattle.std.proofs.Common.{ℕ, ◌+◌, ◌-◌, ◌/◌, ◌%◌, ◌^◌, ℤ, sym, ap, ◌∙◌, subst, ap₂, arith, w32}
use lib.Bits.{bit_and}
use mir.Facts.{to_z_pos}
use Rattle.patterns.specs.Patterns.{masked_by}
use Rattle.patterns.proofs.SecondStage.{Raised, raised}
use Rattle.patterns.proofs.twice.second_stage.Goals as goal
use Rattle.patterns.proofs.twice.second_stage.Goals.{After-unless_zero-2}

at : (c : After-unless_zero-2) → Raised c.args.x c.args.y c.unless_zero-2.result
at c =
    let higher = c.wrapping_add_u32-higher.result in
    let cut = λ (p : ℕ). bit_and p (2 ^ 32 - 2 ^ 21) in
    subst (Raised c.args.x c.args.y)
    (sym (c.unless_zero-2.ensures ∙ ap₂ masked_by (to_z_pos w32 {n = c.args.x} (omega arith))
    (c.unless_zero.ensures ∙ ap (λ (z : ℤ). masked_by z higher) (to_z_pos w32 {n = c.args.y} (omega arith)))))
    (raised c.args.x c.args.y c.requires.0 c.requires.1 c.requires.2 c.log_sum-sum.result higher c.log_sum-sum.type_inv
    (λ _ _. c.log_sum-sum.ensures
    ∙ ap₂ (λ (p q : ℕ). (p + q) % 2 ^ 32) (c.cut.ensures ∙ ap cut c.size_pattern.ensures) (c.cut-2.ensures ∙ ap cut c.size_pattern-2.ensures))
    c.wrapping_add_u32-higher.ensures.value)

pub whole_size-requires : goal.whole_size-requires
whole_size-requires c = (_, (at (goal.at.whole_size-requires c).After-unless_zero-2).stands)

pub returns : goal.returns
returns c = let r = at (goal.at.returns c).After-unless_zero-2 in ap (λ (m : ℕ). m / 2 ^ 2) (c.whole_size.ensures _ r.stands) ∙ r.is
