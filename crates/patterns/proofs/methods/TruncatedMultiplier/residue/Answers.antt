-- The sum of the cut patterns, with its carry, stands for the product of design 4, which is taken off the true product.
use Rattle.std.proofs.Common.{◌≡◌, ℕ, ◌+◌, ◌-◌, ◌%◌, ◌^◌, ◌*ℤ◌, ap, ◌∙◌, ap₂, arith, w32, to_z, of_z}
use lib.Bits.{bit_and}
use Rattle.designs.specs.Designs.{truncated}
use Rattle.designs.specs.Signs.{residue, signed_product}
use Rattle.patterns.specs.Patterns.{Less}
use Rattle.pairs.proofs.Integers.{read-true, size16}
use Rattle.patterns.proofs.Moved.{read-pattern}
use Rattle.patterns.proofs.Pair.{residue-is}
use Rattle.patterns.proofs.KeptPatterns.{truncated-less}
use Rattle.patterns.proofs.methods.TruncatedMultiplier.residue.Goals as goal
use Rattle.patterns.proofs.methods.TruncatedMultiplier.residue.Goals.{After-with_carry}

module _ (c : After-with_carry) where
  truth : to_z w32 (of_z w32 c.true_product.result) ≡ c.args.w *ℤ c.args.x
  truth = read-true c.true_product.type_inv c.true_product.ensures c.ranges.w c.ranges.x

  less : Less (to_z w32 (of_z w32 c.true_product.result)) c.with_carry.result (signed_product (truncated c.of-t.result.count) c.args.w c.args.x)
  less =
      let t = c.of-t.result.count in
      let cut = λ (p : ℕ). bit_and p (2 ^ 32 - 2 ^ (23 - t)) in
      rw truth
      (truncated-less t (omega arith) c.args.w c.args.x (size16 c.ranges.w) (size16 c.ranges.x) (omega arith)
      c.log_sum.result c.with_carry.result c.log_sum.type_inv
      (λ pw px. c.log_sum.ensures
      ∙ ap₂ (λ (p q : ℕ). (p + q) % 2 ^ 32)
      (c.cut.ensures ∙ ap cut (read-pattern c.ranges.w c.pattern.ensures pw))
      (c.cut-2.ensures ∙ ap cut (read-pattern c.ranges.x c.pattern-2.ensures px)))
      c.with_carry.ensures)

pub residue_by-requires : goal.residue_by-requires
residue_by-requires c = (_, less (goal.at.residue_by-requires c).After-with_carry)

pub returns : goal.returns
returns c =
    let s = (goal.at.returns c).After-with_carry in
    residue-is (truncated c.of-t.result.count) c.args.w c.args.x c.residue_by.type_inv (c.residue_by.ensures _ (less s)) (truth s)
    ∙ ap (λ (t : ℕ). residue (truncated t) c.args.w c.args.x) c.of-t.ensures
