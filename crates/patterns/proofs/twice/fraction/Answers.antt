-- The cut pattern less its exponent field.
use Rattle.std.proofs.Common.{◌≡◌, ◌+◌, ◌-◌, ◌*◌, ◌^◌, ◌∙◌, arith}
use lib.Bits.{bit_and}
use Rattle.designs.specs.Designs.{kept}
use Rattle.patterns.proofs.SecondStage.{fraction-is}
use Rattle.patterns.proofs.twice.fraction.Goals as goal

is : (c : goal.After-cut) → c.cut.result ≡ bit_and c.size_pattern-p.result (2 ^ 32 - 2 ^ 23) + kept c.args.t.count c.args.x * 2 ^ (23 - c.args.t.count)
is c = c.cut.ensures ∙ fraction-is c.args.t.count c.args.x _ c.args.t.few c.requires c.size_pattern-p.ensures

pub overflow_sub-result : goal.overflow_sub-result
overflow_sub-result c = omega (arith, is c)

pub returns : goal.returns
returns c = omega (arith, is c)
