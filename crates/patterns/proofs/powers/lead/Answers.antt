-- The exponent field alone of a size's pattern stands for its leading power.
use Rattle.std.proofs.Common.{◌-◌, ◌^◌, pos, add-zero, arith}
use lib.Bits.{bit_and}
use Rattle.patterns.specs.Patterns.{field_power, Stands}
use Rattle.patterns.proofs.ExponentField.{power-of}
use Rattle.patterns.proofs.powers.lead.Goals as goal
use Rattle.patterns.proofs.powers.lead.Goals.{After-size_pattern}

stands : (c : After-size_pattern) → Stands (bit_and c.size_pattern.result (2 ^ 32 - 2 ^ 23)) (pos (field_power 0 c.args.n))
stands c = rw add-zero at (power-of 0 (omega arith) (pos c.args.n) c.size_pattern.result c.size_pattern.ensures c.requires)

pub whole_size-requires : goal.whole_size-requires
whole_size-requires c = (field_power 0 c.args.n, stands c)

pub returns : goal.returns
returns c = c.whole_size.ensures (field_power 0 c.args.n) (stands (goal.at.returns c).After-size_pattern)
