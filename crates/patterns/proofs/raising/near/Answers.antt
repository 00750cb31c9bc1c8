-- Half of the exponent's last place carries into the exponent from one half up, and then the fraction is cut off.
use Rattle.std.proofs.Common.{◌^◌, arith}
use Rattle.patterns.proofs.ExponentField.{power-raised}
use Rattle.patterns.proofs.raising.near.Goals as goal

pub returns : goal.returns
returns c z l e = rw (c.wrapping_add_u32.ensures.value, e) (power-raised (2 ^ 22) (omega arith) z l)
