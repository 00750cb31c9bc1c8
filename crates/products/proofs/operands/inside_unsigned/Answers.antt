-- Every 64-bit number is inside a width of 64 bits or more.
use Rattle.products.proofs.InsideWidth.{unsigned-wide}
use Rattle.std.proofs.Common.{arith}
use Rattle.products.proofs.operands.inside_unsigned.Goals as goal

pub returns-in-None : goal.returns-in-None
returns-in-None c = unsigned-wide c.args.width c.args.a (omega (arith, c.in-None.ensures)) (omega arith)
