-- `pattern_of` reads the bits of a float that is exact, so they are the integer's code.
use Rattle.std.proofs.Common.{arith, to_z-of_z}
use lib.Ieee.{binary32}
use Rattle.patterns.proofs.Values.{bits_of, int-no-nan}
use Rattle.patterns.proofs.logs.pattern_of.Goals as goal

pub float_to_bits-result : goal.float_to_bits-result
float_to_bits-result c = rw (to_z-of_z c.ranges.x) (int-no-nan binary32 c.args.x (omega arith))

pub returns : goal.returns
returns c = rw (to_z-of_z c.ranges.x) (bits_of c.args.x c.requires)
