-- Both patterns are those of numbers, and the float's difference is exact.
use lib.Ieee.{binary32, sub}
use Rattle.std.proofs.Common.{◌-ℤ◌}
use Rattle.patterns.proofs.Rests.{raised-difference}
use Rattle.many_stages.proofs.RaisedSums.{a-number, result-bits, result-no-nan, size_less}
use Rattle.many_stages.proofs.powers.less.Goals as goal

pub float_from_bits-result : goal.float_from_bits-result
float_from_bits-result c = a-number c.requires.2

pub float_from_bits-result-2 : goal.float_from_bits-result-2
float_from_bits-result-2 c = a-number c.requires.3

pub float_to_bits-result : goal.float_to_bits-result
float_to_bits-result c = result-no-nan (sub binary32) ◌-ℤ◌ size_less raised-difference c.requires.2 c.requires.3

pub returns : goal.returns
returns c y z first second = result-bits (sub binary32) ◌-ℤ◌ size_less raised-difference first second
