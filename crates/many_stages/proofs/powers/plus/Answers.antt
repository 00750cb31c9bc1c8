-- Both patterns are those of numbers, and the float's sum is exact.
use lib.Ieee.{add, binary32}
use Rattle.std.proofs.Common.{◌+ℤ◌}
use Rattle.designs.proofs.Sizes.{size-add}
use Rattle.patterns.proofs.Rests.{raised-sum}
use Rattle.many_stages.proofs.RaisedSums.{a-number, result-bits, result-no-nan}
use Rattle.many_stages.proofs.powers.plus.Goals as goal

pub float_from_bits-result : goal.float_from_bits-result
float_from_bits-result c = a-number c.requires.2

pub float_from_bits-result-2 : goal.float_from_bits-result-2
float_from_bits-result-2 c = a-number c.requires.3

pub float_to_bits-result : goal.float_to_bits-result
float_to_bits-result c = result-no-nan (add binary32) ◌+ℤ◌ size-add raised-sum c.requires.2 c.requires.3

pub returns : goal.returns
returns c y z first second = result-bits (add binary32) ◌+ℤ◌ size-add raised-sum first second
