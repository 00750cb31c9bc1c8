-- With nothing added, the exponent field is the leading power.
use Rattle.std.proofs.Common.{ap, ◌∙◌, to_z-of_z}
use Rattle.pairs.proofs.Integers.{read_back}
use Rattle.patterns.specs.Patterns.{less_power}
use Rattle.patterns.proofs.ExponentField.{rest_of}
use Rattle.patterns.proofs.stages.signed_rest.Goals as goal

pub returns : goal.returns
returns c = read_back c.less_power.type_inv (c.less_power.ensures ∙ ap (less_power 0) (to_z-of_z c.ranges.x) ∙ rest_of c.args.x c.requires)
