-- `value` makes a float of a finite pattern, which is no NaN's.
use Rattle.formats.proofs.Values.{no_nan}
use Rattle.singles.proofs.value.Goals as goal

pub float_from_bits-result : goal.float_from_bits-result
float_from_bits-result c = rw (c.pattern_of.ensures, no_nan c.args.fields.minus c.args.fields.exponent c.args.fields.fraction c.requires c.args.fields.below_hidden) tt
