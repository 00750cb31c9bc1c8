-- The bits below the last kept one are cut off the pattern, which is then that of the code with the kept bits.
use Rattle.std.proofs.Common.{arith}
use Rattle.patterns.specs.Patterns.{clamped}
use Rattle.patterns.proofs.KeptPatterns.{cut-raised}
use Rattle.patterns.proofs.raising.kept.Goals as goal

pub returns : goal.returns
returns c z l e = rw (c.cut.ensures, e, c.of.ensures) (cut-raised (clamped c.args.kept_bits) (omega arith) z l)
