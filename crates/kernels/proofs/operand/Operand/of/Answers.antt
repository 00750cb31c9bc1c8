-- The floor of the logarithm is the one exponent whose power is the leading one, and the mask takes that power off.
use Rattle.std.proofs.Common.{◌≡◌, sym, pow-suc, arith}
use Rattle.designs.specs.Designs.{log2}
use Rattle.designs.proofs.Parts.{log2-is, one_shifted}
use Rattle.kernels.proofs.Powers.{cleared}
use Rattle.kernels.proofs.operand.Operand.of.Goals as goal

pub invariant_of-result : goal.invariant_of-result
invariant_of-result c =
    let k = c.ilog2-log.result in
    let l = c.ilog2-log.ensures in
    let log : k ≡ log2 c.args.x = sym (log2-is c.args.x k l.power_le (omega (arith, pow-suc 2 k))) in
    record {
      split =
          record {
            some = c.requires;
            log = log;
            small = l.bound;
            left = rw (one_shifted k 32 l.bound, log) (cleared 32 c.args.x c.requires c.ranges.x.fits);
          };
    }
