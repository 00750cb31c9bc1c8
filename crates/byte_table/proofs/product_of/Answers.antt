-- `product_of` shifts 128 + R, of 8 bits, up by Q, which is at most 15, so no bit of 32 is lost.
use Rattle.std.proofs.Common.{ℕ, ◌/◌, ap, arith, shl_exact}
use Rattle.designs.specs.Codes.{scaled_product}
use Rattle.byte_table.proofs.product_of.Goals as goal

pub returns : goal.returns
unfolding scaled_product
returns c = ap (λ (x : ℕ). x / 128) (shl_exact 8 (c.args.sum / 128) 32 (omega arith) (omega arith))
