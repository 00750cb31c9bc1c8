-- Masked where one of the two is 0, the sum stands for their product.
use Rattle.std.proofs.Common.{◌≡◌, ℕ, ◌+◌, ◌%◌, ◌^◌, ℤ}
use Rattle.designs.specs.Codes.{code}
use Rattle.designs.specs.Designs.{mitchell, unless_zero}
use Rattle.designs.specs.Signs.{signed_product}
use Rattle.pairs.proofs.Integers.{read_back}
use Rattle.patterns.specs.Patterns.{Stands}
use Rattle.strips.specs.Codes.{Logs}
use Rattle.strips.proofs.PairProducts.{mitchell-stands}
use Rattle.strips.proofs.products.mitchell.Goals as goal

stands : {u v : ℤ} {p q s r : ℕ} → s ≡ (p + q) % 2 ^ 32 → r ≡ unless_zero p q s → Logs (code 23) u v p q → Stands r (signed_product mitchell u v)
stands es er l = rw (er, es) (mitchell-stands l)

pub whole-requires : goal.whole-requires
whole-requires c = (_, stands c.wrapping_add_u32.ensures.value c.unless_zero.ensures c.requires.2)

pub returns : goal.returns
returns c u v l = read_back c.whole.type_inv (c.whole.ensures _ (stands c.wrapping_add_u32.ensures.value c.unless_zero.ensures l))
