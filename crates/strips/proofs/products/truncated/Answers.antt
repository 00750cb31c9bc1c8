-- Masked where one of the two is 0, the sum with its carry stands for their product.
use Rattle.std.proofs.Common.{◌≡◌, ℕ, ◌+◌, ◌%◌, ◌^◌, ℤ}
use Rattle.designs.specs.Codes.{kept_code}
use Rattle.designs.specs.Designs.{truncated, unless_zero}
use Rattle.designs.specs.Signs.{signed_product}
use Rattle.pairs.proofs.Integers.{read_back}
use Rattle.patterns.specs.Patterns.{carried_of, clamped, Stands}
use Rattle.strips.specs.Codes.{Logs}
use Rattle.strips.proofs.PairProducts.{truncated-stands}
use Rattle.strips.proofs.products.truncated.Goals as goal

stands : (kept-bits : ℕ) {u v : ℤ} {p q s r m : ℕ} → s ≡ (p + q) % 2 ^ 32 → r ≡ carried_of (clamped kept-bits) s → m ≡ unless_zero p q r
    → Logs (kept_code 23 (clamped kept-bits)) u v p q → Stands m (signed_product (truncated (clamped kept-bits)) u v)
stands kept-bits es er em l = rw (em, er, es) (truncated-stands kept-bits l)

pub whole-requires : goal.whole-requires
whole-requires c =
    (_, stands c.args.kept_bits c.wrapping_add_u32-sum.ensures.value c.carried.ensures c.unless_zero.ensures c.requires.2)

pub returns : goal.returns
returns c u v l =
    read_back c.whole.type_inv
    (c.whole.ensures _ (stands c.args.kept_bits c.wrapping_add_u32-sum.ensures.value c.carried.ensures c.unless_zero.ensures l))
