-- The power is 0 where the number is, so that the mask for the number serves it.
use Rattle.std.proofs.Common.{◌≡◌, ℕ, ◌+◌, ◌%◌, ◌^◌, ℤ}
use Rattle.designs.specs.Codes.{code}
use Rattle.designs.specs.Designs.{mitchell, unless_zero}
use Rattle.designs.specs.Signs.{signed_product}
use Rattle.pairs.proofs.Integers.{read_back}
use Rattle.patterns.specs.Patterns.{power_of, raised_of, Stands}
use Rattle.strips.specs.Codes.{Logs}
use Rattle.strips.proofs.LeadingPowers.{lead-logs, one-test}
use Rattle.strips.proofs.PairProducts.{mitchell-stands}
use Rattle.strips.proofs.products.by_lead.Goals as goal

-- r is the pattern of the power
stands : {u v : ℤ} {p q r s m : ℕ} → r ≡ raised_of (power_of 0 u) → s ≡ (r + q) % 2 ^ 32 → m ≡ unless_zero p q s → Logs (code 23) u v p q
    → Stands m (signed_product mitchell (power_of 0 u) v)
stands {s = s} e es em l = rw (em, one-test l e s, es) (mitchell-stands (lead-logs l e))

pub whole-requires : goal.whole-requires
whole-requires c =
    let l = c.requires.2 in
    (_, stands (c.lead.ensures _ l.first l.pattern) c.wrapping_add_u32-sum.ensures.value c.unless_zero.ensures l)

pub returns : goal.returns
returns c u v l =
    read_back c.whole.type_inv
    (c.whole.ensures _ (stands (c.lead.ensures u l.first l.pattern) c.wrapping_add_u32-sum.ensures.value c.unless_zero.ensures l))
