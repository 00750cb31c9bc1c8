-- The true product is 0 where the code's test says so, and then no nonzero pair is counted.
use Rattle.std.proofs.Common.{ℕ, ◌-◌, ap, ap₂, ◌∙◌, ◌*ℤ◌}
use mir.Facts.{to_z-of_z}
use Rattle.pairs.proofs.Counting.{counts-none}
use Rattle.pairs.proofs.holds_zero.Goals as goal

pub returns-then-true_product-eq0 : goal.returns-then-true_product-eq0
returns-then-true_product-eq0 c =
    let truth = c.true_product.ensures ∙ ap₂ ◌*ℤ◌ (to_z-of_z c.ranges.w) (to_z-of_z c.ranges.x) in
    ap (λ (k : ℕ). 1 - k) (counts-none c.args.w c.args.x _ truth (record { sfits = c.true_product.type_inv }) c.if-true_product-eq0.true)
