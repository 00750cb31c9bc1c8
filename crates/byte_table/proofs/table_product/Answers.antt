-- `table_product` hands `code_sum` a table whose rule is computed here, once and over all entries together, and two bytes that are not
-- 0; what comes back is design 1 by the law of the codes.
use Rattle.std.proofs.Common.{◌≡◌, ℕ, ◌^◌, ◌<◌, refl, sym, ◌∙◌, arith}
use mathlib.Core.Logic.{⊎_elim}
use Rattle.designs.specs.Designs.{mitchell, product}
use Rattle.designs.proofs.Zeros.{zero_left, zero_right}
use Rattle.designs.proofs.Codes.{codes-whole, codes-mitchell, nonzero-codes-mitchell}
use Rattle.byte_table.specs.Table.{is_code, TableProduct}
use Rattle.byte_table.proofs.table_product.Goals as goal

by_design1 : (a b : ℕ) → a < 2 ^ 8 → b < 2 ^ 8 → (r : ℕ) → r ≡ product mitchell a b → TableProduct a b r
by_design1 a b ha hb r e =
    record { is = e ∙ sym (codes-mitchell 7 a b ha hb); whole = codes-whole 7 a b ha hb; design1 = e }

pub returns-then-a-eq0 : goal.returns-then-a-eq0
returns-then-a-eq0 c =
    by_design1 _ _ c.ranges.a.fits c.ranges.b.fits 0
    (⊎_elim (λ e. zero_left mitchell _ _ e) (λ e. zero_right mitchell _ _ e.1) c.then-a-eq0.either)

pub code_sum-requires-clause-code_table : goal.code_sum-requires-clause-code_table
unfolding is_code
code_sum-requires-clause-code_table c = record { long = refl; coded = tt }

pub returns : goal.returns
returns c =
    by_design1 _ _ c.ranges.a.fits c.ranges.b.fits _
    (c.product_of.ensures ∙ rw c.code_sum.ensures.is
    (nonzero-codes-mitchell 7 _ _ c.ranges.a.fits c.ranges.b.fits (omega arith) (omega arith)))
