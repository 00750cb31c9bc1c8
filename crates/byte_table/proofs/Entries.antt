-- Each entry of a table of codes is the code of its place, which is below 8 × 128: the rule that holds of the whole table is carried to its
-- places.
use mathlib.Core.Path.{◌≡◌}
use mathlib.Core.List.{List}
use Prim.Native.Nat.{ℕ, ◌<◌}
use native.Mathlib.Omega.{arith}
use lib.Dec.{eqb→eq}
use lib.ListN.{length, get_or}
use Rattle.designs.specs.Codes.{code}
use Rattle.designs.proofs.Codes.{code_lt}
use Rattle.designs.proofs.Lists.{of-below}
use Rattle.byte_table.specs.Table.{is_code, CodeTable}

module _ (xs : List ℕ) (t : CodeTable xs) (v : ℕ) (h : v < 256) where
  pub entry : get_or xs v 0 ≡ code 7 v
  unfolding is_code
  entry = eqb→eq (get_or xs v 0) (code 7 v) (of-below (λ (v : ℕ). is_code v (get_or xs v 0)) (length xs) v t.coded (omega (arith, t.long)))

  pub entry_lt : get_or xs v 0 < 1024
  entry_lt = omega (arith, entry, code_lt 7 v h)
