-- A row by one design meets 3, 5, 6 and 7 alone, in this order: of the number of a design the first test of a row fails, and those after it
-- are the row's own.
use mathlib.Core.Path.{◌≡◌, refl}
use Prim.Native.Nat.{ℕ}
use mathlib.Core.Bool.{true}
use Rattle.designs.specs.Outcomes.{first}
use Rattle.designs.specs.Products.{is_design}
use Rattle.designs.specs.Scoring.{own_refusals, row_refusals}

pub by_itself : (design setting weights frame places : ℕ) → is_design design ≡ true → first (row_refusals design setting weights frame places) ≡ first (own_refusals design setting weights frame places)
unfolding row_refusals own_refusals first
by_itself design setting weights frame places known = rw known refl
