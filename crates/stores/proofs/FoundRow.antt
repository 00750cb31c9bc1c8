-- A row that is found: no test applied, so it is below length / columns and ends at or before the store's end.
use mathlib.Core.Path.{◌≡◌}
use Prim.Native.Nat.{ℕ, ◌+◌, ◌*◌, ◌/◌, ◌%◌, ◌≤◌, ◌<◌}
use native.Mathlib.Nat.{suc-mul, le-div_iff_mul-le, zero-div, zero-mod}
use native.Mathlib.Omega.{arith}
use borrow.Author.Tests.{ltb-true, ltb-false, eqb-false, eqb-true, not-false, ne_eqb, eq-eqb, le-ltb}
use lib.Dec.{eqb, ltb}
use Rattle.designs.specs.Outcomes.{first}
use Rattle.designs.proofs.Cases.{neither}
use Rattle.designs.proofs.Refusals.{none}
use Rattle.stores.specs.Stores.{shape_refusals, store_refusals, store_refusal}

-- what a store has whose shape is accepted
pub record Shaped (length columns : ℕ) : Type 0 where
  pub some : 0 < columns
  pub few : columns ≤ 4096
  pub even : length % columns ≡ 0

pub shaped : (length columns : ℕ) → first (shape_refusals length columns) ≡ 0 → Shaped length columns
shaped length columns e =
    let tests = none (shape_refusals length columns) tt e in
    let range = neither (eqb columns 0) (ltb 4096 columns) (tests 0) in
    record {
      some = omega (arith, eqb-false columns 0 range.0);
      few = ltb-false 4096 columns range.1;
      even = eqb-true (length % columns) 0 (not-false (eqb (length % columns) 0) (tests 1));
    }

module _ (length columns row : ℕ) where
  pub record Found : Type 0 where
    pub some : 0 < columns
    pub inside : row * columns + columns ≤ length

  pub found : store_refusal length columns row ≡ 0 → Found
  unfolding store_refusal
  found e = record { some = some; inside = rw suc-mul at ((le-div_iff_mul-le some).0 below) }
    where
      some : 0 < columns
      some = omega (arith, eqb-false columns 0 (neither (eqb columns 0) (ltb 4096 columns) (none (store_refusals length columns row) tt e 0)).0)

      below : row < length / columns
      below = ltb-true row (length / columns) (not-false (ltb row (length / columns)) (none (store_refusals length columns row) tt e 2))

-- an empty store always gives 14
pub empty-store : (columns row : ℕ) → 0 < columns → columns ≤ 4096 → 14 ≡ store_refusal 0 columns row
unfolding store_refusal
empty-store columns row some few =
    simp (
      ne_eqb columns 0 (λ e. omega arith),
      le-ltb 4096 columns few,
      eq-eqb (0 % columns) 0 (zero-mod columns),
      le-ltb row (0 / columns) (omega (arith, zero-div columns)),
    )
