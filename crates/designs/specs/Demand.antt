-- The third demand: a claim on a row's report as a whole, for every design and setting at once. Definitions only.
-- e is the size of the error, T the report's sum of magnitudes, n its count of pairs without a zero.
use Rattle.std.specs.Prelude.{◌≡◌, ◌↔◌, List, [], ◌∷◌, ℕ, ◌+◌, ◌*◌, ◌^◌, ◌≤◌, ◌<◌, ℤ, nat_abs, ◌-ℤ◌}
use Rattle.designs.specs.Designs.{Design, mitchell, nearest, staged, truncated, twice_truncated}
use Rattle.designs.specs.Rows.{Report}

-- n is 3 × 2^j, with a j of 0 or more.
unfoldable pub ThreeTimesPower : ℕ → Type 0
ThreeTimesPower n = (j : ℕ) × (n ≡ 3 * 2 ^ j)

-- 9·|error| ≤ T for designs 1 and 2; 4^s·|error| ≤ T for design 3 with setting s;
-- 9·2^t·|error| ≤ (2^t + 18)·T + 9·2^t·n for design 4 with t kept bits. For design 5 no fraction is promised: of it the demand claims that
-- the error is exact, and nothing more.
abbrev pub Bounded : Design → ℕ → ℕ → ℕ → Type 0
Bounded mitchell e T n = 9 * e ≤ T
Bounded nearest e T n = 9 * e ≤ T
Bounded (staged s) e T n = 4 ^ s * e ≤ T
Bounded (truncated t) e T n = 9 * 2 ^ t * e ≤ (2 ^ t + 18) * T + 9 * 2 ^ t * n
Bounded (twice_truncated t) e T n = Unit {0}

-- For a single pair without a zero, with operands of sizes A and B: equality, in designs 1 and 2, exactly when
-- each operand's size is 3 × 2^j.
abbrev pub Met : Design → ℕ → ℕ → ℕ → ℕ → Type 0
Met mitchell e T A B = (9 * e ≡ T) ↔ (ThreeTimesPower A × ThreeTimesPower B)
Met nearest e T A B = (9 * e ≡ T) ↔ (ThreeTimesPower A × ThreeTimesPower B)
Met (staged s) e T A B = Unit {0}
Met (truncated t) e T A B = Unit {0}
Met (twice_truncated t) e T A B = Unit {0}

pub record Demand (D : Design) (ws fs : List ℤ) (r : Report) : Type 0 where
  pub exact : r.error ≡ r.true_sum -ℤ r.score
  pub bounded : Bounded D (nat_abs r.error) r.magnitude_sum r.nonzero_pairs
  pub met : (x y : ℤ) → ws ≡ x ∷ [] → fs ≡ y ∷ [] → 0 < nat_abs x → 0 < nat_abs y
      → Met D (nat_abs r.error) r.magnitude_sum (nat_abs x) (nat_abs y)
