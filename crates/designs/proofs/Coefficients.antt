-- The bound of a design as three coefficients: c × |error| ≤ d × T + e × n. Design 5 promises no fraction, so its coefficients are 0.
use Prim.Native.Nat.{ℕ, ◌+◌, ◌*◌, ◌^◌, ◌≤◌}
use native.Mathlib.Omega.{arith}
use Rattle.designs.specs.Designs.{Design, mitchell, nearest, staged, truncated, twice_truncated}
use Rattle.designs.specs.Demand.{Bounded}

abbrev pub c : Design → ℕ
c mitchell = 9
c nearest = 9
c (staged s) = 4 ^ s
c (truncated t) = 9 * 2 ^ t
c (twice_truncated t) = 0

abbrev pub d : Design → ℕ
d mitchell = 1
d nearest = 1
d (staged s) = 1
d (truncated t) = 2 ^ t + 18
d (twice_truncated t) = 0

abbrev pub e : Design → ℕ
e mitchell = 0
e nearest = 0
e (staged s) = 0
e (truncated t) = 9 * 2 ^ t
e (twice_truncated t) = 0

-- and it is the bound that the demand claims
pub bounded : (D : Design) (error T n : ℕ) → c D * error ≤ d D * T + e D * n → Bounded D error T n
bounded mitchell error T n h = omega arith
bounded nearest error T n h = omega arith
bounded (staged s) error T n h = omega arith
bounded (truncated t) error T n h = h
bounded (twice_truncated t) error T n h = tt
