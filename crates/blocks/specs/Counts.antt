-- Sums over the numbers below n, and the greatest. Definitions only.
use Rattle.std.specs.Prelude.{ℕ, zero, suc, max, ◌+◌, ℤ, pos, ◌+ℤ◌}

-- the sum of what f gives
unfoldable pub total : (ℕ → ℤ) → ℕ → ℤ
total f zero = pos 0
total f (suc n) = total f n +ℤ f n

unfoldable pub count : (ℕ → ℕ) → ℕ → ℕ
count f zero = 0
count f (suc n) = count f n + f n

-- the greatest that f gives, or 0
unfoldable pub greatest : (ℕ → ℕ) → ℕ → ℕ
greatest f zero = 0
greatest f (suc n) = max (greatest f n) (f n)
