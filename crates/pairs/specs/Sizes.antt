-- Sizes of numbers below 0. Definitions only.
use Rattle.std.specs.Prelude.{ℕ, cond, ℤ, nat_abs}
use Rattle.designs.specs.Signs.{negative}

-- the size of a number below 0; of any other, 0
abbrev pub minus_size : ℤ → ℕ
minus_size z = cond (negative z) (nat_abs z) 0
