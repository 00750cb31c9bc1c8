-- A whole number divided by 2^k, as a binary64 (docs/SCOPE.md, "Handing out a score"). A finite binary64 is `fin s m e`: m × 2^e,
-- negative where s is true, with an odd m; or a zero, with m = 0 and e = 0, and its sign. Definitions only.
use Rattle.std.specs.Prelude.{◌≡◌, ℕ, ◌^◌, false, T, ℤ, pos, nat_abs, Float}
use Rattle.std.specs.Float.{fin, binary64}
use Rattle.std.specs.Float.Ieee.{odd, fits}
use Rattle.std.specs.Float.Ieee.Exact.{HasValue}
use Rattle.designs.specs.Signs.{negative}

-- z / 2^k: the sign of z, and its size × 2^0 / 2^k written with an odd m. Nothing in it rounds. A size of at most 2^53 has at most
-- 54 binary digits, and `odd` looks at that many.
unfoldable pub quotient : ℤ → ℕ → Float
unfolding odd
quotient z k = odd 54 (negative z) (nat_abs z) 0 k

abbrev pub plus_zero : Float
plus_zero = fin false 0 (pos 0)

-- x is z / 2^k exactly: the format holds x, which is finite and negative exactly where z is, and its magnitude m × 2^e times 2^k is
-- the size of z. Where z is 0, x is the zero with a plus sign. Only one binary64 is all this
-- (`Unique.exact-unique`).
pub record Exact (z : ℤ) (k : ℕ) (x : Float) : Type 0 where
  pub held : T (fits binary64 x)
  pub value : HasValue x (negative z) (nat_abs z) (2 ^ k)
  pub plus-zero : z ≡ pos 0 → x ≡ plus_zero
