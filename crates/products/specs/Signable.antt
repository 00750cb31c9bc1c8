-- What makes a signed product fit 64 bits. Definitions only.
use Rattle.std.specs.Prelude.{◌^◌, ◌<◌, ◌≤◌, ℤ, nat_abs}
use Rattle.designs.specs.Designs.{Design, product}

-- the sizes are those of 32 bits, and their product leaves room for a sign
pub record Signable (D : Design) (a b : ℤ) : Type 0 where
  pub first : nat_abs a ≤ 2 ^ 31
  pub second : nat_abs b ≤ 2 ^ 31
  pub fits : product D (nat_abs a) (nat_abs b) < 2 ^ 63
