-- What the steps of the kernels give. Definitions only.
use Rattle.std.specs.Prelude.{◌≡◌, ℕ, ◌-◌, ◌*◌, ◌^◌, ◌<◌, ◌≤◌, min}
use Rattle.designs.specs.Designs.{Design, mitchell, nearest, staged, truncated, twice_truncated, log2, near_power, rest, total}

-- The design that the kernels compute: designs 4 and 5 keep at most 31 bits.
abbrev pub served : Design → Design
served mitchell = mitchell
served nearest = nearest
served (staged s) = staged s
served (truncated t) = truncated (min t 31)
served (twice_truncated t) = twice_truncated (min t 31)

-- x is not 0, and a number of 32 bits; k is the floor of its logarithm, and r what is left beside 2^k.
pub record Split (x k r : ℕ) : Type 0 where
  pub some : 0 < x
  pub log : k ≡ log2 x
  pub small : k < 32
  pub left : r ≡ rest x

pub record NearPower (x r : ℕ) : Type 0 where
  pub is : r ≡ near_power x
  pub small : r ≤ 32

-- s is S of designs 4 and 5 with t kept bits, the last of them at 2^(31−t): both operands are moved up to 2^31.
pub record Summed (t A B s : ℕ) : Type 0 where
  pub few : t ≤ 31
  pub is : s ≡ total t A B * 2 ^ (31 - t)
