-- The kernels compute the design itself where it keeps at most 31 bits.
use Rattle.std.proofs.Common.{◌≡◌, refl, ap}
use native.Mathlib.Nat.{min-eq_left}
use Rattle.designs.specs.Designs.{Design, KeepsAtMost, mitchell, nearest, staged, truncated, twice_truncated}
use Rattle.kernels.specs.Steps.{served}

pub serves : (D : Design) → KeepsAtMost 31 D → served D ≡ D
serves mitchell h = refl
serves nearest h = refl
serves (staged s) h = refl
serves (truncated t) h = ap truncated (min-eq_left h)
serves (twice_truncated t) h = ap twice_truncated (min-eq_left h)
