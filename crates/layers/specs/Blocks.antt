-- Rows in blocks against one frame. Definitions only.
use Rattle.std.specs.Prelude.{◌≡◌, List, ℕ, ◌*◌, ◌≤◌, ◌<◌, ℤ, length}
use Rattle.designs.specs.Designs.{Design, mitchell, nearest, staged, truncated, twice_truncated}
use Rattle.patterns.specs.Blocks.{place}
use Rattle.blocks.specs.Counts.{total}
use Rattle.strips.specs.Strips.{product_at}

-- a frame as long as a row may be
pub record Framed (fs : List ℤ) : Type 0 where
  pub some : 0 < length fs
  pub few : length fs ≤ 4096

-- place r has the sum of the products of the weights that begin r frames after the first
pub record Rowed (D : Design) (store fs before after : List ℤ) : Type 0 where
  pub size : length after ≡ length before
  pub at : (r : ℕ) → r < length before → place after r ≡ total (product_at D store (r * length fs) fs) (length fs)

-- a design with a setting that it takes at 16 bits
abbrev pub Ranged : Design → Type 0
Ranged mitchell = Unit {0}
Ranged nearest = Unit {0}
Ranged (staged s) = (1 ≤ s) × (s ≤ 16)
Ranged (truncated t) = (1 ≤ t) × (t ≤ 15)
Ranged (twice_truncated t) = (1 ≤ t) × (t ≤ 15)
