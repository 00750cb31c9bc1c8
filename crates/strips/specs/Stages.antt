-- What the stages of design 3 keep of the pairs of a row and a strip. Definitions only.
use Rattle.std.specs.Prelude.{◌≡◌, ℕ, ◌+◌, ◌^◌, ◌<◌, ◌≤◌, min, max, List, length, ℤ, slice_index, unsigned_abs}
use Rattle.designs.specs.Designs.{staged}
use Rattle.designs.specs.Signs.{left_ℤ, signed_product}
use Rattle.patterns.specs.Blocks.{place}
use Rattle.patterns.specs.Patterns.{raised_of}
use Rattle.strips.specs.Codes.{code_of, StageCoded}
use Rattle.strips.specs.Strips.{started}

-- The stages that are taken: at least 1 and at most 16. A number of stages outside acts as the nearest of these.
abbrev pub stages_of : ℕ → ℕ
stages_of s = max 1 (min s 16)

-- how many pairs a row and a part of a frame have
abbrev pub pairs_of : List ℤ → List ℤ → ℕ
pairs_of ws part = min (length ws) (length part)

-- the raised patterns of what i stages leave of n numbers, which have 16 bits
pub record Left (i n : ℕ) (numbers : List ℤ) (left : List ℕ) : Type 0 where
  pub room : n ≤ length left
  pub small : (k : ℕ) → k < n → unsigned_abs (place numbers k) ≤ 2 ^ 15
  pub at : (k : ℕ) → k < n → slice_index left k ≡ raised_of (left_ℤ i (place numbers k))

-- the codes that go with them
pub record Codes (i n : ℕ) (numbers : List ℤ) (codes : List ℕ) : Type 0 where
  pub at : (k : ℕ) → k < n → slice_index codes k ≡ code_of (left_ℤ i (place numbers k))

-- The products of i stages, for each pair. Before the first stage the places for them count for nothing.
pub record Multiplied (i : ℕ) (ws part products : List ℤ) : Type 0 where
  pub size : length products ≡ 64
  pub at : (k : ℕ) → k < pairs_of ws part → started i (place products k) ≡ signed_product (staged i) (place ws k) (place part k)

-- What stage i takes: the codes that it and the one after it need, and of each pair the pattern of what is left of its weight, and its product.
pub record Multiplying (i : ℕ) (ws part : List ℤ) (held left : List ℕ) (products : List ℤ) : Type 0 where
  pub few : i ≤ 15
  pub coded : StageCoded (i + 2) part held
  pub size : length left ≡ pairs_of ws part
  pub walked : Left i (pairs_of ws part) ws left
  pub found : Multiplied i ws part products
