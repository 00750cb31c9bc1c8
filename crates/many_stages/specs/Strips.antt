-- What the loops over a strip of the frame keep, and what it becomes. Definitions only.
use Rattle.std.specs.Prelude.{◌≡◌, ℕ, ◌+◌, ◌*◌, ◌^◌, ◌<◌, ◌≤◌, min, max, List, length, ℤ, pos, ◌-ℤ◌, ◌*ℤ◌, slice_index, unsigned_abs}
use Rattle.std.specs.Int.Signed.{mag}
use Rattle.designs.specs.Signs.{left_ℤ}
use Rattle.patterns.specs.Blocks.{place}
use Rattle.patterns.specs.Patterns.{raised_of}
use Rattle.blocks.specs.Counts.{total}
use Rattle.strips.specs.Codes.{code_of}
use Rattle.many_stages.specs.Powers.{high_byte, low_byte, next_power, power_at}

-- The stages that are taken: at least 4 and at most 16. A number of stages outside acts as the nearest of these.
abbrev pub many_of : ℕ → ℕ
many_of s = max 4 (min s 16)

-- p is the raised pattern of a number of at most 17 bits
pub record Raised (z : ℤ) (p : ℕ) : Type 0 where
  pub small : unsigned_abs z ≤ 2 ^ 16
  pub pattern : p ≡ raised_of z

-- the raised patterns of the first n numbers that f gives, which have 16 bits
pub record Patterned (n : ℕ) (f : ℕ → ℤ) (left : List ℕ) : Type 0 where
  pub room : n ≤ length left
  pub small : (k : ℕ) → k < n → mag (f k) < 2 ^ 15
  pub at : (k : ℕ) → k < n → slice_index left k ≡ raised_of (f k)

-- what takes the raised pattern of any number z of 16 bits, and gives that of h z, which has no more
pub record Leaving (pre : ℕ → Type 0) (post : ℕ → ℕ → Type 0) (h : ℤ → ℤ) : Type 0 where
  pub taken : (z : ℤ) → mag z < 2 ^ 15 → pre (raised_of z)
  pub made : (z : ℤ) (p : ℕ) → mag z < 2 ^ 15 → post (raised_of z) p → p ≡ raised_of (h z)
  pub keeps : (z : ℤ) → mag z < 2 ^ 15 → mag (h z) < 2 ^ 15

-- the raised patterns of numbers of at most 11 bits
pub record Short (n : ℕ) (f : ℕ → ℤ) (left : List ℕ) : Type 0 where
  pub patterns : Patterned n f left
  pub short : (k : ℕ) → k < n → unsigned_abs (f k) < 2 ^ 11

-- n places from `at` on have the codes of the first n numbers that g gives, and those before stay
pub record Filled (at n : ℕ) (g : ℕ → ℤ) (before after : List ℕ) : Type 0 where
  pub size : length after ≡ length before
  pub here : (k : ℕ) → k < n → slice_index after (at + k) ≡ code_of (g k)
  pub front : (i : ℕ) → i < at → slice_index after i ≡ slice_index before i

-- numbers of which a power is to be taken off, and places from `at` on for the codes
pub record Stepping (n : ℕ) (f : ℕ → ℤ) (at : ℕ) (left held : List ℕ) : Type 0 where
  pub numbers : Short n f left
  pub places : at + n ≤ length held

-- what finds the next powers of n numbers, by the patterns of both
abbrev pub Finding : (ℕ → ℕ → Type 0) → ℕ → (ℕ → ℤ) → Type 0
Finding post n f = (k p : ℕ) → k < n → unsigned_abs (f k) ≤ 2 ^ 12 → post (raised_of (f k)) p → p ≡ raised_of (next_power (f k))

-- The codes of the m + 1 powers of n numbers: 128 places from `at` on for the first power of each, 128 for the second, and so on. Places before
-- stay.
pub record Powered (m at n : ℕ) (f : ℕ → ℤ) (before after : List ℕ) : Type 0 where
  pub size : length after ≡ length before
  pub here : (i : ℕ) → i ≤ m → (k : ℕ) → k < n → slice_index after (at + 128 * i + k) ≡ code_of (power_at m i (f k))
  pub front : (i : ℕ) → i < at → slice_index after i ≡ slice_index before i

-- The codes of a part of a frame, for s stages: of four powers for the high byte of each number, four for the low one, and six for what the
-- stages leave.
pub record Coded (s : ℕ) (part : List ℤ) (held : List ℕ) : Type 0 where
  pub few : length part ≤ 128
  pub small : (k : ℕ) → k < length part → mag (place part k) < 2 ^ 15
  pub high : (i : ℕ) → i ≤ 3 → (k : ℕ) → k < length part → slice_index held (128 * i + k) ≡ code_of (power_at 3 i (high_byte (place part k)))
  pub low : (i : ℕ) → i ≤ 3 → (k : ℕ) → k < length part → slice_index held (512 + 128 * i + k) ≡ code_of (power_at 3 i (low_byte (place part k)))
  pub left : (i : ℕ) → i ≤ 5 → (k : ℕ) → k < length part → slice_index held (1024 + 128 * i + k) ≡ code_of (power_at 5 i (left_ℤ s (place part k)))

-- What the offsets 32,769 and 2,048 add to a sum over the first n numbers that f gives.
abbrev pub excess_of : ℕ → (ℕ → ℤ) → ℕ → ℤ
excess_of s f n = total f n *ℤ pos 32769 -ℤ total (λ k. left_ℤ s (f k)) n *ℤ pos 2048

-- p is the raised pattern of w, which is not 0, and a to d are the codes of the four powers of z
pub record Four (w z : ℤ) (p a b c d : ℕ) : Type 0 where
  pub some : 0 < unsigned_abs w
  pub small : unsigned_abs w ≤ 2 ^ 16
  pub byte : unsigned_abs z ≤ 2 ^ 7
  pub pattern : p ≡ raised_of w
  pub first : a ≡ code_of (power_at 3 0 z)
  pub second : b ≡ code_of (power_at 3 1 z)
  pub third : c ≡ code_of (power_at 3 2 z)
  pub fourth : d ≡ code_of (power_at 3 3 z)

-- the same of six powers
pub record Six (w z : ℤ) (p a b c d e f : ℕ) : Type 0 where
  pub some : 0 < unsigned_abs w
  pub small : unsigned_abs w < 2 ^ 12
  pub short : unsigned_abs z < 2 ^ 11
  pub pattern : p ≡ raised_of w
  pub first : a ≡ code_of (power_at 5 0 z)
  pub second : b ≡ code_of (power_at 5 1 z)
  pub third : c ≡ code_of (power_at 5 2 z)
  pub fourth : d ≡ code_of (power_at 5 3 z)
  pub fifth : e ≡ code_of (power_at 5 4 z)
  pub sixth : f ≡ code_of (power_at 5 5 z)

-- with the codes at their places
pub record FourAt (w z : ℤ) (p at : ℕ) (held : List ℕ) : Type 0 where
  pub inside : at + 384 < 1792
  pub powers : Four w z p (slice_index held at) (slice_index held (at + 128)) (slice_index held (at + 256)) (slice_index held (at + 384))

pub record SixAt (w z : ℤ) (p at : ℕ) (held : List ℕ) : Type 0 where
  pub inside : at + 640 < 1792
  pub powers : Six w z p (slice_index held at) (slice_index held (at + 128)) (slice_index held (at + 256)) (slice_index held (at + 384)) (slice_index held (at + 512)) (slice_index held (at + 640))

-- n numbers, by their patterns, and a part of a frame, by its codes
pub record Ready (s n : ℕ) (part : List ℤ) (f : ℕ → ℤ) (left held : List ℕ) : Type 0 where
  pub coded : Coded s part held
  pub inside : n ≤ length part
  pub patterns : Patterned n f left

-- the same where four stages or more leave numbers of at most 11 bits
pub record ReadyRests (s n : ℕ) (part : List ℤ) (f : ℕ → ℤ) (left held : List ℕ) : Type 0 where
  pub ready : Ready s n part f left held
  pub many : 4 ≤ s
  pub short : (k : ℕ) → k < n → unsigned_abs (f k) < 2 ^ 11
