-- What the numbers of a frame become, once for all rows of a block. Definitions only.
use Rattle.std.specs.Prelude.{◌≡◌, ℕ, ◌+◌, ◌-◌, ◌*◌, ◌%◌, ◌^◌, ◌<◌, ◌≤◌, Bool, true, false, List, length, ℤ, pos, slice_index, unsigned_abs}
use Rattle.designs.specs.Codes.{code, kept_code}
use Rattle.designs.specs.Designs.{kept, left_over, log2}
use Rattle.designs.specs.Signs.{left_ℤ, negative, rest_ℤ}
use Rattle.patterns.specs.Blocks.{place}
use Rattle.patterns.specs.Patterns.{less_power, log_pattern, masked_by, power_of, raised_by}

-- The code of a number by the logarithm that h gives for its size: 143 less in the exponent field than the pattern with that logarithm, 127
-- for the pattern of 1 and 16 for the weights, which are raised; 0 for 0. Where a code is added to the raised pattern of a weight, the
-- logarithms add.
unfoldable pub code_by : (ℕ → ℕ) → ℤ → ℕ
code_by h z = masked_by z ((log_pattern (negative z) (h (unsigned_abs z)) + 369 * 2 ^ 23) % 2 ^ 32)

-- by its own logarithm
abbrev pub code_of : ℤ → ℕ
code_of z = code_by (code 23) z

-- p is the raised pattern of u and q the code of v, by the logarithms that h gives. Both have 16 bits.
pub record Logs (h : ℕ → ℕ) (u v : ℤ) (p q : ℕ) : Type 0 where
  pub first : unsigned_abs u ≤ 2 ^ 15
  pub second : unsigned_abs v ≤ 2 ^ 15
  pub pattern : p ≡ raised_by h u
  pub code : q ≡ code_by h v

-- Place k of the codes is what f makes of number k of a part of a frame, which has 16 bits; the part has at most 64 numbers.
pub record Coded (f : ℤ → ℕ) (part : List ℤ) (codes : List ℕ) : Type 0 where
  pub few : length part ≤ 64
  pub at : (k : ℕ) → k < length part → (slice_index codes k ≡ f (place part k)) × (unsigned_abs (place part k) ≤ 2 ^ 15)

-- Design 2 takes two codes of a number: that of the power of two next to it, and that of what this leaves.
abbrev pub power_code : ℤ → ℕ
power_code z = code_of (power_of (2 ^ 22) z)

abbrev pub offset_code : ℤ → ℕ
offset_code z = code_of (less_power (2 ^ 22) z)

-- p is the raised pattern of w, and a and b are these codes of x
pub record NearLogs (w x : ℤ) (p a b : ℕ) : Type 0 where
  pub first : unsigned_abs w ≤ 2 ^ 15
  pub second : unsigned_abs x ≤ 2 ^ 15
  pub pattern : p ≡ raised_by (code 23) w
  pub power : a ≡ power_code x
  pub offset : b ≡ offset_code x

-- What the second stage of design 5 takes: what is left of two numbers, with two kept bits. It has no more than 27 in its exponents together.
pub record SecondLogs (A B p q : ℕ) : Type 0 where
  pub logs : Logs (kept_code 23 2) (pos A) (pos B) p q
  pub first : A < 2 ^ 15
  pub second : B < 2 ^ 15
  pub few : log2 A + log2 B ≤ 27

-- Design 5 takes four codes of a number: that of design 4, what the kept bits of the weight's fraction have to stay below for the first stage
-- to be low, and for the second stage those of what the first then leaves, and of what it else leaves.
abbrev pub room_of : ℕ → ℤ → ℕ
room_of t z = 2 ^ 23 - (kept t (unsigned_abs z) + 1) * 2 ^ (23 - t)

abbrev pub left_code : Bool → ℤ → ℕ
left_code low z = code_by (kept_code 23 2) (pos (left_over low (unsigned_abs z)))

pub record TwiceCoded (t : ℕ) (x : ℤ) (a b c d : ℕ) : Type 0 where
  pub size : unsigned_abs x ≤ 2 ^ 15
  pub first : a ≡ code_by (kept_code 23 t) x
  pub room : b ≡ room_of t x
  pub low : c ≡ left_code true x
  pub high : d ≡ left_code false x

-- all four of a part of a frame
pub record FourCoded (t : ℕ) (part : List ℤ) (ks ls ms ns : List ℕ) : Type 0 where
  pub firsts : Coded (code_by (kept_code 23 t)) part ks
  pub rooms : Coded (room_of t) part ls
  pub lows : Coded (left_code true) part ms
  pub highs : Coded (left_code false) part ns

-- p is the raised pattern of w, a is the code of x, and b that of what a stage of design 3 leaves of x
pub record StageLogs (w x : ℤ) (p a b : ℕ) : Type 0 where
  pub first : unsigned_abs w ≤ 2 ^ 15
  pub second : unsigned_abs x ≤ 2 ^ 15
  pub pattern : p ≡ raised_by (code 23) w
  pub code : a ≡ code_of x
  pub left : b ≡ code_of (rest_ℤ x)

-- The codes that stages of design 3 take: 64 places for the numbers of a part, 64 for what one stage leaves of them, and so on, as many times
-- as `runs` says.
pub record StageCoded (runs : ℕ) (part : List ℤ) (codes : List ℕ) : Type 0 where
  pub few : length part ≤ 64
  pub small : (k : ℕ) → k < length part → unsigned_abs (place part k) ≤ 2 ^ 15
  pub at : (i : ℕ) → i < runs → (k : ℕ) → k < length part → slice_index codes (64 * i + k) ≡ code_of (left_ℤ i (place part k))
