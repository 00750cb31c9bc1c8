-- Blocks of numbers under the stages of design 3. A place past the end of a list counts as 0. Definitions only.
use Rattle.std.specs.Prelude.{◌≡◌, ℕ, ◌+◌, ◌-◌, ◌^◌, ◌<◌, ◌≤◌, cond, List, length, ℤ, pos, nat_lt, slice_index_or, unsigned_abs}
use Rattle.designs.specs.Signs.{left_ℤ}

abbrev pub place : List ℤ → ℕ → ℤ
place l i = slice_index_or l i (pos 0)

-- The first n places have what g gives for each, and later ones what they had before.
pub record Done (g : ℕ → ℤ) (n : ℕ) (before after : List ℤ) : Type 0 where
  pub size : length after ≡ length before
  pub first : (i : ℕ) → i < n → place after i ≡ g i
  pub later : (i : ℕ) → n ≤ i → place after i ≡ place before i

-- There are n places, each with a number of at most 2^15 in size.
pub record Small (n : ℕ) (l : List ℤ) : Type 0 where
  pub room : n ≤ length l
  pub at : (i : ℕ) → i < n → unsigned_abs (place l i) ≤ 2 ^ 15

-- f below n, and from n on g, counted from 0 again
abbrev pub joined : ℕ → (ℕ → ℤ) → (ℕ → ℤ) → ℕ → ℤ
joined n f g i = cond (nat_lt i n) (f i) (g (i - n))

-- There are n weights and n numbers of a frame, and places for them.
pub record Room (n : ℕ) (ws fs block : List ℤ) : Type 0 where
  pub weights : n ≤ length ws
  pub frame : n ≤ length fs
  pub places : n + n ≤ length block

-- What the stages leave of n weights, and behind them of n numbers of the frame, is in the first places, and small.
pub record Left (stages : ℕ) (ws fs : List ℤ) (n : ℕ) (before after : List ℤ) : Type 0 where
  pub done : Done (λ i. left_ℤ stages (joined n (place ws) (place fs) i)) (n + n) before after
  pub small : Small (n + n) after
