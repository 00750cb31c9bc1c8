-- What the pairs of a block add up to. Definitions only.
use Rattle.std.specs.Prelude.{◌≡◌, List, ℕ, max, ◌+◌, ◌-◌, ◌/◌, ◌%◌, ◌^◌, ◌≤◌, ◌<◌, ℤ, pos, nat_abs, ◌*ℤ◌, length}
use Rattle.std.specs.Int.{w16}
use Rattle.std.proofs.Common.{SFits}
use Rattle.designs.specs.Designs.{Design, staged}
use Rattle.designs.specs.Rows.{nonzero}
use Rattle.designs.specs.Signs.{residue}
use Rattle.pairs.specs.Lengths.{pairs_of}
use Rattle.pairs.specs.Sizes.{minus_size}
use Rattle.patterns.specs.Blocks.{place}
use Rattle.blocks.specs.Counts.{count, greatest}
use Rattle.blocks.specs.Residues.{of_pair, Residues, ResiduesByStages}
use Rattle.blocks.specs.declared.sums.BlockSums.{BlockSums}

-- the sums of no pairs
abbrev pub no_sums : BlockSums
no_sums = record { sizes_high = 0; sizes_low = 0; minus_high = 0; minus_low = 0; zero_pairs = 0; largest = pos 0 }

-- the sums with the pair w, x, whose residue is r
abbrev pub with_pair : BlockSums → ℤ → ℤ → ℤ → BlockSums
with_pair s w x r =
    record {
      sizes_high = s.sizes_high + nat_abs (w *ℤ x) / 65536;
      sizes_low = s.sizes_low + nat_abs (w *ℤ x) % 65536;
      minus_high = s.minus_high + minus_size (w *ℤ x) / 65536;
      minus_low = s.minus_low + minus_size (w *ℤ x) % 65536;
      zero_pairs = s.zero_pairs + (1 - nonzero w x);
      largest = pos (max (nat_abs s.largest) (nat_abs r));
    }

-- sums that have room for a pair more
pub record Roomy (s : BlockSums) : Type 0 where
  pub sizes-high : s.sizes_high < 2 ^ 31
  pub sizes-low : s.sizes_low < 2 ^ 31
  pub minus-high : s.minus_high < 2 ^ 31
  pub minus-low : s.minus_low < 2 ^ 31
  pub pairs : s.zero_pairs < 2 ^ 31
  pub largest : s.largest ≡ pos (nat_abs s.largest)

-- The sums of n pairs, of which pair k has the numbers w k and x k and leaves z k.
unfoldable pub sums_of : (ℕ → ℤ) → (ℕ → ℤ) → (ℕ → ℤ) → ℕ → BlockSums
sums_of z w x n =
    record {
      sizes_high = count (λ k. nat_abs (w k *ℤ x k) / 65536) n;
      sizes_low = count (λ k. nat_abs (w k *ℤ x k) % 65536) n;
      minus_high = count (λ k. minus_size (w k *ℤ x k) / 65536) n;
      minus_low = count (λ k. minus_size (w k *ℤ x k) % 65536) n;
      zero_pairs = count (λ k. 1 - nonzero (w k) (x k)) n;
      largest = pos (greatest (λ k. nat_abs (z k)) n);
    }

-- s are these sums, and the pairs have 16-bit numbers
pub record Adds (z w x : ℕ → ℤ) (n : ℕ) (s : BlockSums) : Type 0 where
  pub is : s ≡ sums_of z w x n
  pub fits : (k : ℕ) → k < n → SFits w16 (w k) × SFits w16 (x k)

-- how many pairs a block takes of two slices
abbrev pub taken : List ℤ → List ℤ → ℕ
taken ws fs = pairs_of (length ws) (length fs) 64

-- a block with a place for each of these pairs, and in those places numbers of sizes below 2^31
pub record Held (ws fs block : List ℤ) : Type 0 where
  pub places : 64 ≤ length block
  pub small : (k : ℕ) → k < taken ws fs → nat_abs (place block k) < 2 ^ 31

-- The promise of a block by a design: it is filled, and its pairs add up to s.
pub record Taken (D : Design) (ws fs before after : List ℤ) (s : BlockSums) : Type 0 where
  pub filled : Residues D ws fs (taken ws fs) before after
  pub adds : Adds (of_pair (residue D) ws fs) (place ws) (place fs) (taken ws fs) s

-- by stages
pub record TakenByStages (t : ℕ) (ws fs before after : List ℤ) (s : BlockSums) : Type 0 where
  pub filled : ResiduesByStages t ws fs (taken ws fs) before after
  pub adds : Adds (of_pair (residue (staged t)) ws fs) (place ws) (place fs) (taken ws fs) s
