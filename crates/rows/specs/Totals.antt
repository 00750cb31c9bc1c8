-- What the loops over a row keep: totals over its first pairs, the worst of these, and their residues in the first places. Definitions only.
use Rattle.std.specs.Prelude.{◌≡◌, cond, ℕ, ◌+◌, ◌-◌, ◌*◌, ◌/◌, ◌^◌, ◌≤◌, ◌<◌, List, ltb, ℤ, pos, nat_abs, ◌+ℤ◌, ◌-ℤ◌, ◌*ℤ◌, length}
use Rattle.designs.specs.Designs.{Design}
use Rattle.designs.specs.Rows.{Report, nonzero}
use Rattle.designs.specs.Signs.{residue}
use Rattle.patterns.specs.Blocks.{Done, place}
use Rattle.blocks.specs.Counts.{total, count}
use Rattle.blocks.specs.Residues.{of_pair}
use Rattle.blocks.specs.Sums.{Adds}
use Rattle.blocks.specs.declared.sums.BlockSums.{BlockSums}
use Rattle.rows.specs.Answers.{Fits16, Ready}
use Rattle.rows.specs.Worst.{InBlock, no_worst, with_residue, WorstOf}
use Rattle.rows.specs.declared.sums.Sums.{Sums}
use Rattle.rows.specs.declared.worst.Worst.{Worst}

-- how many of n pairs go by blocks
abbrev pub in_blocks : ℕ → ℕ
in_blocks n = cond (ltb n 8) 0 (n / 4 * 4)

-- sums that have room for a pair more
pub record Roomy (s : Sums) : Type 0 where
  pub true-sum : nat_abs s.true_sum < 2 ^ 62
  pub error : nat_abs s.error < 2 ^ 62
  pub magnitude-sum : s.magnitude_sum < 2 ^ 62
  pub pairs : s.zero_pairs < 2 ^ 31

-- the sums of no pairs
abbrev pub no_sums : Sums
no_sums = record { true_sum = pos 0; error = pos 0; magnitude_sum = 0; zero_pairs = 0; worst = no_worst }

-- the sums with the pair w, x of place `at`, whose residue is r
abbrev pub with_pair : Sums → ℤ → ℤ → ℤ → ℕ → Sums
with_pair s w x r at =
    record {
      true_sum = s.true_sum +ℤ w *ℤ x;
      error = s.error +ℤ r;
      magnitude_sum = s.magnitude_sum + nat_abs (w *ℤ x);
      zero_pairs = s.zero_pairs + (1 - nonzero w x);
      worst = with_residue s.worst r at;
    }

-- The sums with a block whose pairs add up to `all`, and with the error e and the worst pair w up to its end. The sizes of the products below
-- 0 count twice against those of all.
abbrev pub with_all : Sums → BlockSums → ℤ → Worst → Sums
with_all s all e w =
    let sizes = all.sizes_high * 65536 + all.sizes_low in
    let minus = all.minus_high * 65536 + all.minus_low in
    record {
      true_sum = (s.true_sum +ℤ pos sizes) -ℤ pos (2 * minus);
      error = e;
      magnitude_sum = s.magnitude_sum + sizes;
      zero_pairs = s.zero_pairs + all.zero_pairs;
      worst = w;
    }

-- the report that the sums of n pairs make
abbrev pub report_by : Sums → ℕ → Report
report_by s n =
    record {
      score = s.true_sum -ℤ s.error;
      true_sum = s.true_sum;
      error = s.error;
      magnitude_sum = s.magnitude_sum;
      nonzero_pairs = n - s.zero_pairs;
      largest_residue = s.worst.size;
      largest_place = s.worst.place;
    }

-- the sums of the first n pairs that the design has no part in
pub record Truth (ws fs : List ℤ) (n : ℕ) (s : Sums) : Type 0 where
  pub true-is : s.true_sum ≡ total (of_pair ◌*ℤ◌ ws fs) n
  pub magnitude-is : s.magnitude_sum ≡ count (of_pair (λ w x. nat_abs (w *ℤ x)) ws fs) n
  pub pairs_is : s.zero_pairs + count (of_pair nonzero ws fs) n ≡ n
  pub fits : (k : ℕ) → k < n → Fits16 ws fs k

-- The first n places hold the first n residues of z, and their sum is the error. The later places are as they were before.
pub record Written (z : ℕ → ℤ) (before after : List ℤ) (n : ℕ) (error : ℤ) : Type 0 where
  pub places : Done z n before after
  pub is : error ≡ total z n
  pub small : nat_abs error ≤ n * 2 ^ 31

-- What has been reached after n pairs of a row whose residues are z.
pub record Reached (z : ℕ → ℤ) (ws fs before after : List ℤ) (n : ℕ) (s : Sums) : Type 0 where
  pub truth : Truth ws fs n s
  pub written : Written z before after n s.error
  pub worst : WorstOf z n s.worst

-- a row that has been reached as far as pair `at`, by a design
pub record Going (D : Design) (ws fs before after : List ℤ) (at : ℕ) (s : Sums) : Type 0 where
  pub inside : at ≤ length ws
  pub reached : Reached (of_pair (residue D) ws fs) ws fs before after at s

-- and can be gone on with
pub record Ongoing (D : Design) (ws fs before after : List ℤ) (at : ℕ) (s : Sums) : Type 0 where
  pub ready : Ready D ws fs before
  pub going : Going D ws fs before after at s

-- all its pairs have been reached
abbrev pub Complete : Design → List ℤ → List ℤ → List ℤ → List ℤ → Sums → Type 0
Complete D ws fs before after = Reached (of_pair (residue D) ws fs) ws fs before after (length ws)

-- What a turn asks, whatever the residues z are: pair `at` is the next, and w, x and r are its numbers and its residue.
pub record Turnable (z : ℕ → ℤ) (ws fs before places : List ℤ) (at : ℕ) (s : Sums) (w x r : ℤ) : Type 0 where
  pub reached : Reached z ws fs before places at s
  pub few : at < 4096
  pub room : at < length before
  pub weight : w ≡ place ws at
  pub number : x ≡ place fs at
  pub is : r ≡ z at

-- what writing a block asks
pub record Writable (z : ℕ → ℤ) (before places : List ℤ) (error : ℤ) (block : List ℤ) (from end : ℕ) : Type 0 where
  pub written : Written z before places from error
  pub in_block : InBlock z block from end
  pub room : end ≤ length before

-- what adding a block asks: also that `all` are the sums of its pairs
pub record Addable (z : ℕ → ℤ) (ws fs before places : List ℤ) (s : Sums) (all : BlockSums) (block : List ℤ) (from end : ℕ) : Type 0 where
  pub reached : Reached z ws fs before places from s
  pub in_block : InBlock z block from end
  pub room : end ≤ length before
  pub adds : Adds (λ k. z (from + k)) (λ k. place ws (from + k)) (λ k. place fs (from + k)) (end - from) all
