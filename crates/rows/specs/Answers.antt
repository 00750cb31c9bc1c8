-- What an answer of a row says, and what it promises. Definitions only.
use Rattle.std.specs.Prelude.{◌≡◌, ℕ, ◌^◌, ◌≤◌, ◌<◌, List, ℤ, pos, nat_abs, length, get_or, drop, ◌++◌, Result}
use Rattle.std.specs.Int.{w16}
use Rattle.std.proofs.Common.{SFits}
use Rattle.designs.specs.Outcomes.{Outcome, accepted}
use Rattle.designs.specs.Products.{design_of}
use Rattle.designs.specs.Rows.{Report, report, residues}
use Rattle.designs.specs.Scoring.{row_outcome, row_written}
use Rattle.designs.specs.Demand.{Demand}
use Rattle.designs.specs.Designs.{Design, Keeps}
use Rattle.patterns.specs.Patterns.{clamped}
use Rattle.refusals.specs.Refusals.{answer_by}
use Rattle.refusals.specs.declared.Refusal.{Refusal}
use Rattle.rows.specs.declared.RowReport.{RowReport}

abbrev pub report_of : RowReport → Report
report_of r =
    record {
      score = r.score;
      true_sum = r.true_sum;
      error = r.error;
      magnitude_sum = r.magnitude_sum;
      nonzero_pairs = r.nonzero_pairs;
      largest_residue = r.largest_residue;
      largest_place = r.largest_place;
    }

abbrev pub given : Result RowReport Refusal → Outcome Report
given = answer_by report_of

-- no sum of a report reaches 2^43 in size
pub record Small (r : Report) : Type 0 where
  pub score : nat_abs r.score < 2 ^ 43
  pub true_sum : nat_abs r.true_sum < 2 ^ 43
  pub error : nat_abs r.error < 2 ^ 43
  pub magnitude_sum : r.magnitude_sum < 2 ^ 43

-- the promise: the answer is the definition's, the residue slice holds what the definition says, and of a report
-- the third demand holds and every sum is small
pub record Scoring (design setting : ℕ) (ws fs before after : List ℤ) (answer : Result RowReport Refusal) : Type 0 where
  pub outcome : given answer ≡ row_outcome design setting ws fs before
  pub written : after ≡ row_written design setting ws fs before
  pub demand : (r : Report) → given answer ≡ accepted r → Demand (design_of design setting) ws fs r
  pub small : (r : Report) → given answer ≡ accepted r → Small r

-- pair k of a row has 16-bit numbers
abbrev pub Fits16 : List ℤ → List ℤ → ℕ → Type 0
Fits16 ws fs k = SFits w16 (get_or ws k (pos 0)) × SFits w16 (get_or fs k (pos 0))

-- a row that can be scored by a design
pub record Ready (D : Design) (ws fs before : List ℤ) : Type 0 where
  pub kept : Keeps (λ t. clamped t ≡ t) D
  pub lengths : length ws ≡ length fs
  pub pairs : length ws ≤ 4096
  pub places : length ws ≤ length before

-- What scoring it gives: its report, and its residues in the first places, with what stood behind them.
pub record Reported (D : Design) (ws fs before after : List ℤ) (r : RowReport) : Type 0 where
  pub is : report_of r ≡ report D ws fs
  pub written : after ≡ residues D ws fs ++ drop (length ws) before
  pub fits : (k : ℕ) → k < length ws → Fits16 ws fs k
