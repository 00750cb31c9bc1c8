-- How the outcome of a row is laid out for C, and what is promised of it. Definitions only.
use Rattle.std.specs.Prelude.{◌≡◌, ℕ, List, ℤ, Result, Ok, Err}
use Rattle.designs.specs.Outcomes.{Outcome, accepted, refused}
use Rattle.designs.specs.Products.{design_of}
use Rattle.designs.specs.Rows.{Report, empty_report}
use Rattle.designs.specs.Scoring.{row_outcome, row_written}
use Rattle.designs.specs.Demand.{Demand}
use Rattle.rows.specs.Answers.{report_of, Small}
use Rattle.rows.specs.declared.RowReport.{RowReport}
use Rattle.capi_rows.specs.declared.ScoredRow.{ScoredRow}

-- A refusal of 0 with the report, or the refusal's number with a report of zeros.
abbrev pub RowLaid : Outcome Report → ScoredRow → Type 0
RowLaid (accepted x) r = (report_of r.report ≡ x) × (r.refusal ≡ 0)
RowLaid (refused n) r = (report_of r.report ≡ empty_report) × (r.refusal ≡ n)

-- The same of an answer, whose refusals have their numbers by `told`.
abbrev pub RowLaidBy : {E : Type 0} → (E → ℕ → Type 0) → Result RowReport E → ScoredRow → Type 0
RowLaidBy told (Ok x) r = RowLaid (accepted (report_of x)) r
RowLaidBy told (Err e) r = (report_of r.report ≡ empty_report) × told e r.refusal

-- The promise, as that of the row itself: the struct is the outcome's, the residue slice holds what the definition says, and of a
-- report that is accepted the third demand holds and every sum is small.
pub record RowStruct (design setting : ℕ) (ws fs before after : List ℤ) (r : ScoredRow) : Type 0 where
  pub outcome : RowLaid (row_outcome design setting ws fs before) r
  pub written : after ≡ row_written design setting ws fs before
  pub demand : r.refusal ≡ 0 → Demand (design_of design setting) ws fs (report_of r.report)
  pub small : r.refusal ≡ 0 → Small (report_of r.report)
