-- A row's answer, laid out for C. Its report is as it was, so what the row promises of a report is promised of the struct's; a refusal is
-- never 0, so nothing is promised of the zeros beside it.
use mathlib.Core.Path.{◌≡◌, refl, sym, ◌∙◌, subst}
use Prim.Native.Nat.{ℕ}
use mathlib.Core.List.{List}
use lib.IntN.{ℤ}
use Rattle.std.specs.Prelude.{Result, Ok, Err}
use Rattle.designs.specs.Outcomes.{Outcome}
use Rattle.designs.specs.Rows.{Report}
use Rattle.refusals.specs.Refusals.{number}
use Rattle.refusals.specs.declared.Refusal.{Refusal}
use Rattle.refusals.proofs.Judging.{numbered}
use Rattle.rows.specs.Answers.{report_of, Scoring}
use Rattle.rows.specs.declared.RowReport.{RowReport}
use Rattle.capi_rows.specs.Rows.{RowLaid, RowLaidBy, RowStruct}
use Rattle.capi_rows.specs.declared.ScoredRow.{ScoredRow}

pub laid_out : {design setting : ℕ} {ws fs before after : List ℤ} (answer : Result RowReport Refusal) {r : ScoredRow} → Scoring design setting ws fs before after answer
    → RowLaidBy (λ (e : Refusal) (n : ℕ). n ≡ number e) answer r → RowStruct design setting ws fs before after r
laid_out {design} {setting} {ws} {fs} (Ok x) {r} promise laid =
    record {
      outcome = subst (λ (o : Outcome Report). RowLaid o r) promise.outcome laid;
      written = promise.written;
      demand = λ _. rw laid.0 (promise.demand (report_of x) refl);
      small = λ _. rw laid.0 (promise.small (report_of x) refl);
    }
laid_out (Err n) {r} promise laid =
    record {
      outcome = subst (λ (o : Outcome Report). RowLaid o r) promise.outcome laid;
      written = promise.written;
      demand = λ z. absurd (numbered n (sym laid.1 ∙ z));
      small = λ z. absurd (numbered n (sym laid.1 ∙ z));
    }
