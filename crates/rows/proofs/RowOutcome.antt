-- The outcome of a row, by its judgement. A refused row promises nothing of a report and leaves every place; of an accepted one no test
-- applied, so that its kept bits are ones that act as they are, and what is reported of it by its design is the definition's report, of which
-- the third demand holds.
use mathlib.Core.Path.{◌≡◌, refl, sym, ap, ◌∙◌, subst}
use Prim.Native.Nat.{ℕ, zero, suc, ◌≤◌}
use native.Mathlib.Omega.{arith}
use mathlib.Core.List.{List, ◌++◌}
use borrow.Author.Tests.{eqb-true, lt-leb, ltb-false, not-false}
use mathlib.Core.Bool.{Bool, true, false, ◌&&◌}
use lib.Dec.{eqb, leb}
use lib.IntN.{ℤ}
use lib.ListN.{length, drop}
use Rattle.std.specs.Prelude.{Result, Ok, Err}
use Rattle.std.specs.Result.{IsErrAnd}
use Rattle.std.proofs.lemmas.Result.{err_from_is_err_and}
use Rattle.designs.specs.Designs.{Design, Keeps, truncated, twice_truncated}
use Rattle.designs.specs.Outcomes.{accepted, refused, first}
use Rattle.designs.specs.Products.{design_of, is_design, takes_setting}
use Rattle.designs.specs.Rows.{Report, report, residues}
use Rattle.designs.specs.Scoring.{row_refusals, row_width, row_refusal, row_outcome, row_written, written_unless}
use Rattle.designs.specs.Demand.{Demand}
use Rattle.designs.proofs.Cases.{by_bool, by-lt, either_lt}
use Rattle.designs.proofs.Demand.{demand}
use Rattle.designs.proofs.Refusals.{none, refuses, gives}
use Rattle.designs.proofs.Settings.{by-design, keeps}
use Rattle.patterns.specs.Patterns.{clamped}
use Rattle.patterns.proofs.KeptPatterns.{clamped-is}
use Rattle.refusals.specs.Methods.{Judged}
use Rattle.refusals.specs.Refusals.{number}
use Rattle.refusals.specs.declared.Refusal as R
use Rattle.refusals.specs.declared.Refusal.TheVariants as V
use Rattle.refusals.specs.declared.methods.Method.{Method}
use Rattle.refusals.proofs.Judging.{numbered}
use Rattle.rows.specs.Answers.{report_of, Ready, Reported, Scoring, Small}
use Rattle.rows.specs.Totals.{Complete, Going, in_blocks, Ongoing, report_by, Roomy}
use Rattle.rows.specs.declared.RowReport.{RowReport}
use Rattle.rows.specs.declared.sums.Sums.{Sums}
use Rattle.rows.proofs.SmallSums.{small}
use Rattle.rows.proofs.Turn.{roomy}
use Rattle.rows.proofs.Whole.{residues-length, whole-report, whole-residues}

-- a row by another name of its design: bits that act as they are kept are the same ones
pub named : {D E : Design} {ws fs before : List ℤ} → E ≡ D → Ready D ws fs before → Ready E ws fs before
named {ws = ws} {fs} {before} same ready = subst (λ (F : Design). Ready F ws fs before) (sym same) ready

pub truncated-as : {D : Design} {t : ℕ} {ws fs before : List ℤ} → truncated t ≡ D → Ready D ws fs before → truncated (clamped t) ≡ D
truncated-as is ready = ap truncated (named is ready).kept ∙ is

pub twice-truncated-as : {D : Design} {t : ℕ} {ws fs before : List ℤ} → twice_truncated t ≡ D → Ready D ws fs before → twice_truncated (clamped t) ≡ D
twice-truncated-as is ready = ap twice_truncated (named is ready).kept ∙ is

-- a row that has been reached whole, by its first pairs in blocks and the others one by one
module _ {D : Design} {ws fs before : List ℤ} (ready : Ready D ws fs before) where
  pub begins : {to : ℕ} → to ≡ in_blocks (length ws) → Ready D ws fs before × (to ≤ length ws)
  begins {to} e = (ready, rw e (by-lt (λ (k : ℕ). k ≤ length ws) (length ws) 8 (λ h. omega arith) (λ h. omega arith)))

  pub goes_on : {after : List ℤ} {to : ℕ} {s : Sums} → Going D ws fs before after to s → Ongoing D ws fs before after to s
  goes_on going = record { ready = ready; going = going }

  module _ {after : List ℤ} {s : Sums} (all : Complete D ws fs before after s) where
    pub room : Roomy s × (s.zero_pairs ≤ length ws)
    room = (roomy all ready.pairs, omega (arith, all.truth.pairs_is))

    pub reported : {r : RowReport} → report_of r ≡ report_by s (length ws) → Reported D ws fs before after r
    reported by =
        record {
          is = by ∙ whole-report D ws fs before after s ready.lengths ready.places all;
          written = whole-residues D ws fs before after s ready.lengths ready.places all;
          fits = all.truth.fits;
        }

  -- the same with what its loops give, of which the second goes on from what the first reached
  pub by_parts : {mid after : List ℤ} {to : ℕ} {so_far s : Sums} {r : RowReport} → Going D ws fs before mid to so_far
      → ((places : List ℤ) → Ongoing D ws fs places mid to so_far → Complete D ws fs places after s) → report_of r ≡ report_by s (length ws) → Reported D ws fs before after r
  by_parts blocks others by = reported (others before (goes_on blocks)) by

module _ (design setting : ℕ) (ws fs before : List ℤ) where
  abbrev D : Design
  D = design_of design setting

  abbrev refusal : ℕ
  refusal = first (row_refusals design setting (length ws) (length fs) (length before))

  abbrev pub RowJudged : Result Method R.Refusal → Type 0
  RowJudged = Judged (row_refusals design setting (length ws) (length fs) (length before)) design setting

  pub refuse : (r : R.Refusal) → number r ≡ refusal → Scoring design setting ws fs before before (Err r)
  unfolding row_outcome row_written row_refusal
  refuse r e =
      record {
        outcome = refuses (report D ws fs) e (numbered r);
        written = kept (number r) (numbered r) ∙ ap (λ (k : ℕ). written_unless k (residues D ws fs) before) e;
        demand = λ q p. absurd (clash q p);
        small = λ q p. absurd (clash q p);
      }
    where
      kept : (n : ℕ) → (n ≡ 0 → ⊥) → before ≡ written_unless n (residues D ws fs) before
      kept zero h = absurd (h refl)
      kept (suc n) h = refl

      clash : (q : Report) → refused (number r) ≡ accepted q → ⊥
      clash q p = let z : ◌≡◌ {A = ℕ} 0 1 = cc in omega arith

  -- the same of what `?` hands on
  pub refused_by : {a : Result RowReport R.Refusal} {r : R.Refusal} → IsErrAnd a (λ e. e ≡ r) → RowJudged (Err r) → Scoring design setting ws fs before before a
  refused_by {a} {r} is judged = let p = err_from_is_err_and a is in rw (p.1, p.2) (refuse r judged.refusal)

  module _ (e : 0 ≡ refusal) where
    -- what the tests that were passed say of the design and of its setting
    passed : (is_design design ≡ true) × (takes_setting design row_width setting ≡ true)
    unfolding row_refusals
    passed =
        let tests = none (row_refusals design setting (length ws) (length fs) (length before)) tt (sym e) in
        (not-false (is_design design) (tests 0), not-false (takes_setting design row_width setting) (tests 1))

    pub ready : Ready D ws fs before
    unfolding row_refusals
    ready =
        let tests = none (row_refusals design setting (length ws) (length fs) (length before)) tt (sym e) in
        record {
          kept = by-design design row_width setting passed.0 passed.1 (Keeps (λ t. clamped t ≡ t)) tt tt tt (λ h g. (clamped-is setting h g, clamped-is setting h g));
          lengths = eqb-true (length ws) (length fs) (not-false (eqb (length ws) (length fs)) (tests 2));
          pairs = ltb-false 4096 (length ws) (tests 3);
          places = ltb-false (length before) (length ws) (tests 4);
        }

    pub score : {E : Design} → E ≡ D → {after : List ℤ} {r : RowReport} → Reported E ws fs before after r → Scoring design setting ws fs before after (Ok r)
    unfolding row_outcome row_written row_refusal
    score same {after} {r} by_name =
        record {
          outcome = ap accepted by.is ∙ gives (report D ws fs) e refl;
          written =
              by.written ∙ ap (λ (k : ℕ). residues D ws fs ++ drop k before) (sym (residues-length ws fs ready.lengths D))
              ∙ ap (λ (k : ℕ). written_unless k (residues D ws fs) before) e;
          demand = λ q p. subst (Demand D ws fs) (sym by.is ∙ given-is q p) (demand D ws fs);
          small = λ q p. subst Small (sym by.is ∙ given-is q p) (small D (keeps design row_width setting passed.0 passed.1) ws fs ready.lengths ready.pairs by.fits);
        }
      where
        by : Reported D ws fs before after r
        by = subst (λ (F : Design). Reported F ws fs before after r) same by_name

        given-is : (q : Report) → accepted (report_of r) ≡ accepted q → report_of r ≡ q
        given-is q p = cc

-- no other number is that of a design
pub unknown : (design setting : ℕ) {ws fs before : List ℤ} → (design ≡ 1 → ⊥) → (design ≡ 2 → ⊥) → (design ≡ 3 → ⊥) → (design ≡ 4 → ⊥) → (design ≡ 5 → ⊥) → Scoring design setting ws fs before before (Err V.UnknownDesign)
unfolding row_refusals first
unknown design setting {ws} {fs} {before} a b c d e = refuse design setting ws fs before V.UnknownDesign first-of-all
  where
    none-such : is_design design ≡ false
    none-such =
        either_lt 5 design (λ h. by_bool (λ (x : Bool). (x && leb design 5) ≡ false) (leb 1 design) (λ _. lt-leb design 5 h) (λ _. refl))
        (λ h. let zero : design ≡ 0 = omega arith in rw zero refl)

    first-of-all : 1 ≡ first (row_refusals design setting (length ws) (length fs) (length before))
    first-of-all = rw none-such refl
