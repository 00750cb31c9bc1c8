-- The outcome of a layer, by what its judgement gives: its refusal, or that none applied. A refused layer leaves every place. Of an accepted one
-- each row has as many weights as the frame has numbers; the sums that the blocks leave in the first places are then the scores of the rows
-- alone, of which the third demand holds.
use mathlib.Core.Path.{◌≡◌, refl, sym, ap, ap₂, ◌∙◌, subst}
use mathlib.Core.List.{List, [], ◌∷◌, ◌++◌}
use Prim.Native.Nat.{ℕ, zero, suc, ◌+◌, ◌*◌, ◌/◌, ◌≤◌, ◌<◌}
use native.Mathlib.Nat.{le-div_iff_mul-le, suc-mul}
use native.Mathlib.Omega.{arith}
use borrow.Author.Tests.{eqb-true, ltb-false, not-false}
use lib.Dec.{eqb}
use lib.IntN.{ℤ, pos, nat_abs, ◌-ℤ◌}
use lib.ListN.{drop, length, length-drop, length-take, get_or-append, take}
use lib.Seq.{ext_get_or, get_or-drop, get_or-take}
use Rattle.std.specs.Prelude.{Ok, Err}
use Rattle.refusals.specs.Refusals.{number}
use Rattle.refusals.specs.declared.Refusal.{Refusal}
use Rattle.refusals.proofs.Judging.{numbered}
use Rattle.designs.specs.Demand.{Bounded}
use Rattle.designs.specs.Designs.{Design}
use Rattle.designs.specs.Outcomes.{accepted, first, refused}
use Rattle.designs.specs.Products.{design_of}
use Rattle.designs.specs.Rows.{report}
use Rattle.designs.specs.Scoring.{design_refusals, lengths_differ, written_unless}
use Rattle.designs.specs.Signs.{signed_product}
use Rattle.designs.proofs.Demand.{demand}
use Rattle.designs.proofs.Refusals.{gives, none, of-both, refuses}
use Rattle.stores.specs.Stores.{shape_refusals}
use Rattle.stores.proofs.FoundRow.{Shaped, shaped}
use Rattle.patterns.specs.Blocks.{place}
use Rattle.blocks.specs.Counts.{total}
use Rattle.blocks.specs.Residues.{of_pair}
use Rattle.blocks.proofs.ListSums.{whole_ℤ}
use Rattle.strips.specs.Strips.{product_at}
use Rattle.strips.proofs.EachRow.{total-as}
use Rattle.layers.specs.Answers.{Layering, Row}
use Rattle.layers.specs.Blocks.{Framed, Rowed}
use Rattle.layers.specs.Layers.{layer_outcome, layer_refusal, layer_refusals, layer_written, row_of, score_of, scores_from, scores_too_short}

-- how many scores there are, and which is at a place
module _ (D : Design) (store : List ℤ) (columns : ℕ) (fs : List ℤ) where
  scores-length : (r n : ℕ) → length (scores_from D store columns fs r n) ≡ n
  unfolding scores_from
  scores-length r zero = refl
  scores-length r (suc n) = ap suc (scores-length (suc r) n)

  score-at : (r n k : ℕ) → k < n → place (scores_from D store columns fs r n) k ≡ score_of D store columns fs (r + k)
  unfolding scores_from
  score-at r zero k h = absurd (omega arith)
  score-at r (suc n) zero h = ap (score_of D store columns fs) (omega arith)
  score-at r (suc n) (suc k) h = score-at (suc r) n k (omega arith) ∙ ap (score_of D store columns fs) (omega arith)

  -- a row inside the store has a weight for each number of the frame
  module _ (same : columns ≡ length fs) (r : ℕ) (inside : r * columns + columns ≤ length store) where
    row-length : length (row_of store columns r) ≡ length fs
    row-length = simp (length-take, length-drop) (omega (arith, same, inside))

    pub sum_is : total (product_at D store (r * length fs) fs) (length fs) ≡ score_of D store columns fs r
    unfolding report
    sum_is =
        total-as (length fs) (λ k h. ap (λ (w : ℤ). signed_product D w (place fs k)) (sym (weight k h)))
        ∙ ap (total (of_pair (signed_product D) (row_of store columns r) fs)) (sym row-length)
        ∙ whole_ℤ (row_of store columns r) fs row-length (signed_product D)
      where
        weight : (k : ℕ) → k < length fs → place (row_of store columns r) k ≡ place store (r * length fs + k)
        weight k h =
            get_or-take columns (drop (r * columns) store) k (pos 0) (omega (arith, same)) ∙ get_or-drop (r * columns) store k (pos 0)
            ∙ ap (λ (c : ℕ). place store (r * c + k)) same

module _ (design setting : ℕ) (store : List ℤ) (columns : ℕ) (fs before : List ℤ) where
  abbrev D : Design
  D = design_of design setting

  abbrev n : ℕ
  n = length store / columns

  abbrev refusal : ℕ
  refusal = first (layer_refusals design setting (length store) columns (length fs) (length before))

  pub refuse : (r : Refusal) → number r ≡ refusal → Layering design setting store columns fs before before (Err r)
  unfolding layer_outcome layer_written layer_refusal
  refuse r e =
      record {
        outcome = refuses n e (numbered r);
        written = kept (number r) (numbered r) ∙ ap (λ (i : ℕ). written_unless i (scores_from D store columns fs 0 n) before) e;
        row = λ m p. absurd (clash m p);
      }
    where
      kept : (k : ℕ) → (k ≡ 0 → ⊥) → before ≡ written_unless k (scores_from D store columns fs 0 n) before
      kept zero h = absurd (h refl)
      kept (suc k) h = refl

      clash : (m : ℕ) → refused (number r) ≡ accepted m → ⊥
      clash m p = let z : ◌≡◌ {A = ℕ} 0 1 = cc in omega arith

  -- what the tests that were passed say
  pub record Ready : Type 0 where
    pub known : first (design_refusals design setting) ≡ 0
    pub shape : Shaped (length store) columns
    pub frame : columns ≡ length fs
    pub places : n ≤ length before

  pub ready : 0 ≡ refusal → Ready
  unfolding layer_refusals design_refusals
  ready e =
      let lent = lengths_differ columns (length fs) ∷ scores_too_short (length before) n ∷ [] in
      let parts = of-both (design_refusals design setting) (shape_refusals (length store) columns ++ lent) tt (sym e) in
      let later = of-both (shape_refusals (length store) columns) lent tt parts.1 in
      let tests = none lent tt later.1 in
      record {
        known = parts.0;
        shape = shaped (length store) columns later.0;
        frame = eqb-true columns (length fs) (not-false (eqb columns (length fs)) (tests 0));
        places = ltb-false (length before) n (tests 1);
      }

  pub framed : Ready → Framed fs
  framed r = record { some = omega (arith, r.shape.some, r.frame); few = omega (arith, r.shape.few, r.frame) }

  module _ (e : 0 ≡ refusal) {new : List ℤ} (rowed : Rowed D store fs (take n before) new) where
    is : Ready
    is = ready e

    inside : (r : ℕ) → r < n → r * columns + columns ≤ length store
    inside r h = rw suc-mul at ((le-div_iff_mul-le is.shape.some).0 h)

    size : length new ≡ n
    size = rowed.size ∙ omega (arith, length-take n before, is.places)

    at : (r : ℕ) → r < n → place new r ≡ score_of D store columns fs r
    at r h = rowed.at r (omega (arith, rowed.size, size)) ∙ sum_is D store columns fs is.frame r (inside r h)

    all : new ≡ scores_from D store columns fs 0 n
    all =
        ext_get_or (pos 0) new (scores_from D store columns fs 0 n) (size ∙ sym (scores-length D store columns fs 0 n))
        (λ r h. let l : r < n = omega (arith, size) in
        at r l ∙ sym (score-at D store columns fs 0 n r l ∙ ap (score_of D store columns fs) (omega arith)))

    pub score : Layering design setting store columns fs before (new ++ drop n before) (Ok n)
    unfolding layer_outcome layer_written layer_refusal
    score =
        record {
          outcome = gives n e refl;
          written =
              ap₂ (λ (l : List ℤ) (i : ℕ). l ++ drop i before) all (sym (scores-length D store columns fs 0 n))
              ∙ ap (λ (i : ℕ). written_unless i (scores_from D store columns fs 0 n) before) e;
          row = λ m p r h. let l : r < n = omega (arith, counted m p) in placed_row r l;
        }
      where
        counted : (m : ℕ) → accepted n ≡ accepted m → n ≡ m
        counted m p = cc

        placed_row : (r : ℕ) → r < n → Row D (row_of store columns r) fs (place (new ++ drop n before) r)
        placed_row r h =
            let ws = row_of store columns r in
            let alone = get_or-append new (drop n before) (pos 0) r (omega (arith, size)) ∙ at r h in
            let d = demand D ws fs in
            record {
              alone = alone;
              demand = d;
              bounded =
                  subst (λ (z : ℤ). let q = report D ws fs in Bounded D (nat_abs z) q.magnitude_sum q.nonzero_pairs)
                  (d.exact ∙ ap (λ (z : ℤ). (report D ws fs).true_sum -ℤ z) (sym alone)) d.bounded;
            }
