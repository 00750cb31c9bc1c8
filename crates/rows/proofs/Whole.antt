-- A row that has been reached whole: the totals over all its pairs are the sums of its report, the worst of its pairs is the report's, and
-- the places hold its residues, with what stood there behind them. A total grows pair by pair as the sum over a list does, no other pair is
-- the worst, and two lists with the same places are one.
use mathlib.Core.Path.{◌≡◌, refl, sym, ap, ap₂, ◌∙◌}
use Prim.Native.Nat.{ℕ, zero, suc, ◌-◌, ◌≤◌, ◌<◌}
use native.Mathlib.Nat.{le_refl}
use native.Mathlib.Omega.{arith}
use mathlib.Core.List.{List, [], ◌∷◌, ◌++◌}
use lib.IntN.{ℤ, pos, neg_ℤ, nat_abs, ◌+ℤ◌, ◌-ℤ◌, ◌*ℤ◌, +ℤ_assoc, +ℤ_idl, +ℤ_invr, neg_ℤ-+ℤ, neg_ℤ-neg_ℤ}
use lib.ListN.{length, drop, get_or, length-append, length-drop, get_or-append}
use lib.Seq.{ext_get_or, get_or-append-add, get_or-drop, take_all}
use Rattle.designs.specs.Designs.{Design}
use Rattle.designs.specs.Rows.{first_of_size, largest_size, nonzero, pairwise, report, residues, sum_ℤ}
use Rattle.designs.specs.Signs.{residue, signed_product}
use Rattle.designs.proofs.Cases.{either_lt}
use Rattle.designs.proofs.Prefixes.{pairwise-length}
use Rattle.designs.specs.Worst.{Worst}
use Rattle.designs.proofs.RowSums.{sum-minus}
use Rattle.designs.proofs.Worst.{only, worst-as, worst-of}
use Rattle.blocks.specs.Counts.{count}
use Rattle.blocks.specs.Residues.{of_pair}
use Rattle.blocks.proofs.ListSums.{whole_ℕ, whole_ℤ}
use Rattle.rows.specs.Totals.{Reached, report_by}
use Rattle.rows.specs.declared.sums.Sums.{Sums}

-- what a difference leaves
pub left : (x y : ℤ) → x -ℤ (x -ℤ y) ≡ y
left x y =
    ap (λ (z : ℤ). x +ℤ z) (neg_ℤ-+ℤ x (neg_ℤ y)) ∙ sym (+ℤ_assoc x (neg_ℤ x) (neg_ℤ (neg_ℤ y))) ∙ ap (λ (z : ℤ). z +ℤ neg_ℤ (neg_ℤ y)) (+ℤ_invr x)
    ∙ +ℤ_idl (neg_ℤ (neg_ℤ y)) ∙ neg_ℤ-neg_ℤ y

-- places of pairs
pair-at : {X : Type 0} (q : ℤ → ℤ → X) (d : X) (ws fs : List ℤ) (k : ℕ) → k < length ws → k < length fs → get_or (pairwise q ws fs) k d ≡ of_pair q ws fs k
unfolding pairwise
pair-at q d [] fs k h g = absurd (omega arith)
pair-at q d (w ∷ ws) [] k h g = absurd (omega arith)
pair-at q d (w ∷ ws) (x ∷ fs) zero h g = refl
pair-at q d (w ∷ ws) (x ∷ fs) (suc k) h g = pair-at q d ws fs k (omega arith) (omega arith)

module _ (ws fs : List ℤ) (same : length ws ≡ length fs) where
  pub residues-length : (D : Design) → length (residues D ws fs) ≡ length ws
  unfolding residues
  residues-length D =
      ap₂ (λ (us vs : List ℤ). length (pairwise (residue D) us vs)) (sym (take_all (length ws) ws (le_refl _))) (sym (take_all (length ws) fs (omega arith)))
      ∙ pairwise-length (residue D) (length ws) ws fs (le_refl _) (omega arith)

module _ (D : Design) (ws fs before after : List ℤ) (s : Sums) (same : length ws ≡ length fs) (room : length ws ≤ length before)
    (all : Reached (of_pair (residue D) ws fs) ws fs before after (length ws) s) where
  whole-worst : let zs = residues D ws fs in Worst (of_pair (residue D) ws fs) (length ws) (largest_size zs) (first_of_size (largest_size zs) zs)
  unfolding residues
  whole-worst =
      let zs = residues D ws fs in
      rw (residues-length ws fs same D) at (worst-as (λ k h. let l : k < length ws = omega (arith, residues-length ws fs same D) in pair-at (residue D) (pos 0) ws fs k l (omega arith)) (worst-of zs))

  pub whole-report : report_by s (length ws) ≡ report D ws fs
  unfolding report residue
  whole-report =
      let t = all.truth.true-is ∙ whole_ℤ ws fs same ◌*ℤ◌ in
      let e = all.written.is ∙ whole_ℤ ws fs same (residue D) ∙ sym (sum-minus ◌*ℤ◌ (signed_product D) ws fs) in
      let m = all.truth.magnitude-is ∙ whole_ℕ ws fs same (λ w x. nat_abs (w *ℤ x)) in
      let n : length ws - s.zero_pairs ≡ count (of_pair nonzero ws fs) (length ws) = omega (arith, all.truth.pairs_is) in
      let worst = only all.worst whole-worst in
      rw (
        ap₂ ◌-ℤ◌ t e ∙ left (sum_ℤ (pairwise ◌*ℤ◌ ws fs)) (sum_ℤ (pairwise (signed_product D) ws fs)),
        t,
        e,
        m,
        n ∙ whole_ℕ ws fs same nonzero,
        worst.0,
        worst.1,
      )

  pub whole-residues : after ≡ residues D ws fs ++ drop (length ws) before
  unfolding residues
  whole-residues =
      let zs = residues D ws fs in
      let rest = drop (length ws) before in
      ext_get_or (pos 0) after (zs ++ rest) (omega (arith, all.written.places.size, length-append zs rest, residues-length ws fs same D, length-drop (length ws) before))
      (λ k h. either_lt k (length ws)
      (λ b. all.written.places.first k b ∙ sym (get_or-append zs rest (pos 0) k (omega (arith, residues-length ws fs same D)) ∙ pair-at (residue D) (pos 0) ws fs k b (omega arith)))
      (λ b. all.written.places.later k b
      ∙ sym (ap (λ (i : ℕ). get_or (zs ++ rest) i (pos 0)) (omega (arith, residues-length ws fs same D)) ∙ get_or-append-add zs rest (k - length ws) (pos 0) ∙ get_or-drop (length ws) before (k - length ws) (pos 0)
      ∙ ap (λ (i : ℕ). get_or before i (pos 0)) (omega arith))))
