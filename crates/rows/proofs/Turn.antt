-- One pair more of a row, for any design. With the pair's true product and residue, what was reached after i pairs becomes what is reached
-- after i + 1; and 4,096 pairs leave room in every sum.
use mathlib.Core.Path.{◌≡◌, refl, sym, ap, ap₂, ◌∙◌, subst}
use Prim.Native.Nat.{ℕ, ◌+◌, ◌*◌, ◌^◌, ◌≤◌, ◌<◌}
use native.Mathlib.Nat.{add-zero}
use native.Mathlib.Omega.{arith}
use mathlib.Core.List.{List}
use lib.IntN.{ℤ, nat_abs, ◌+ℤ◌, ◌*ℤ◌}
use lib.ListN.{length, set}
use mir.Syntax.{w16}
use mir.Val.{SFits}
use Rattle.designs.specs.Rows.{nonzero}
use Rattle.designs.proofs.Cases.{by-lt, either_lt}
use Rattle.designs.proofs.Sizes.{size-add}
use Rattle.designs.proofs.Worst.{kept, none_yet, replaced}
use Rattle.patterns.specs.Blocks.{place}
use Rattle.patterns.proofs.Blocks.{next-done, none_done}
use Rattle.pairs.proofs.Integers.{true-size}
use Rattle.blocks.specs.Counts.{total, count}
use Rattle.blocks.specs.Residues.{of_pair}
use Rattle.blocks.proofs.Adding.{counts-once}
use Rattle.blocks.proofs.Counts.{count_next, count-size, total-next, total_size}
use Rattle.rows.specs.Answers.{Fits16}
use Rattle.rows.specs.Totals.{no_sums, Reached, Roomy, Truth, Turnable, with_pair, Written}
use Rattle.rows.specs.Worst.{with_residue, WorstOf}
use Rattle.rows.specs.declared.sums.Sums.{Sums}
use Rattle.rows.specs.declared.worst.Worst.{Worst}

-- nothing has been added yet
pub nothing : (z : ℕ → ℤ) (ws fs before : List ℤ) → Reached z ws fs before before 0 no_sums
unfolding total count
nothing z ws fs before =
    record {
      truth = record { true-is = refl; magnitude-is = refl; pairs_is = refl; fits = λ k h. absurd (omega arith) };
      written = record { places = none_done z before; is = refl; small = omega arith };
      worst = none_yet z;
    }

-- a residue more is written
pub written_next : {z : ℕ → ℤ} {before after : List ℤ} {i : ℕ} {e r : ℤ} → Written z before after i e → i < length before → r ≡ z i → nat_abs r ≤ 2 ^ 31 → Written z before (set after i r) (i + 1) (e +ℤ r)
written_next {z} {i = i} {e} {r} so_far h er small =
    record {
      places = next-done z i r so_far.places h er;
      is = ap₂ ◌+ℤ◌ so_far.is er ∙ sym (total-next z i);
      small = omega (arith, size-add e r, so_far.small);
    }

-- and is the worst, or not
worst-next : {z : ℕ → ℤ} {i : ℕ} {w : Worst} {r : ℤ} → WorstOf z i w → r ≡ z i → WorstOf z (i + 1) (with_residue w r i)
worst-next {z} {i} {w} {r} so_far er =
    by-lt (WorstOf z (i + 1)) w.size (nat_abs r)
    (λ l. rw (add-zero i) at (replaced so_far 1 {j = 0} l (only_next (λ s. s ≤ nat_abs r) (omega arith)) (omega arith) (rw (add-zero i, er) refl) (λ k h. absurd (omega arith))))
    (λ l. kept so_far 1 (only_next (λ s. s ≤ w.size) l))
  where
    only_next : (Q : ℕ → Type 0) → Q (nat_abs r) → (k : ℕ) → k < 1 → Q (nat_abs (z (i + k)))
    only_next Q q k h = let e : i + k ≡ i = omega arith in rw (e, sym er) q

truth-next : {ws fs : List ℤ} {i : ℕ} {s : Sums} (r : ℤ) → Truth ws fs i s → Fits16 ws fs i → Truth ws fs (i + 1) (of_pair (with_pair s) ws fs i r i)
truth-next {ws} {fs} {i} r so_far hf =
    record {
      true-is = ap (λ (t : ℤ). t +ℤ of_pair ◌*ℤ◌ ws fs i) so_far.true-is ∙ sym (total-next (of_pair ◌*ℤ◌ ws fs) i);
      magnitude-is = omega (arith, so_far.magnitude-is, count_next (of_pair (λ w x. nat_abs (w *ℤ x)) ws fs) i);
      pairs_is = omega (arith, so_far.pairs_is, count_next (of_pair nonzero ws fs) i, counts-once (place ws i) (place fs i));
      fits = λ k g. either_lt k i (so_far.fits k) (λ b. let q : k ≡ i = omega arith in rw q hf);
    }

pub turn : {z : ℕ → ℤ} {ws fs before after : List ℤ} {i : ℕ} {s : Sums} {w x r : ℤ} → Turnable z ws fs before after i s w x r → SFits w16 w → SFits w16 x → nat_abs r ≤ 2 ^ 31
    → Reached z ws fs before (set after i r) (i + 1) (with_pair s w x r i)
turn {r = r} ok hw hx hr =
    rw (ok.weight, ok.number)
    (record {
      truth = truth-next r ok.reached.truth (subst (SFits w16) ok.weight hw, subst (SFits w16) ok.number hx);
      written = written_next ok.reached.written ok.room ok.is hr;
      worst = worst-next ok.reached.worst ok.is;
    })

-- the sizes of sums over 16-bit pairs
module _ {ws fs : List ℤ} {i : ℕ} {s : Sums} (so_far : Truth ws fs i s) where
  product-size : (k : ℕ) → k < i → of_pair (λ w x. nat_abs (w *ℤ x)) ws fs k ≤ 2 ^ 30
  product-size k h = true-size (so_far.fits k h).0 (so_far.fits k h).1

  pub true-small : nat_abs s.true_sum ≤ i * 2 ^ 30
  true-small = rw so_far.true-is (total_size (of_pair ◌*ℤ◌ ws fs) (2 ^ 30) i product-size)

  pub magnitude-small : s.magnitude_sum ≤ i * 2 ^ 30
  magnitude-small = rw so_far.magnitude-is (count-size (of_pair (λ w x. nat_abs (w *ℤ x)) ws fs) (2 ^ 30) i product-size)

-- a row has at most 4,096 pairs, whose sums leave room
pub roomy : {z : ℕ → ℤ} {ws fs before after : List ℤ} {i : ℕ} {s : Sums} → Reached z ws fs before after i s → i ≤ 4096 → Roomy s
roomy so_far few =
    record {
      true-sum = omega (arith, true-small so_far.truth);
      error = omega (arith, so_far.written.small);
      magnitude-sum = omega (arith, magnitude-small so_far.truth);
      pairs = omega (arith, so_far.truth.pairs_is);
    }
