-- A block of pairs more. Twice the sizes of the products below 0, taken from the sizes of all, leaves the true sum; and the block's largest
-- residue is the row's so far where it is larger than all before it.
use mathlib.Core.Path.{◌≡◌, refl, sym, ap, ap₂, ◌∙◌, subst}
use Prim.Native.Nat.{ℕ, zero, suc, ◌+◌, ◌-◌, ◌*◌, ◌≤◌, ◌<◌}
use native.Mathlib.Omega.{arith}
use mathlib.Core.List.{List}
use lib.IntN.{ℤ, pos, negsuc, nat_abs, ◌+ℤ◌, ◌-ℤ◌, ◌*ℤ◌, +ℤ_assoc}
use Rattle.designs.specs.Rows.{nonzero}
use Rattle.designs.proofs.Cases.{either_lt}
use Rattle.designs.proofs.Sizes.{cross}
use Rattle.designs.proofs.Worst.{kept, replaced}
use Rattle.pairs.specs.Sizes.{minus_size}
use Rattle.patterns.specs.Blocks.{place}
use Rattle.blocks.specs.Counts.{total, count, greatest}
use Rattle.blocks.specs.Residues.{of_pair}
use Rattle.blocks.specs.Sums.{Adds}
use Rattle.blocks.specs.declared.sums.BlockSums.{BlockSums}
use Rattle.blocks.proofs.Adding.{minus, sizes, zeros}
use Rattle.blocks.proofs.Counts.{count-more, greatest-bounds, greatest-met, total-more}
use Rattle.rows.specs.Totals.{Truth, with_all}
use Rattle.rows.specs.Worst.{Comparable, First, WorstOf}
use Rattle.rows.specs.declared.sums.Sums.{Sums}
use Rattle.rows.specs.declared.worst.Worst.{Worst}
use Rattle.rows.proofs.Whole.{left}

-- a number from its size
by_size : (z : ℤ) → z ≡ pos (nat_abs z) -ℤ pos (2 * minus_size z)
by_size (pos n) = ap pos (omega arith)
by_size (negsuc n) = let twice : suc n + suc n ≡ 2 * suc n = omega arith in sym (left (pos (suc n)) (negsuc n)) ∙ ap (λ (m : ℕ). pos (suc n) -ℤ pos m) twice

by-sizes : (f : ℕ → ℤ) (n : ℕ) → total f n ≡ pos (count (λ k. nat_abs (f k)) n) -ℤ pos (2 * count (λ k. minus_size (f k)) n)
unfolding total count
by-sizes f zero = refl
by-sizes f (suc n) =
    let a = count (λ k. nat_abs (f k)) n in
    let m = count (λ k. minus_size (f k)) n in
    let twice : 2 * m + 2 * minus_size (f n) ≡ 2 * (m + minus_size (f n)) = omega arith in
    ap₂ ◌+ℤ◌ (by-sizes f n) (by_size (f n)) ∙ sym (cross (pos a) (pos (nat_abs (f n))) (pos (2 * m)) (pos (2 * minus_size (f n))))
    ∙ ap (λ (k : ℕ). pos (a + nat_abs (f n)) -ℤ pos k) twice

pub truth-more : {ws fs : List ℤ} {from end : ℕ} {s : Sums} {z : ℕ → ℤ} {all : BlockSums} (e : ℤ) (w : Worst) → Truth ws fs from s → from ≤ end
    → Adds z (λ k. place ws (from + k)) (λ k. place fs (from + k)) (end - from) all → Truth ws fs end (with_all s all e w)
truth-more {ws} {fs} {from} {end} {s} {all = all} e w so_far upward adds =
    let whole : from + (end - from) ≡ end = omega arith in
    let products = of_pair ◌*ℤ◌ ws fs in
    subst (λ (n : ℕ). Truth ws fs n (with_all s all e w)) whole
    (record {
      true-is =
          +ℤ_assoc s.true_sum _ _
          ∙ ap₂ ◌+ℤ◌ so_far.true-is (ap₂ (λ (a m : ℕ). pos a -ℤ pos (2 * m)) (sizes adds) (minus adds) ∙ sym (by-sizes (λ k. products (from + k)) (end - from)))
          ∙ sym (total-more products from (end - from));
      magnitude-is = omega (arith, so_far.magnitude-is, sizes adds, count-more (λ k. nat_abs (products k)) from (end - from));
      pairs_is = omega (arith, so_far.pairs_is, zeros adds, count-more (of_pair nonzero ws fs) from (end - from));
      fits = λ k h. either_lt k from (so_far.fits k) (λ b. let same : from + (k - from) ≡ k = omega arith in rw same at (adds.fits (k - from) (omega arith)));
    })

-- the worst with a block
module _ {z : ℕ → ℤ} {w : Worst} {largest : ℤ} {block : List ℤ} {from end : ℕ} (ok : Comparable z w largest block from end) where
  abbrev n : ℕ
  n = end - from

  abbrev most : ℕ
  most = greatest (λ k. nat_abs (z (from + k))) n

  whole_row : from + n ≡ end
  whole_row = omega (arith, ok.in_block.upward)

  pub size_is : nat_abs largest ≡ most
  size_is = ap nat_abs ok.is

  bounds : (k : ℕ) → k < n → nat_abs (z (from + k)) ≤ most
  bounds = greatest-bounds (λ k. nat_abs (z (from + k))) n

  pub not-worse : most ≤ w.size → WorstOf z end w
  not-worse h = subst (λ (m : ℕ). WorstOf z m w) whole_row (kept ok.so_far n (λ k l. omega (arith, bounds k l)))

  pub worse : {p : ℕ} → w.size < most → First block most n p → WorstOf z end (record { size = most; place = from + p })
  worse {p} h first =
      either_lt p 64
      (λ l. subst (λ (m : ℕ). WorstOf z m (record { size = most; place = from + p })) whole_row
      (replaced ok.so_far n h bounds (first.found l).0 (sym (held p (first.found l).0) ∙ (first.found l).1)
      (λ k b. let inside : k < n = omega (arith, (first.found l).0) in either_lt (nat_abs (z (from + k))) most (λ m. m) (λ m. absurd (first.none k inside b (held k inside ∙ omega (arith, bounds k inside)))))))
      (λ l. absurd (greatest-met (λ k. nat_abs (z (from + k))) n (omega arith) (λ k b e. first.none k b (omega (arith, ok.in_block.few)) (held k b ∙ e))))
    where
      held : (k : ℕ) → k < n → nat_abs (place block k) ≡ nat_abs (z (from + k))
      held k b = ap nat_abs (ok.in_block.filled k b)
