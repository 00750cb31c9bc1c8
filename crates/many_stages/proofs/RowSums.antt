-- The sum of a row and a strip. By design 3 a product is the true one less that of what the stages leave of both numbers; so the sum of the true
-- products, less that of what is left and less what the offsets add to both, is that of the design's products.
use Rattle.std.proofs.Common.{◌≡◌, ℕ, ◌*◌, ◌^◌, ◌<◌, ◌≤◌, min, List, length, ℤ, pos, ◌+ℤ◌, ◌-ℤ◌, ◌*ℤ◌, neg_ℤ, nat_abs, sym, ap, ◌∙◌, mul-le-mul, arith, w64, SFits}
use lib.Signed.{mag, nat_abs-le}
use Rattle.designs.specs.Designs.{staged}
use Rattle.designs.specs.Signs.{left_ℤ, residue, signed_product}
use Rattle.designs.proofs.Differences.{add-gap, as-gap, Gap, gap-eq, neg-gap}
use Rattle.designs.proofs.SignedLeft.{left-size, staged-left}
use Rattle.designs.proofs.Sizes.{size-add, size-neg, size-true}
use Rattle.signs.proofs.Integers.{sized}
use Rattle.patterns.specs.Blocks.{place}
use Rattle.blocks.specs.Counts.{total}
use Rattle.blocks.specs.Residues.{of_pair}
use Rattle.blocks.proofs.Counts.{total_size}
use Rattle.strips.specs.Strips.{Summed}
use Rattle.strips.proofs.EachStage.{staged-small}
use Rattle.strips.proofs.HalfSums.{summed-pairs}
use Rattle.many_stages.specs.Strips.{excess_of}
use Rattle.many_stages.proofs.Totals.{without-offsets}

-- the design's product, from what it leaves
left-of : (p q : ℤ) → p -ℤ (p -ℤ q) ≡ q
left-of p q = go (as-gap p) (as-gap q)
  where
    go : Gap p → Gap q → p -ℤ (p -ℤ q) ≡ q
    go (a, b, ep) (c, d, eq) = rw (ep, eq) (simp (add-gap, neg-gap) (gap-eq _ _ _ _ (omega arith)))

staged-is : (s : ℕ) (w x : ℤ) → w *ℤ x -ℤ left_ℤ s w *ℤ left_ℤ s x ≡ signed_product (staged s) w x
unfolding residue
staged-is s w x = ap (λ (z : ℤ). w *ℤ x -ℤ z) (sym (staged-left s w x)) ∙ left-of (w *ℤ x) (signed_product (staged s) w x)

module _ (s : ℕ) (row part : List ℤ) {n : ℕ} (e : n ≡ min (length row) (length part)) (weights : (k : ℕ) → k < n → mag (place row k) < 2 ^ 15)
    (numbers : (k : ℕ) → k < length part → mag (place part k) < 2 ^ 15) (few : length part ≤ 128) where
  abbrev pub products : ℤ
  products = total (λ k. (place row k +ℤ pos 32769) *ℤ place part k) n

  abbrev pub residues : ℤ
  residues = total (λ k. (left_ℤ s (place row k) +ℤ pos 2048) *ℤ left_ℤ s (place part k)) n

  weight : (k : ℕ) → k < n → nat_abs (place row k) ≤ 2 ^ 15
  weight k h = nat_abs-le (place row k) (weights k h)

  number : (k : ℕ) → k < n → nat_abs (place part k) ≤ 2 ^ 15
  number k h = nat_abs-le (place part k) (numbers k (omega (arith, e)))

  -- a product with an offset
  with-offset : (w x : ℤ) (K : ℕ) → nat_abs w ≤ 2 ^ 15 → nat_abs x ≤ 2 ^ 15 → K ≤ 2 ^ 16 → nat_abs ((w +ℤ pos K) *ℤ x) ≤ 2 ^ 32
  with-offset w x K hw hx l =
      let size : nat_abs (w +ℤ pos K) ≤ 2 ^ 17 = omega (arith, size-add w (pos K)) in
      omega (arith, size-true (w +ℤ pos K) x, mul-le-mul size hx)

  pub first_fits : SFits w64 (products -ℤ residues)
  first_fits =
      sized (products -ℤ residues)
      (omega (
        arith,
        size-add products (neg_ℤ residues),
        size-neg residues,
        total_size (λ k. (place row k +ℤ pos 32769) *ℤ place part k) (2 ^ 32) n (λ k h. with-offset (place row k) (place part k) 32769 (weight k h) (number k h) (omega arith)),
        total_size (λ k. (left_ℤ s (place row k) +ℤ pos 2048) *ℤ left_ℤ s (place part k)) (2 ^ 32) n (λ k h. with-offset (left_ℤ s (place row k)) (left_ℤ s (place part k)) 2048 (omega (arith, left-size s (place row k), weight k h)) (omega (arith, left-size s (place part k), number k h)) (omega arith)),
        e,
        few,
      ))

  pub sum_is : products -ℤ residues -ℤ excess_of s (place part) n ≡ total (of_pair (signed_product (staged s)) row part) n
  sum_is = without-offsets (place row) (place part) (λ k. left_ℤ s (place row k)) (λ k. left_ℤ s (place part k)) (of_pair (signed_product (staged s)) row part) (λ k. staged-is s (place row k) (place part k)) n

  small : nat_abs (total (of_pair (signed_product (staged s)) row part) n) ≤ n * 2 ^ 33
  small = total_size (of_pair (signed_product (staged s)) row part) (2 ^ 33) n (λ k h. staged-small s (place row k) (place part k) (weight k h) (number k h))

  pub sum_fits : SFits w64 (total (of_pair (signed_product (staged s)) row part) n)
  sum_fits = sized (total (of_pair (signed_product (staged s)) row part) n) (omega (arith, small, e, few))

  pub summed : {r : ℤ} → r ≡ total (of_pair (signed_product (staged s)) row part) n → Summed (staged s) row part r
  summed er = summed-pairs (staged s) row part e er small
