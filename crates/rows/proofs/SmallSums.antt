-- The sums of a row of 16-bit numbers are small: at most 4,096 pairs of at most 2^31 − 1 each stay below 2^43.
use mathlib.Core.Path.{◌≡◌, ap}
use Prim.Native.Nat.{ℕ, ◌^◌, ◌≤◌, ◌<◌}
use native.Mathlib.Omega.{arith}
use mathlib.Core.List.{List}
use lib.IntN.{ℤ, pos, nat_abs, ◌*ℤ◌}
use lib.ListN.{length, get_or}
use Rattle.designs.specs.Designs.{Design, KeepsBit}
use Rattle.designs.specs.Rows.{report}
use Rattle.designs.specs.Signs.{residue, signed_product}
use Rattle.designs.proofs.RowSums.{sum-minus}
use Rattle.rows.specs.Answers.{Fits16, Small}
use Rattle.blocks.specs.Residues.{of_pair}
use Rattle.blocks.proofs.Counts.{count-size, total_size}
use Rattle.rows.proofs.Pair.{Bounds, bounds, most}
use Rattle.blocks.proofs.ListSums.{whole_ℕ, whole_ℤ}

module _ (D : Design) (keeps : KeepsBit D) (ws fs : List ℤ) (same : length ws ≡ length fs) (few : length ws ≤ 4096)
    (fits : (k : ℕ) → k < length ws → Fits16 ws fs k) where
  at : (k : ℕ) → k < length ws → Bounds D (get_or ws k (pos 0)) (get_or fs k (pos 0))
  at k h = bounds D (get_or ws k (pos 0)) (get_or fs k (pos 0)) keeps (fits k h).0 (fits k h).1

  pub small : Small (report D ws fs)
  unfolding report residue
  small =
      record {
        score = omega (arith, ap nat_abs (whole_ℤ ws fs same (signed_product D)), total_size (of_pair (signed_product D) ws fs) most (length ws) (λ k h. (at k h).product-size));
        true_sum = omega (arith, ap nat_abs (whole_ℤ ws fs same ◌*ℤ◌), total_size (of_pair ◌*ℤ◌ ws fs) (2 ^ 30) (length ws) (λ k h. (at k h).true-size));
        error =
            omega (
              arith,
              ap nat_abs (sum-minus ◌*ℤ◌ (signed_product D) ws fs),
              ap nat_abs (whole_ℤ ws fs same (residue D)),
              total_size (of_pair (residue D) ws fs) most (length ws) (λ k h. (at k h).residue-size),
            );
        magnitude_sum = omega (arith, whole_ℕ ws fs same (λ w x. nat_abs (w *ℤ x)), count-size (of_pair (λ w x. nat_abs (w *ℤ x)) ws fs) (2 ^ 30) (length ws) (λ k h. (at k h).true-size));
      }
