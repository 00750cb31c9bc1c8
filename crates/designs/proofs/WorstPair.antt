-- What the last two fields of every report say. They are the worst of the residues by their definitions; and a pair with a zero leaves
-- nothing, so of the others, which are n, each adds at most the largest size to the error.
use mathlib.Core.Path.{◌≡◌, ap, ◌∙◌}
use Prim.Native.Nat.{ℕ, zero, suc, ◌*◌, ◌≤◌}
use native.Mathlib.Nat.{mul-le-mul_right}
use native.Mathlib.Omega.{arith}
use mathlib.Core.List.{List, [], ◌∷◌}
use lib.IntN.{ℤ, nat_abs, ◌*ℤ◌}
use Rattle.designs.specs.Designs.{Design, unless_zero}
use Rattle.designs.specs.Rows.{largest_size, nonzero, pairwise, report, residues, sum, sum_ℤ}
use Rattle.designs.specs.Signs.{residue, signed_product}
use Rattle.designs.specs.Worst.{WorstPair}
use Rattle.designs.proofs.Cases.{either_lt}
use Rattle.designs.proofs.Demand.{residue-size}
use Rattle.designs.proofs.Distance.{dist, dist-less}
use Rattle.designs.proofs.RowSums.{sum-minus}
use Rattle.designs.proofs.Sizes.{size-add}
use Rattle.designs.proofs.Worst.{worst-of}
use Rattle.designs.proofs.Zeros.{zero-product}

-- a sum over pairs of which those with a zero add nothing
sum-within : (r : ℤ → ℤ → ℤ) (largest : ℕ) → ((w x : ℤ) → nonzero w x ≡ 0 → nat_abs (r w x) ≡ 0) → (ws fs : List ℤ) → largest_size (pairwise r ws fs) ≤ largest
    → nat_abs (sum_ℤ (pairwise r ws fs)) ≤ sum (pairwise nonzero ws fs) * largest
unfolding pairwise sum_ℤ sum largest_size
sum-within r largest none [] fs h = omega arith
sum-within r largest none (w ∷ ws) [] h = omega arith
sum-within r largest none (w ∷ ws) (x ∷ fs) h = omega (arith, size-add (r w x) (sum_ℤ (pairwise r ws fs)), sum-within r largest none ws fs (omega arith), pair)
  where
    pair : nat_abs (r w x) ≤ nonzero w x * largest
    pair = either_lt 0 (nonzero w x) (λ l. omega (arith, mul-le-mul_right largest l)) (λ l. omega (arith, none w x (omega arith)))

-- a pair with a zero leaves nothing
none_left : (D : Design) (w x : ℤ) → nonzero w x ≡ 0 → nat_abs (residue D w x) ≡ 0
none_left D w x e =
    let product-zero = zero-product D (nat_abs w) (nat_abs x) truth in
    residue-size D w x ∙ ap (λ (p : ℕ). dist (nat_abs w * nat_abs x) p) product-zero ∙ dist-less 0 0 (nat_abs w * nat_abs x) (omega (arith, truth))
  where
    zero_of : (A B : ℕ) → unless_zero A B 1 ≡ 0 → A * B ≡ 0
    zero_of zero B e = omega arith
    zero_of (suc A) zero e = omega arith
    zero_of (suc A) (suc B) e = absurd (omega arith)

    truth : nat_abs w * nat_abs x ≡ 0
    truth = zero_of (nat_abs w) (nat_abs x) e

pub worst-pair : (D : Design) (ws fs : List ℤ) → WorstPair (residues D ws fs) (report D ws fs)
unfolding report residues residue
worst-pair D ws fs =
    record {
      worst = worst-of (residues D ws fs);
      error = rw (sum-minus ◌*ℤ◌ (signed_product D) ws fs) (sum-within (residue D) (largest_size (residues D ws fs)) (none_left D) ws fs (omega arith));
    }
