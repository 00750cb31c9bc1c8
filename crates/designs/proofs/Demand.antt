-- The third demand holds of every report. Each design bounds the residue of one pair by c × |residue| ≤ d × |product| + e × [no zero],
-- `RowSums.sum_bound` carries that to the row at once for all designs, and a row of one pair is that pair. Design 5 promises no
-- fraction, so its coefficients are 0.
use mathlib.Core.Path.{◌≡◌, refl, sym, ap, ap₂, ◌∙◌, subst, subst₂}
use Prim.Native.Nat.{ℕ, zero, suc, ◌+◌, ◌*◌, ◌^◌, ◌≤◌, ◌<◌}
use native.Mathlib.Omega.{arith}
use mathlib.Core.List.{List, [], ◌∷◌}
use lib.Ieee.{unlike}
use lib.IntN.{ℤ, nat_abs, ◌-ℤ◌, ◌*ℤ◌, +ℤ_idr}
use Rattle.designs.specs.Designs.{Design, mitchell, nearest, staged, truncated, twice_truncated, unless_zero, formula, product, by_mitchell, by_stages, by_truncation, left}
use Rattle.designs.specs.Signs.{negative, signed_product, residue}
use Rattle.designs.specs.Rows.{report, pairwise, sum_ℤ, sum, nonzero}
use Rattle.designs.specs.Demand.{Demand, Bounded, Met}
use Rattle.designs.proofs.Coefficients.{bounded, c, d, e}
use Rattle.designs.proofs.Distance.{dist, dist-less, within-dist, within-less}
use Rattle.designs.proofs.MitchellBound.{mitchell-within, mitchell-equal}
use Rattle.designs.proofs.NearestBound.{nearest-bound, nearest-equal}
use Rattle.designs.proofs.RowSums.{sum-minus, sum_bound}
use Rattle.designs.proofs.Sizes.{sign-dist, size-true, true-is}
use Rattle.designs.proofs.Staged.{left-bound, stages-leave}
use Rattle.designs.proofs.TruncatedBound.{truncated-within}
use Rattle.designs.proofs.Zeros.{by_zero, product_is}

-- one pair of magnitudes
formula-bound : (D : Design) (A B : ℕ) → 0 < A → 0 < B → c D * dist (A * B) (formula D A B) ≤ d D * (A * B) + e D
unfolding formula
formula-bound mitchell A B ha hb = omega (arith, within-dist 9 (A * B) (A * B) (by_mitchell A B) (mitchell-within A B ha hb))
formula-bound nearest A B ha hb = omega (arith, nearest-bound A B ha hb)
formula-bound (staged s) A B ha hb =
    omega (
      arith,
      within-dist (4 ^ s) (A * B) (A * B) (by_stages s A B)
          (within-less (4 ^ s) (A * B) (by_stages s A B) (left s A * left s B) (A * B) (stages-leave s A B) (left-bound s A B)),
    )
formula-bound (truncated t) A B ha hb = within-dist (9 * 2 ^ t) _ (A * B) (by_truncation t A B) (truncated-within t A B ha hb)
formula-bound (twice_truncated t) A B ha hb = omega arith

pair-bound : (D : Design) (A B : ℕ) → c D * dist (A * B) (product D A B) ≤ d D * (A * B) + e D * unless_zero A B 1
pair-bound D =
    by_zero D (λ A B p. c D * dist (A * B) p ≤ d D * (A * B) + e D * unless_zero A B 1)
    (λ B. omega (arith, ap (λ (r : ℕ). c D * r) (none (0 * B) (omega arith))))
    (λ A. omega (arith, ap (λ (r : ℕ). c D * r) (none (A * 0) (omega arith))))
    (λ A B ha hb. subst (λ (o : ℕ). c D * dist (A * B) (formula D A B) ≤ d D * (A * B) + e D * o) (sym (one A B ha hb)) (omega (arith, formula-bound D A B ha hb)))
  where
    none : (x : ℕ) → x ≡ 0 → dist x 0 ≡ 0
    none x h = dist-less 0 0 x (omega arith)

    one : (A B : ℕ) → 0 < A → 0 < B → unless_zero A B 1 ≡ 1
    one zero B ha hb = absurd (omega arith)
    one (suc A) zero ha hb = absurd (omega arith)
    one (suc A) (suc B) ha hb = refl

-- one pair of integers: its residue has the size of its magnitudes' residue
pub residue-size : (D : Design) (x y : ℤ) → nat_abs (residue D x y) ≡ dist (nat_abs x * nat_abs y) (product D (nat_abs x) (nat_abs y))
unfolding residue signed_product
residue-size D x y =
    rw (true-is x y) (sign-dist (unlike (negative x) (negative y)) (nat_abs x * nat_abs y) (product D (nat_abs x) (nat_abs y)))

signed-bound : (D : Design) (x y : ℤ) → c D * nat_abs (residue D x y) ≤ d D * nat_abs (x *ℤ y) + e D * nonzero x y
signed-bound D x y = rw (residue-size D x y, size-true x y) (pair-bound D (nat_abs x) (nat_abs y))

-- a row
row-bound : (D : Design) (ws fs : List ℤ)
    → c D * nat_abs (report D ws fs).error ≤ d D * (report D ws fs).magnitude_sum + e D * (report D ws fs).nonzero_pairs
unfolding report residue
row-bound D ws fs =
    rw (sum-minus ◌*ℤ◌ (signed_product D) ws fs)
    (sum_bound (residue D) (λ w x. nat_abs (w *ℤ x)) nonzero (c D) (d D) (e D) (signed-bound D) ws fs)

-- a row of a single pair
single-error : (D : Design) (x y : ℤ) → nat_abs (report D (x ∷ []) (y ∷ [])).error ≡ dist (nat_abs x * nat_abs y) (product D (nat_abs x) (nat_abs y))
unfolding report pairwise sum_ℤ residue
single-error D x y = ap nat_abs (ap₂ (λ (u v : ℤ). u -ℤ v) (+ℤ_idr (x *ℤ y)) (+ℤ_idr (signed_product D x y))) ∙ residue-size D x y

single-sum : (D : Design) (x y : ℤ) → (report D (x ∷ []) (y ∷ [])).magnitude_sum ≡ nat_abs x * nat_abs y
unfolding report pairwise sum
single-sum D x y = omega (arith, size-true x y)

formula-met : (D : Design) (A B : ℕ) → 0 < A → 0 < B → Met D (dist (A * B) (formula D A B)) (A * B) A B
unfolding formula
formula-met mitchell A B h g = mitchell-equal A B h g
formula-met nearest A B h g = nearest-equal A B h g
formula-met (staged s) A B h g = tt
formula-met (truncated t) A B h g = tt
formula-met (twice_truncated t) A B h g = tt

single-met : (D : Design) (x y : ℤ) → 0 < nat_abs x → 0 < nat_abs y
    → Met D (nat_abs (report D (x ∷ []) (y ∷ [])).error) (report D (x ∷ []) (y ∷ [])).magnitude_sum (nat_abs x) (nat_abs y)
single-met D x y h g =
    rw (single-error D x y, single-sum D x y, product_is D (nat_abs x) (nat_abs y) h g) (formula-met D (nat_abs x) (nat_abs y) h g)

pub demand : (D : Design) (ws fs : List ℤ) → Demand D ws fs (report D ws fs)
unfolding report
demand D ws fs =
    record {
      exact = refl;
      bounded = bounded D _ _ _ (row-bound D ws fs);
      met = λ x y p q h g.
          subst₂ (λ us vs. Met D (nat_abs (report D us vs).error) (report D us vs).magnitude_sum (nat_abs x) (nat_abs y)) (sym p) (sym q) (single-met D x y h g);
    }
