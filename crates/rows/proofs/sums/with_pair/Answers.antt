-- Each sum is below 2^62 in size, and so is what a pair adds to it; so each sum is what the definition adds.
use Rattle.std.proofs.Common.{◌≡◌, ℕ, ◌+◌, ◌-◌, ◌^◌, ◌<◌, ℤ, nat_abs, ◌+ℤ◌, ◌*ℤ◌, ap, ap₂, ◌∙◌, arith, w16, w32, w64, SFits, to_z, of_z, to_z-of_z}
use Rattle.designs.specs.Rows.{nonzero}
use Rattle.designs.proofs.Sizes.{size-add}
use Rattle.pairs.proofs.Integers.{true-size, widened}
use Rattle.signs.proofs.Integers.{read_as, sized}
use Rattle.rows.specs.Worst.{with_residue}
use Rattle.rows.specs.declared.sums.Sums.{Sums}
use Rattle.rows.proofs.SameSums.{same-sums}
use Rattle.rows.proofs.sums.with_pair.Goals as goal

-- two numbers below 2^62 in size, read from their bits, and their sum
read : (a : ℤ) → nat_abs a < 2 ^ 62 → to_z w64 (of_z w64 a) ≡ a
read a h = to_z-of_z (sized a (omega arith))

plus : (a b : ℤ) → nat_abs a < 2 ^ 62 → nat_abs b < 2 ^ 62 → SFits w64 (a +ℤ b)
plus a b h g = sized _ (omega (arith, size-add a b))

-- what the callees give, of the numbers themselves
module _ (c : goal.After-with_residue) where
  abbrev sums : Sums
  sums = c.args.sums

  of_pair : {X : Type 0} {r : X} (q : ℤ → ℤ → X) → r ≡ q (to_z w16 (of_z w16 c.args.w)) (to_z w16 (of_z w16 c.args.x)) → r ≡ q c.args.w c.args.x
  of_pair q e = e ∙ ap₂ q (to_z-of_z c.ranges.w) (to_z-of_z c.ranges.x)

  wide : to_z w64 (of_z w64 (to_z w32 (of_z w32 c.true_product.result))) ≡ c.args.w *ℤ c.args.x
  wide = widened {v = w32} w64 tt (record { sfits = c.true_product.type_inv }) ∙ of_pair ◌*ℤ◌ c.true_product.ensures

  true-is : to_z w64 (of_z w64 sums.true_sum) +ℤ to_z w64 (of_z w64 (to_z w32 (of_z w32 c.true_product.result)))
      ≡ sums.true_sum +ℤ c.args.w *ℤ c.args.x
  true-is = ap₂ ◌+ℤ◌ (read sums.true_sum c.requires.0.true-sum) wide

  error-is : to_z w64 (of_z w64 sums.error) +ℤ to_z w64 (of_z w64 c.args.residue) ≡ sums.error +ℤ c.args.residue
  error-is = ap₂ ◌+ℤ◌ (read sums.error c.requires.0.error) (to_z-of_z c.ranges.residue)

  true-fits : SFits w64 (sums.true_sum +ℤ c.args.w *ℤ c.args.x)
  true-fits = plus sums.true_sum (c.args.w *ℤ c.args.x) c.requires.0.true-sum (omega (arith, true-size c.ranges.w c.ranges.x))

  error-fits : SFits w64 (sums.error +ℤ c.args.residue)
  error-fits = plus sums.error c.args.residue c.requires.0.error c.requires.1

pub returns : goal.returns
returns c =
    same-sums (read_as (true-is c) (true-fits c)) (read_as (error-is c) (error-fits c))
    (ap (λ (k : ℕ). c.args.sums.magnitude_sum + k) (of_pair c (λ w x. nat_abs (w *ℤ x)) c.true_size.ensures))
    (ap (λ (k : ℕ). c.args.sums.zero_pairs + k) (of_pair c (λ w x. 1 - nonzero w x) c.holds_zero.ensures))
    (c.with_residue.ensures ∙ ap (λ (r : ℤ). with_residue c.args.sums.worst r c.args.at) (to_z-of_z c.ranges.residue))
