-- What the offsets of weights add, as the code adds it up: each number of the machine is the integer that it stands for, since none is large.
--
use Rattle.std.proofs.Common.{◌≡◌, ℕ, ◌+◌, ◌*◌, ◌^◌, ◌<◌, ◌≤◌, ℤ, pos, ◌+ℤ◌, ◌-ℤ◌, ◌*ℤ◌, neg_ℤ, nat_abs, sym, ap, ap₂, mul-le-mul_right, arith, w32, w64, SFits, to_z, of_z}
use lib.Signed.{mag}
use Rattle.designs.proofs.Differences.{add-gap, as-gap, Gap, gap-eq, mul-gap, whole}
use Rattle.designs.proofs.Sizes.{size-add, size-neg, size-true}
use Rattle.pairs.proofs.Integers.{read_back}
use Rattle.signs.proofs.Integers.{fits-as, read_as, sized}
use Rattle.blocks.specs.Counts.{total}
use Rattle.many_stages.proofs.Patterned.{sum-size}

-- a stands for z, which is at most b
pub record Stands (a z : ℤ) (b : ℕ) : Type 0 where
  pub is : a ≡ z
  pub small : nat_abs z ≤ b

-- what fits stands for itself, once it is read back
read : {a z : ℤ} {b : ℕ} → Stands a z b → SFits w64 a → Stands (to_z w64 (of_z w64 a)) z b
read s h = record { is = read_as s.is (fits-as (sym s.is) h); small = s.small }

fits : {a z : ℤ} {b : ℕ} → Stands a z b → b < 2 ^ 63 → SFits w64 a
fits {z = z} s l = fits-as s.is (sized z (omega (arith, s.small)))

module _ {a z : ℤ} {b : ℕ} (s : Stands a z b) where
  times : (m : ℕ) → Stands (a *ℤ pos m) (z *ℤ pos m) (b * m)
  times m = record { is = ap (λ (y : ℤ). y *ℤ pos m) s.is; small = omega (arith, size-true z (pos m), mul-le-mul_right m s.small) }

  pub times-fits : (m : ℕ) → b * m < 2 ^ 63 → SFits w64 (a *ℤ pos m)
  times-fits m l = fits (times m) l

  pub times-is : (m : ℕ) → b * m < 2 ^ 63 → Stands (to_z w64 (of_z w64 (a *ℤ pos m))) (z *ℤ pos m) (b * m)
  times-is m l = read (times m) (times-fits m l)

module _ {a z a' z' : ℤ} {b b' : ℕ} (s : Stands a z b) (s' : Stands a' z' b') (l : b + b' < 2 ^ 63) where
  plus : Stands (a +ℤ a') (z +ℤ z') (b + b')
  plus = record { is = ap₂ ◌+ℤ◌ s.is s'.is; small = omega (arith, size-add z z', s.small, s'.small) }

  pub plus-fits : SFits w64 (a +ℤ a')
  plus-fits = fits plus l

  pub plus-is : Stands (to_z w64 (of_z w64 (a +ℤ a'))) (z +ℤ z') (b + b')
  plus-is = read plus plus-fits

  less : Stands (a -ℤ a') (z -ℤ z') (b + b')
  less = record { is = ap₂ ◌-ℤ◌ s.is s'.is; small = omega (arith, size-add z (neg_ℤ z'), size-neg z', s.small, s'.small) }

  pub less-fits : SFits w64 (a -ℤ a')
  less-fits = fits less l

  pub less-is : Stands (to_z w64 (of_z w64 (a -ℤ a'))) (z -ℤ z') (b + b')
  less-is = read less less-fits

-- a sum, as a callee gives it, in a wider number
module _ (f : ℕ → ℤ) {n : ℕ} {r : ℤ} (few : n ≤ 128) (small : (k : ℕ) → k < n → mag (f k) < 2 ^ 15) (narrow : mag r < 2 ^ 31) (e : r ≡ total f n) where
  sum : Stands (to_z w32 (of_z w32 r)) (total f n) (2 ^ 22)
  sum = record { is = read_back narrow e; small = sum-size f small few }

  pub sum_fits : SFits w64 (to_z w32 (of_z w32 r))
  sum_fits = fits sum (omega arith)

  pub sum_is : Stands (to_z w64 (of_z w64 (to_z w32 (of_z w32 r)))) (total f n) (2 ^ 22)
  sum_is = read sum sum_fits

pub once_more : (z : ℤ) → z *ℤ pos 32768 +ℤ z ≡ z *ℤ pos 32769
once_more z = go (as-gap z)
  where
    go : Gap z → z *ℤ pos 32768 +ℤ z ≡ z *ℤ pos 32769
    go (a, b, e) = rw (e, whole 32768, whole 32769) (simp (add-gap, mul-gap) (gap-eq _ _ _ _ (omega arith)))
