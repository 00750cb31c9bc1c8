-- A number of 16 bits in two bytes. 128 more, divided by 256 and rounded down, is the quotient to the nearest whole number, so that what it
-- leaves is at most 128 to either side.
use Rattle.std.proofs.Common.{◌≡◌, suc, ◌+◌, ◌-◌, ◌*◌, ◌/◌, ◌^◌, ◌<◌, ◌≤◌, true, false, ℤ, pos, negsuc, ◌+ℤ◌, ◌-ℤ◌, ◌*ℤ◌, nat_abs, ap, ◌∙◌, arith}
use lib.IntN.{+ℤ_comm, +ℤ_idr, -ℤ-+ℤ_cancel}
use lib.Signed.{mag, shr_z}
use Rattle.designs.proofs.Cases.{by-lt}
use Rattle.designs.proofs.Distance.{within-dist}
use Rattle.designs.proofs.Sizes.{sign-dist}
use Rattle.many_stages.specs.Powers.{high_byte, low_byte}

pub bytes : (z : ℤ) → high_byte z *ℤ pos 256 +ℤ low_byte z ≡ z
bytes z = +ℤ_comm (high_byte z *ℤ pos 256) (low_byte z) ∙ -ℤ-+ℤ_cancel z (high_byte z *ℤ pos 256)

pub high_small : (z : ℤ) → mag z < 2 ^ 15 → nat_abs (high_byte z) ≤ 2 ^ 7
high_small (pos n) l = omega arith
high_small (negsuc n) l = by-lt (λ (y : ℤ). nat_abs (shr_z y (2 ^ 8)) ≤ 2 ^ 7) 128 (suc n) (λ h. omega arith) (λ h. omega arith)

pub low_small : (z : ℤ) → mag z < 2 ^ 15 → nat_abs (low_byte z) ≤ 2 ^ 7
low_small (pos n) l =
    let q = (n + 128) / 256 in
    omega (arith, sign-dist false n (q * 256), within-dist 1 128 n (q * 256) (record { above = omega arith; below = omega arith }))
low_small (negsuc n) l =
    by-lt (λ (y : ℤ). nat_abs (negsuc n -ℤ shr_z y (2 ^ 8) *ℤ pos 256) ≤ 2 ^ 7) 128 (suc n)
    (λ h. let m = suc ((suc n - 129) / 256) * 256 in
    omega (arith, sign-dist true (suc n) m, within-dist 1 128 (suc n) m (record { above = omega arith; below = omega arith })))
    (λ h. let none : (128 - suc n) / 256 * 256 ≡ 0 = omega arith in rw none (omega (arith, ap nat_abs (+ℤ_idr (negsuc n)))))
