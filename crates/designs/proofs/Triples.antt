-- A number is three times a power of two exactly when its fraction is a half: 2 × a = 2^k.
use mathlib.Core.Path.{◌≡◌, sym, ap, subst}
use Prim.Native.Nat.{ℕ, zero, suc, ◌+◌, ◌*◌, ◌^◌, ◌<◌}
use native.Mathlib.Omega.{arith}
use lib.Pow.{pow_pos}
use Rattle.designs.specs.Designs.{log2, rest}
use Rattle.designs.specs.Demand.{ThreeTimesPower}
use Rattle.designs.proofs.Parts.{parts, log2-is}

pub triple→half : (n : ℕ) → ThreeTimesPower n → 2 * rest n ≡ 2 ^ log2 n
unfolding ThreeTimesPower
triple→half n (j, e) = omega (arith, ap (λ (k : ℕ). 2 ^ k) exponent, parts n positive)
  where
    positive : 0 < n
    positive = omega (arith, pow_pos j)

    exponent : log2 n ≡ suc j
    exponent = log2-is n (suc j) (omega arith) (omega (arith, pow_pos j))

pub half→triple : (n : ℕ) → 0 < n → 2 * rest n ≡ 2 ^ log2 n → ThreeTimesPower n
unfolding ThreeTimesPower
half→triple n h e = subst (λ (x : ℕ). (j : ℕ) × (x ≡ 3 * 2 ^ j)) (sym (parts n h)) (whole (log2 n) (rest n) e)
  where
    whole : (k a : ℕ) → 2 * a ≡ 2 ^ k → (j : ℕ) × (2 ^ k + a ≡ 3 * 2 ^ j)
    whole zero a e = absurd (omega arith)
    whole (suc k) a e = (k, omega arith)
