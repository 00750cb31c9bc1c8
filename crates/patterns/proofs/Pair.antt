-- The pattern of a pair's product. A logarithm of the design's product, with the sign that both numbers give, stands for the signed
-- product, and a masked zero for 0; the difference to the true product is the residue, of at most 31 bits.
use Rattle.std.proofs.Common.{◌≡◌, ℕ, zero, suc, ◌+◌, ◌*◌, ◌%◌, ◌^◌, ◌<◌, ◌≤◌, Bool, true, false, ℤ, pos, negsuc, ◌-ℤ◌, ◌*ℤ◌, nat_abs, sym, refl, ap, ◌∙◌, ap₂, mul-le-mul, arith, w32, SFits, to_z, of_z}
use lib.Ieee.{unlike}
use lib.Signed.{mag}
use Rattle.designs.specs.Codes.{code, scaled_product}
use Rattle.designs.specs.Designs.{Design, KeepsBit, formula, product, unless_zero}
use Rattle.designs.specs.Signs.{negative, residue, signed_product, with_sign}
use Rattle.designs.proofs.Distance.{within-dist}
use Rattle.designs.proofs.Sizes.{sign-dist, size-sign, size-true, true-is}
use Rattle.designs.proofs.Widths.{size-lt}
use Rattle.designs.proofs.Zeros.{product_is, zero-product}
use Rattle.patterns.specs.Patterns.{Less, log_pattern, pattern_of, Stands}
use Rattle.pairs.proofs.Counting.{both}
use Rattle.pairs.proofs.Integers.{read_back, sized}
use Rattle.patterns.proofs.Values.{nothing, stands}

no_sign : (s : Bool) → with_sign s 0 ≡ pos 0
no_sign true = refl
no_sign false = refl

-- c is the logarithm of a design's product of two sizes
pub record Log (D : Design) (w x : ℤ) (p : ℕ) : Type 0 where
  pub c : ℕ
  pub is : p ≡ log_pattern (unlike (negative w) (negative x)) c
  pub small : c < 2 ^ 30
  pub log : scaled_product 23 c ≡ 2 ^ 23 * formula D (nat_abs w) (nat_abs x)

module _ (D : Design) (k : KeepsBit D) (w x : ℤ) (hw : nat_abs w ≤ 2 ^ 15) (hx : nat_abs x ≤ 2 ^ 15) where
  abbrev A : ℕ
  A = nat_abs w

  abbrev B : ℕ
  B = nat_abs x

  abbrev sign : Bool
  sign = unlike (negative w) (negative x)

  pub product-size : product D A B < 2 ^ 31
  product-size = size-lt D k 15 A B hw hx

  pub product-fits : SFits w32 (signed_product D w x)
  unfolding signed_product
  product-fits = sized (signed_product D w x) (omega (arith, product-size, size-sign sign (product D A B)))

  pub residue-size : nat_abs (residue D w x) < 2 ^ 31
  unfolding residue signed_product
  residue-size =
      rw (true-is w x, sign-dist sign (A * B) (product D A B))
      (omega (
        arith,
        within-dist 1 2147483647 (A * B) (product D A B)
            (record { above = omega (arith, mul-le-mul hw hx); below = omega (arith, product-size) }),
      ))

  pub residue-fits : SFits w32 (residue D w x)
  residue-fits = sized (residue D w x) residue-size

  pub less : (p : ℕ) → (0 < A → 0 < B → Log D w x p) → Less (w *ℤ x) p (signed_product D w x)
  unfolding residue signed_product
  less p f = record { stands = go (nat_abs (w *ℤ x)) (size-true w x); small = residue-size }
    where
      some : 0 < A → 0 < B → Stands p (signed_product D w x)
      some pa pb =
          let l = f pa pb in
          rw (l.is, product_is D A B pa pb)
          (stands sign l.c (formula D A B) l.small l.log (omega (arith, product-size, product_is D A B pa pb)))

      go : (n : ℕ) → n ≡ A * B → Stands (unless_zero n 1 p) (signed_product D w x)
      go zero e = rw (zero-product D A B (sym e), no_sign sign) nothing
      go (suc n) e = let b = both A B n (sym e) in some b.0 b.1

-- a true product less the design's, read back from a callee's result
pub residue-is : (D : Design) (w x : ℤ) {r z : ℤ} → mag r < 2 ^ 31 → r ≡ z -ℤ signed_product D w x → z ≡ w *ℤ x → to_z w32 (of_z w32 r) ≡ residue D w x
unfolding residue
residue-is D w x ok e truth = read_back ok e ∙ ap (λ (z : ℤ). z -ℤ signed_product D w x) truth

-- a number with a sign has that sign, but for 0, of which nothing is taken off
same_sign : (s : Bool) (n p : ℕ) → (n ≡ 0 → p ≡ 0) → with_sign (negative (with_sign s n)) p ≡ with_sign s p
same_sign false n p h = refl
same_sign true zero p h = rw (h refl) refl
same_sign true (suc n) p h = refl

-- a true product less the design's size, with the true product's sign
pub less-size-is : (D : Design) (w x : ℤ) {z : ℤ} {n : ℕ} → z ≡ w *ℤ x → n ≡ product D (nat_abs w) (nat_abs x)
    → z -ℤ with_sign (negative z) n ≡ residue D w x
unfolding residue signed_product
less-size-is D w x {z} {n} truth size =
    ap₂ (λ (y : ℤ) (p : ℕ). y -ℤ with_sign (negative y) p) truth size
    ∙ ap (λ (y : ℤ). w *ℤ x -ℤ y)
    (ap (λ (y : ℤ). with_sign (negative y) (product D (nat_abs w) (nat_abs x))) (true-is w x)
    ∙ same_sign (unlike (negative w) (negative x)) (nat_abs w * nat_abs x) (product D (nat_abs w) (nat_abs x)) (zero-product D (nat_abs w) (nat_abs x)))

-- the sum of two patterns less that of 1, modulo 2^32
pub log-sum : (s t : Bool) (a b r : ℕ) → r < 2 ^ 32 → a + b < 2 ^ 30
    → (r + 127 * 2 ^ 23) % 2 ^ 32 ≡ (log_pattern s a + log_pattern t b) % 2 ^ 32 → r ≡ log_pattern (unlike s t) (a + b)
log-sum false false a b r l h e = omega arith
log-sum false true a b r l h e = omega arith
log-sum true false a b r l h e = omega arith
log-sum true true a b r l h e = omega arith

pub pattern-at : (x : ℤ) → 0 < nat_abs x → pattern_of x ≡ log_pattern (negative x) (code 23 (nat_abs x))
unfolding pattern_of
pattern-at (pos zero) p = absurd (omega arith)
pattern-at (pos (suc n)) p = refl
pattern-at (negsuc n) p = refl
