-- The product by codes is design 1, for any number h of code bits. The sum of two codes is 2^h × (k + m) + u, where u is s of design 1
-- scaled by 2^h / 2^(k+m); so (2^h + R) × 2^Q goes by the same two cases and is 2^h times the product of design 1.
use mathlib.Core.Path.{◌≡◌, sym, ap, ap₂, ◌∙◌}
use Prim.Native.Nat.{ℕ, zero, suc, ◌+◌, ◌-◌, ◌*◌, ◌/◌, ◌%◌, ◌^◌, ◌≤◌, ◌<◌}
use native.Mathlib.Nat.{add-mul-div_right, add-mul-mod_self_right, add-sub_of_le, mul-div_cancel_left, mul-le-mul_left, mul-le-mul_right, mul-mod_right}
use native.Mathlib.Omega.{arith}
use borrow.Author.Tests.{lt-ltb, le-ltb}
use lib.Arith.{digits_div, digits_mod}
use lib.Pow.{pow_pos, pow-add}
use Rattle.designs.specs.Designs.{log2, rest, unless_zero, by_mitchell, mitchell, formula, product}
use Rattle.designs.specs.Codes.{code, scaled_product, by_codes}
use Rattle.designs.proofs.Cases.{either_lt}
use Rattle.designs.proofs.Parts.{parts, rest_lt, log2-below, up_to}
use Rattle.designs.proofs.Carried.{carried, carried-scale}
use Rattle.designs.proofs.Zeros.{product_is}

-- q is the quotient and u the rest
pub scaled_at : (h q u : ℕ) → u < 2 ^ h → scaled_product h (q * 2 ^ h + u) ≡ (2 ^ h + u) * 2 ^ q
unfolding scaled_product
scaled_at h q u l = ap₂ (λ (x y : ℕ). (2 ^ h + x) * 2 ^ y) (digits_mod q l) (digits_div q l)

-- e more in the quotient is a factor 2^e
pub scaled-higher : (h e c : ℕ) → scaled_product h (c + e * 2 ^ h) ≡ scaled_product h c * 2 ^ e
unfolding scaled_product
scaled-higher h e c =
    ap₂ (λ (x y : ℕ). (2 ^ h + x) * 2 ^ y) (add-mul-mod_self_right c e (2 ^ h)) (add-mul-div_right c e (pow_pos h))
    ∙ rw (pow-add 2 (c / 2 ^ h) e) (omega arith)

-- where u reaches 2^h, one goes over into the quotient
pub scaled-carried : (h q u : ℕ) → u < 2 * 2 ^ h → scaled_product h (q * 2 ^ h + u) ≡ 2 ^ q * carried (2 ^ h) u
scaled-carried h q u l =
    either_lt u (2 ^ h)
    (λ g. scaled_at h q u g ∙ simp (lt-ltb u (2 ^ h) g) (omega arith))
    (λ g. ap (scaled_product h) (omega arith) ∙ scaled_at h (q + 1) (u - 2 ^ h) (omega arith)
    ∙ simp (le-ltb u (2 ^ h) g, add-sub_of_le g, pow-add 2 q 1) (omega arith))

-- the fraction of a code, a × 2^(h−k)
abbrev pub fraction : ℕ → ℕ → ℕ
fraction h v = rest v * 2 ^ (h - log2 v)

pub fraction-lt : (h v : ℕ) → log2 v ≤ h → fraction h v < 2 ^ h
fraction-lt h v l = omega (arith, up_to h (log2 v) l, mul-le-mul_right (2 ^ (h - log2 v)) (rest_lt v), pow_pos (h - log2 v))

pub log2-le-bits : (h v : ℕ) → v < 2 ^ suc h → log2 v ≤ h
unfolding log2
log2-le-bits h zero l = omega arith
log2-le-bits h (suc v) l = omega (arith, log2-below (suc h) (suc v) (omega arith) l)

pub code_lt : (h v : ℕ) → v < 2 ^ suc h → code h v < 2 ^ h * suc h
unfolding code
code_lt h v l = let k = log2-le-bits h v l in omega (arith, fraction-lt h v k, mul-le-mul_left (2 ^ h) k)

module _ (h A B : ℕ) (ha : A < 2 ^ suc h) (hb : B < 2 ^ suc h) where
  abbrev X : ℕ
  X = 2 ^ (log2 A + log2 B)

  abbrev s : ℕ
  s = rest A * 2 ^ log2 B + rest B * 2 ^ log2 A

  abbrev u : ℕ
  u = fraction h A + fraction h B

  u-lt : u < 2 * 2 ^ h
  u-lt = omega (arith, fraction-lt h A (log2-le-bits h A ha), fraction-lt h B (log2-le-bits h B hb))

  u-scaled : X * u ≡ 2 ^ h * s
  u-scaled =
      rw (pow-add 2 (log2 A) (log2 B))
      (omega (
        arith,
        ap (λ (x : ℕ). x * (rest A * 2 ^ log2 B)) (up_to h (log2 A) (log2-le-bits h A ha)),
        ap (λ (x : ℕ). x * (rest B * 2 ^ log2 A)) (up_to h (log2 B) (log2-le-bits h B hb)),
      ))

  pub scaled : scaled_product h (code h A + code h B) ≡ 2 ^ h * by_mitchell A B
  unfolding code by_mitchell
  scaled =
      ap (scaled_product h) (omega arith)
      ∙ scaled-carried h (log2 A + log2 B) u u-lt
      ∙ carried-scale X (2 ^ h) u (pow_pos (log2 A + log2 B))
      ∙ ap₂ carried (omega arith) u-scaled
      ∙ sym (carried-scale (2 ^ h) X s (pow_pos h))

  -- the division by 2^h leaves no rest
  pub codes-whole : scaled_product h (code h A + code h B) % 2 ^ h ≡ 0
  codes-whole = rw scaled (mul-mod_right (2 ^ h) (by_mitchell A B))

  quotient : scaled_product h (code h A + code h B) / 2 ^ h ≡ by_mitchell A B
  quotient = rw scaled (mul-div_cancel_left (by_mitchell A B) (pow_pos h))

  pub codes-mitchell : by_codes h A B ≡ product mitchell A B
  unfolding by_codes product
  codes-mitchell = ap (unless_zero A B) quotient

  pub nonzero-codes-mitchell : 0 < A → 0 < B → scaled_product h (code h A + code h B) / 2 ^ h ≡ product mitchell A B
  unfolding formula
  nonzero-codes-mitchell pa pb = quotient ∙ sym (product_is mitchell A B pa pb)

-- one code gives back its number
pub code-scaled : (h v : ℕ) → 0 < v → v < 2 ^ suc h → scaled_product h (code h v) ≡ 2 ^ h * v
unfolding code
code-scaled h v p l =
    let k = log2-le-bits h v l in
    ap (scaled_product h) (omega arith) ∙ scaled_at h (log2 v) (fraction h v) (fraction-lt h v k)
    ∙ omega (arith, ap (λ (x : ℕ). x * rest v) (up_to h (log2 v) k), ap (λ (x : ℕ). 2 ^ h * x) (parts v p))
