-- What design 2's kernel computes modulo M = 2^64. The offset r = B − 2^M may wrap, but every multiple of M that it brings in
-- drops out of the sum again, and the product itself is below M; the bit of 2 × x below its leading one says which power is nearest.
use Rattle.std.proofs.Common.{◌≡◌, ℕ, ◌+◌, ◌-◌, ◌*◌, ◌/◌, ◌%◌, ◌^◌, ◌<◌, ◌≤◌, sym, ap, ◌∙◌, mod-eq_of_lt, div-add-mod', arith, pow_pos, le-leb}
use native.Mathlib.Nat.{add-mod-mod, add-mul-div_right, add-mul-mod_self_right, div-eq_of_lt, div-eq_of_lt-le}
use borrow.Author.Tests.{lt-leb}
use lib.Pow.{field, mod-mod-pow}
use Rattle.designs.specs.Designs.{log2, rest, near_power, nearest, formula, product}
use Rattle.designs.proofs.Cases.{either-le}
use Rattle.designs.proofs.Nearest.{at, at-le, near-is, nearest-at}
use Rattle.designs.proofs.Parts.{parts, rest_lt}
use Rattle.designs.proofs.Widths.{product_lt}
use Rattle.designs.proofs.Zeros.{product_is}

-- over any modulus and any powers
wrapped : (M A P B Q r : ℕ) → (r + Q) % M ≡ B → P * Q ≤ A * Q + B * P → at A P B Q < M → (A * Q + r * P % M) % M ≡ at A P B Q
wrapped M A P B Q r e h l =
    add-mod-mod (A * Q) (r * P) M ∙ ap (λ (x : ℕ). x % M) (whole ((r + Q) / M) (div-add-mod' (r + Q) M))
    ∙ add-mul-mod_self_right (at A P B Q) ((r + Q) / M * P) M ∙ mod-eq_of_lt l
  where
    whole : (j : ℕ) → j * M + (r + Q) % M ≡ r + Q → A * Q + r * P ≡ at A P B Q + j * P * M
    whole j f = omega (arith, ap (λ (x : ℕ). x * P) f, ap (λ (x : ℕ). x * P) e)

pub nearest-wrapped : (w A B k m r : ℕ) → 0 < A → 0 < B → A < 2 ^ w → B < 2 ^ w → k ≡ near_power A → m ≡ near_power B
    → (r + 2 ^ m) % 2 ^ (w + w) ≡ B → (A * 2 ^ m + r * 2 ^ k % 2 ^ (w + w)) % 2 ^ (w + w) ≡ product nearest A B
unfolding formula
nearest-wrapped w A B k m r pa pb ha hb ek em e =
    ap (λ (j : ℕ). (A * 2 ^ m + r * 2 ^ j % 2 ^ (w + w)) % 2 ^ (w + w)) ek
    ∙ ap (λ (j : ℕ). (A * 2 ^ j + r * 2 ^ near_power A % 2 ^ (w + w)) % 2 ^ (w + w)) em
    ∙ wrapped (2 ^ (w + w)) A (2 ^ near_power A) B (2 ^ near_power B) r (rw em at e) (at-le (near-is A pa) (near-is B pb))
    (rw is at (product_lt nearest w w A B ha hb)) ∙ sym is
  where
    is : product nearest A B ≡ at A (2 ^ near_power A) B (2 ^ near_power B)
    is = product_is nearest A B pa pb ∙ nearest-at A B pa pb

-- the bit of 2 × x below its leading one
pub lead : (x k : ℕ) → 0 < x → k ≡ log2 x → k + (x + x) / 2 ^ k % 2 ≡ near_power x
unfolding near_power
lead x k h e =
    rw (e, leading)
    (either-le (2 ^ log2 x) (2 * rest x)
    (λ g. let one : rest x * 2 / 2 ^ log2 x ≡ 1 = div-eq_of_lt-le (2 ^ log2 x) (omega arith) (omega (arith, rest_lt x)) in
    simp (one, le-leb (2 ^ log2 x) (2 * rest x) g))
    (λ g. let none : rest x * 2 / 2 ^ log2 x ≡ 0 = div-eq_of_lt (omega arith) in simp (none, lt-leb (2 ^ log2 x) (2 * rest x) g) (omega arith)))
  where
    leading : (x + x) / 2 ^ log2 x ≡ rest x * 2 / 2 ^ log2 x + 2
    leading = ap (λ (y : ℕ). y / 2 ^ log2 x) (omega (arith, parts x h)) ∙ add-mul-div_right (rest x * 2) 2 (pow_pos (log2 x))

-- a bit below 2^w, read modulo 2^w
pub bit-mod : (w n k : ℕ) → k < w → n % 2 ^ w / 2 ^ k % 2 ≡ n / 2 ^ k % 2
bit-mod w n k h =
    ap (λ (j : ℕ). n % 2 ^ j / 2 ^ k % 2) (omega arith) ∙ ap (λ (y : ℕ). y % 2) (field n (w - k - 1 + 1) k) ∙ mod-mod-pow (n / 2 ^ k) (w - k - 1) 1
