-- Design 1 is within a ninth: what it falls short by, a × b or its carried counterpart, is at most a ninth of (P + a) × (Q + b),
-- and exactly a ninth where both fractions are a half.
use mathlib.Core.Path.{◌≡◌, sym, ap, ◌∙◌, subst₂}
use mathlib.Core.Logic.{◌↔◌}
use Prim.Native.Nat.{ℕ, ◌+◌, ◌-◌, ◌*◌, ◌^◌, ◌≤◌, ◌<◌}
use native.Mathlib.Nat.{add-sub_of_le, le_of_lt}
use native.Mathlib.Omega.{arith}
use Rattle.designs.specs.Designs.{log2, rest, by_mitchell}
use Rattle.designs.specs.Demand.{ThreeTimesPower}
use Rattle.designs.proofs.Cases.{by-lt}
use Rattle.designs.proofs.Distance.{dist, dist-less, Within, within-less}
use Rattle.designs.proofs.Mitchell.{at, high-short, low-short, mitchell-at}
use Rattle.designs.proofs.Parts.{parts, rest_lt}
use Rattle.designs.proofs.Squares.{low-bound, high-bound, high-equal}
use Rattle.designs.proofs.Triples.{triple→half, half→triple}

-- a claim on the design over P and Q: without a carry, and with one, where P = a + c and Q = b + d
by-carry : (R : ℕ → ℕ → ℕ → Type 0) (P a Q b : ℕ) → a < P → b < Q
    → (a * Q + b * P < P * Q → R P Q (P * Q + (a * Q + b * P)))
    → ((c d : ℕ) → 0 < a + c → 0 < b + d → (a + c) * (b + d) ≤ a * (b + d) + b * (a + c) → R (a + c) (b + d) (2 * (a * (b + d) + b * (a + c))))
    → R P Q (at P a Q b)
by-carry R P a Q b ha hb low high =
    by-lt (R P Q) (a * Q + b * P) (P * Q) low
    (subst₂ (λ (x y : ℕ). x * y ≤ a * y + b * x → R x y (2 * (a * y + b * x))) (add-sub_of_le (le_of_lt ha)) (add-sub_of_le (le_of_lt hb))
    (high (P - a) (Q - b) (omega arith) (omega arith)))

pub at-within : (P a Q b : ℕ) → a < P → b < Q → Within 9 ((P + a) * (Q + b)) ((P + a) * (Q + b)) (at P a Q b)
at-within P a Q b ha hb =
    by-carry (λ P Q y. Within 9 ((P + a) * (Q + b)) ((P + a) * (Q + b)) y) P a Q b ha hb
    (λ h. within-less 9 _ _ (a * b) _ (low-short P a Q b) (le_of_lt (low-bound P a Q b h)))
    (λ c d p q h. within-less 9 _ _ (c * d) _ (high-short a c b d) (high-bound a c b d p q h))

at-equal : (P a Q b : ℕ) → a < P → b < Q → 9 * dist ((P + a) * (Q + b)) (at P a Q b) ≡ (P + a) * (Q + b) → (2 * a ≡ P) × (2 * b ≡ Q)
at-equal P a Q b ha hb =
    by-carry (λ P Q y. 9 * dist ((P + a) * (Q + b)) y ≡ (P + a) * (Q + b) → (2 * a ≡ P) × (2 * b ≡ Q)) P a Q b ha hb
    (λ h e. absurd (omega (arith, low-bound P a Q b h, dist-less (P * Q + (a * Q + b * P)) (a * b) _ (low-short P a Q b))))
    (λ c d p q h e. halves c d (high-equal a c b d p q h (ap (λ (z : ℕ). 9 * z) (sym (dist-less _ (c * d) _ (high-short a c b d))) ∙ e)))
  where
    halves : (c d : ℕ) → (a ≡ c) × (b ≡ d) → (2 * a ≡ a + c) × (2 * b ≡ b + d)
    halves c d (e, f) = (omega arith, omega arith)

at-halves : (a b : ℕ) → 9 * dist ((2 * a + a) * (2 * b + b)) (at (2 * a) a (2 * b) b) ≡ (2 * a + a) * (2 * b + b)
at-halves a b =
    by-lt (λ (y : ℕ). 9 * dist ((2 * a + a) * (2 * b + b)) y ≡ (2 * a + a) * (2 * b + b)) (a * (2 * b) + b * (2 * a)) (2 * a * (2 * b))
    (λ h. absurd (omega arith))
    (λ h. omega (arith, dist-less (2 * (a * (2 * b) + b * (2 * a))) (a * b) ((2 * a + a) * (2 * b + b)) (omega arith)))

module _ (A B : ℕ) (ha : 0 < A) (hb : 0 < B) where
  -- a claim on the operands and the product, from the claim on their parts
  by_parts : (R : ℕ → ℕ → ℕ → Type 0) → R (2 ^ log2 A + rest A) (2 ^ log2 B + rest B) (at (2 ^ log2 A) (rest A) (2 ^ log2 B) (rest B)) → R A B (by_mitchell A B)
  by_parts R h = rw (mitchell-at A B) (subst₂ (λ (x y : ℕ). R x y (at (2 ^ log2 A) (rest A) (2 ^ log2 B) (rest B))) (sym (parts A ha)) (sym (parts B hb)) h)

  pub mitchell-within : Within 9 (A * B) (A * B) (by_mitchell A B)
  mitchell-within =
      by_parts (λ x y p. Within 9 (x * y) (x * y) p) (at-within (2 ^ log2 A) (rest A) (2 ^ log2 B) (rest B) (rest_lt A) (rest_lt B))

  pub mitchell-equal : (9 * dist (A * B) (by_mitchell A B) ≡ A * B) ↔ (ThreeTimesPower A × ThreeTimesPower B)
  mitchell-equal = (there, λ t. back t.0 t.1)
    where
      there : 9 * dist (A * B) (by_mitchell A B) ≡ A * B → ThreeTimesPower A × ThreeTimesPower B
      there =
          by_parts (λ x y p. 9 * dist (x * y) p ≡ x * y → ThreeTimesPower A × ThreeTimesPower B)
          (λ e. let h = at-equal (2 ^ log2 A) (rest A) (2 ^ log2 B) (rest B) (rest_lt A) (rest_lt B) e in
          (half→triple A ha h.0, half→triple B hb h.1))

      back : ThreeTimesPower A → ThreeTimesPower B → 9 * dist (A * B) (by_mitchell A B) ≡ A * B
      back s t =
          by_parts (λ x y p. 9 * dist (x * y) p ≡ x * y)
          (subst₂ (λ (P Q : ℕ). 9 * dist ((P + rest A) * (Q + rest B)) (at P (rest A) Q (rest B)) ≡ (P + rest A) * (Q + rest B))
          (triple→half A s) (triple→half B t) (at-halves (rest A) (rest B)))
