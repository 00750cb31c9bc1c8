-- What the kernels of designs 4 and 5 add up, for numbers whose leading bit is moved up to 2^h, and at most h kept bits. The bits from
-- 2^(h−t) to below 2^h are then the kept fraction at that place, so the sum is there what the design carries; and the product is the
-- carried sum, moved up by h more, over 2^(k+m).
use Rattle.std.proofs.Common.{◌≡◌, ℕ, ◌+◌, ◌-◌, ◌*◌, ◌/◌, ◌%◌, ◌^◌, ◌<◌, ◌≤◌, max, sym, ap, ◌∙◌, ap₂, mul_comm, arith, pow_pos, pow-add}
use lib.Bits.{bit_and, and_high}
use lib.Pow.{low}
use Rattle.designs.specs.Designs.{log2, kept, total, truncated, product, formula}
use Rattle.designs.proofs.Carried.{carried, carried-scale, carried-top}
use Rattle.designs.proofs.Parts.{up_to}
use Rattle.designs.proofs.Truncated.{kept-lt, moved, shifted, shift-down, truncation-at}
use Rattle.designs.proofs.Zeros.{product_is}

-- an operand moved up by its headroom k, and masked
pub kept-is : (h x k t : ℕ) → 0 < x → k + log2 x ≡ h → t ≤ h → bit_and (x * 2 ^ k) (2 ^ h - 2 ^ (h - t)) ≡ kept t x * 2 ^ (h - t)
kept-is h x k t p e l =
    ap (λ (j : ℕ). bit_and (x * 2 ^ k) (2 ^ j - 2 ^ (h - t))) (omega arith) ∙ and_high (x * 2 ^ k) t (h - t)
    ∙ ap (λ (y : ℕ). y % 2 ^ t * 2 ^ (h - t)) (moved ∙ omega arith) ∙ ap (λ (y : ℕ). y * 2 ^ (h - t)) (low 1 t (kept-lt t x))
  where
    moved : x * 2 ^ k / 2 ^ (h - t) ≡ 2 ^ t + kept t x
    moved =
        ap (λ (j : ℕ). x * 2 ^ j / 2 ^ (h - t)) (omega arith) ∙ shift-down h t (log2 x) x l (omega arith)
        ∙ ap (λ (y : ℕ). y / 2 ^ log2 x) (mul_comm (2 ^ t) x) ∙ shifted t x p

-- the product, where both operands were moved up by `room` together
module _ (h t A B : ℕ) (ht : t ≤ h) where
  abbrev P : ℕ
  P = 2 ^ (h - t)

  pub moved_down : (room : ℕ) → 0 < A → 0 < B → room + (log2 A + log2 B) ≡ h + h
      → (moved h t A B + max (2 ^ h) (moved h t A B)) * 2 ^ h / 2 ^ room ≡ product (truncated t) A B
  unfolding formula
  moved_down room pa pb powers =
      ap₂ (λ (x y : ℕ). x * 2 ^ h / 2 ^ y) (carried-top (2 ^ h) (moved h t A B) ∙ scaled) (omega arith) ∙ ap (λ (x : ℕ). x / 2 ^ (h + h - e)) raised
      ∙ shift-down (h + h) e t (carried (2 ^ t) (total t A B)) (omega arith) (omega arith)
      ∙ sym (product_is (truncated t) A B pa pb ∙ truncation-at t A B)
    where
      e : ℕ
      e = log2 A + log2 B

      scaled : carried (2 ^ h) (moved h t A B) ≡ carried (2 ^ t) (total t A B) * P
      scaled =
          ap₂ carried (up_to h t ht) (mul_comm (total t A B) P) ∙ sym (carried-scale P (2 ^ t) (total t A B) (pow_pos (h - t)))
          ∙ mul_comm P (carried (2 ^ t) (total t A B))

      further : P * 2 ^ h ≡ 2 ^ (h + h - t)
      further = sym (pow-add 2 (h - t) h) ∙ ap (λ (x : ℕ). 2 ^ x) (omega arith)

      raised : carried (2 ^ t) (total t A B) * P * 2 ^ h ≡ carried (2 ^ t) (total t A B) * 2 ^ (h + h - t)
      raised = omega (arith, ap (λ (x : ℕ). carried (2 ^ t) (total t A B) * x) further)
