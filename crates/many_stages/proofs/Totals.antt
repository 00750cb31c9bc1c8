-- Sums of products of which each number has an offset: what the offsets add is taken off. By induction, with an identity of integers that is one of
-- naturals once each is a difference.
use Rattle.std.proofs.Common.{◌≡◌, ℕ, zero, suc, ℤ, pos, ◌+ℤ◌, ◌-ℤ◌, ◌*ℤ◌, refl, ◌∙◌, ap₂, arith}
use Rattle.designs.proofs.Differences.{add-gap, as-gap, Gap, gap-eq, joined-more, mul-gap, neg-gap, whole}
use Rattle.blocks.specs.Counts.{total}

taken-off : (A B X Y w x u v : ℤ)
    → A +ℤ (w +ℤ pos 32769) *ℤ x -ℤ (B +ℤ (u +ℤ pos 2048) *ℤ v) -ℤ ((X +ℤ x) *ℤ pos 32769 -ℤ (Y +ℤ v) *ℤ pos 2048)
    ≡ A -ℤ B -ℤ (X *ℤ pos 32769 -ℤ Y *ℤ pos 2048) +ℤ (w *ℤ x -ℤ u *ℤ v)
taken-off A B X Y w x u v = go (as-gap A) (as-gap B) (as-gap X) (as-gap Y) (as-gap w) (as-gap x) (as-gap u) (as-gap v)
  where
    go : Gap A → Gap B → Gap X → Gap Y → Gap w → Gap x → Gap u → Gap v
        → A +ℤ (w +ℤ pos 32769) *ℤ x -ℤ (B +ℤ (u +ℤ pos 2048) *ℤ v) -ℤ ((X +ℤ x) *ℤ pos 32769 -ℤ (Y +ℤ v) *ℤ pos 2048)
        ≡ A -ℤ B -ℤ (X *ℤ pos 32769 -ℤ Y *ℤ pos 2048) +ℤ (w *ℤ x -ℤ u *ℤ v)
    go (a, a', ea) (b, b', eb) (c, c', ec) (d, d', ed) (e, e', ee) (f, f', ef) (g, g', eg) (h, h', eh) =
        rw (ea, eb, ec, ed, ee, ef, eg, eh, whole 32769, whole 2048) (simp (add-gap, mul-gap, neg-gap) (gap-eq _ _ _ _ (omega arith)))

pub without-offsets : (w x u v p : ℕ → ℤ) → ((k : ℕ) → w k *ℤ x k -ℤ u k *ℤ v k ≡ p k) → (n : ℕ)
    → total (λ k. (w k +ℤ pos 32769) *ℤ x k) n -ℤ total (λ k. (u k +ℤ pos 2048) *ℤ v k) n -ℤ (total x n *ℤ pos 32769 -ℤ total v n *ℤ pos 2048) ≡ total p n
unfolding total
without-offsets w x u v p same zero = refl
without-offsets w x u v p same (suc n) =
    taken-off (total (λ k. (w k +ℤ pos 32769) *ℤ x k) n) (total (λ k. (u k +ℤ pos 2048) *ℤ v k) n) (total x n) (total v n) (w n) (x n) (u n) (v n)
    ∙ ap₂ ◌+ℤ◌ (without-offsets w x u v p same n) (same n)

-- two sums in one
pub joined-total : (f g h : ℕ → ℤ) → ((k : ℕ) → f k *ℤ pos 256 +ℤ g k ≡ h k) → (n : ℕ) → total f n *ℤ pos 256 +ℤ total g n ≡ total h n
unfolding total
joined-total f g h same zero = refl
joined-total f g h same (suc n) = joined-more 256 (total f n) (total g n) (f n) (g n) ∙ ap₂ ◌+ℤ◌ (joined-total f g h same n) (same n)
