-- A bound c × |residue| ≤ d × |product| + e × [no zero] on each pair is the same bound on the row, by induction on its pairs:
-- the size of a sum is at most the sum of the sizes.
use mathlib.Core.Path.{◌≡◌, refl, ap, ◌∙◌}
use Prim.Native.Nat.{ℕ, ◌+◌, ◌*◌, ◌≤◌}
use native.Mathlib.Nat.{mul-le-mul_left}
use native.Mathlib.Omega.{arith}
use mathlib.Core.List.{List, [], ◌∷◌}
use lib.IntN.{ℤ, nat_abs, ◌+ℤ◌, ◌-ℤ◌}
use Rattle.designs.specs.Rows.{pairwise, sum_ℤ, sum}
use Rattle.designs.proofs.Sizes.{size-add, cross}

pub sum-minus : (f g : ℤ → ℤ → ℤ) (ws fs : List ℤ)
    → sum_ℤ (pairwise f ws fs) -ℤ sum_ℤ (pairwise g ws fs) ≡ sum_ℤ (pairwise (λ w x. f w x -ℤ g w x) ws fs)
unfolding pairwise sum_ℤ
sum-minus f g [] fs = refl
sum-minus f g (w ∷ ws) [] = refl
sum-minus f g (w ∷ ws) (x ∷ fs) =
    cross (f w x) (sum_ℤ (pairwise f ws fs)) (g w x) (sum_ℤ (pairwise g ws fs)) ∙ ap (λ (z : ℤ). (f w x -ℤ g w x) +ℤ z) (sum-minus f g ws fs)

pub sum_bound : (r : ℤ → ℤ → ℤ) (t n : ℤ → ℤ → ℕ) (c d e : ℕ) → ((w x : ℤ) → c * nat_abs (r w x) ≤ d * t w x + e * n w x) → (ws fs : List ℤ)
    → c * nat_abs (sum_ℤ (pairwise r ws fs)) ≤ d * sum (pairwise t ws fs) + e * sum (pairwise n ws fs)
unfolding pairwise sum_ℤ sum
sum_bound r t n c d e h [] fs = omega arith
sum_bound r t n c d e h (w ∷ ws) [] = omega arith
sum_bound r t n c d e h (w ∷ ws) (x ∷ fs) =
    omega (arith, h w x, sum_bound r t n c d e h ws fs, mul-le-mul_left c (size-add (r w x) (sum_ℤ (pairwise r ws fs))))
