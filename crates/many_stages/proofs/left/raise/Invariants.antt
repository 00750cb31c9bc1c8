-- After j turns the first j places have the patterns of what is made of as many numbers, which have 16 bits.
use Rattle.std.proofs.Common.{◌≡◌, ℕ, ◌^◌, ◌<◌, length, ℤ}
use lib.Signed.{mag}
use Rattle.patterns.specs.Blocks.{place}
use Rattle.many_stages.proofs.Patterned.{Raising}
use Rattle.many_stages.proofs.left.raise.Given as goal

abbrev pub invariant-loop-j : goal.invariant-loop-j
invariant-loop-j g l =
    (h : ℤ → ℤ) → ((x y : ℤ) → mag x < 2 ^ 15 → goal.F-post g l.f x y → y ≡ h x)
    → Raising (length l.initial.left) (λ k. h (place l.numbers k)) l.initial.left l.left l.j × ((k : ℕ) → k < l.j → mag (place l.numbers k) < 2 ^ 15)
