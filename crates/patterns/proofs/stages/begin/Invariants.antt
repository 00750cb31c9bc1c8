-- After i turns the first i places of both runs have what the first of the stages leaves of their numbers, which is small.
use Rattle.std.proofs.Common.{ℕ, ◌^◌, ◌<◌, ◌≤◌, min, nat_abs}
use Rattle.designs.specs.Signs.{left_ℤ}
use Rattle.patterns.specs.Blocks.{place}
use Rattle.patterns.proofs.Blocks.{Both}
use Rattle.patterns.proofs.stages.begin.Given as goal

abbrev pub invariant-loop-i : goal.invariant-loop-i
invariant-loop-i l =
    let left = left_ℤ (min l.stages 1) in
    Both (λ j. left (place l.weights j)) (λ j. left (place l.frame j)) l.n l.i l.initial.block l.block
    × ((j : ℕ) → j < l.i → (nat_abs (left (place l.weights j)) ≤ 2 ^ 15) × (nat_abs (left (place l.frame j)) ≤ 2 ^ 15))
