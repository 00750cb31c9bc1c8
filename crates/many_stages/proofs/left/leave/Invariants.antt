-- After so many turns the patterns are those of what as many times four stages leave, and then of what so many stages more leave.
use Rattle.std.proofs.Common.{◌≡◌, ℕ, ◌+◌, ◌*◌, ◌/◌, length, ℤ}
use Rattle.designs.specs.Signs.{left_ℤ}
use Rattle.many_stages.specs.Strips.{Patterned}
use Rattle.many_stages.proofs.left.leave.Given as goal

abbrev pub invariant-loop-fours : goal.invariant-loop-fours
invariant-loop-fours l = (n : ℕ) (f : ℕ → ℤ) → length l.initial.left ≡ n → Patterned n f l.initial.left → Patterned n (λ k. left_ℤ (4 * l._fours) (f k)) l.left

abbrev pub invariant-loop-ones : goal.invariant-loop-ones
invariant-loop-ones l =
    (n : ℕ) (f : ℕ → ℤ) → length l.fn.left ≡ n → Patterned n f l.fn.left → Patterned n (λ k. left_ℤ (4 * (l.fn.stages.count / 4) + l._ones) (f k)) l.left
