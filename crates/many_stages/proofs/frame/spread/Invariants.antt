-- After i turns the codes of i powers of each number are at their places.
use Rattle.std.proofs.Common.{◌≡◌, ℕ, ◌≤◌, List, length, ℤ}
use Rattle.many_stages.proofs.FrameStrip.{Spreading}
use Rattle.many_stages.proofs.frame.spread.Given as goal

abbrev pub invariant-loop-i : goal.invariant-loop-i
invariant-loop-i l =
    (1 ≤ l.i) × (l.i ≤ l.m)
    × ((n : ℕ) (f : ℕ → ℤ) (before : List ℕ) → length l.initial.left ≡ n → Spreading l.at n f before l.initial.left l.initial.held 1 → Spreading l.at n f before l.left l.held l.i)
