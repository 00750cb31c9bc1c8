-- After j turns the first j places have the codes of as many patterns.
use Rattle.std.proofs.Common.{ℕ, List, length, ℤ}
use Rattle.designs.specs.Signs.{left_ℤ}
use Rattle.patterns.specs.Blocks.{place}
use Rattle.strips.specs.Codes.{code_of}
use Rattle.strips.specs.Stages.{Left}
use Rattle.strips.proofs.EachStage.{Filled}
use Rattle.strips.proofs.stages.codes_of.Given as goal

abbrev pub invariant-loop-j : goal.invariant-loop-j
invariant-loop-j l =
    (i : ℕ) (numbers : List ℤ) → Left i (length l.left) numbers l.left → Filled (λ k. code_of (left_ℤ i (place numbers k))) l.j l.initial.held l.held
