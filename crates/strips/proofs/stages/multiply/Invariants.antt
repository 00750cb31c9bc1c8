-- After j turns the first j places have the products of one stage more, and the patterns of what it leaves.
use Rattle.std.proofs.Common.{List, ℤ}
use Rattle.strips.specs.Stages.{Multiplying}
use Rattle.strips.proofs.EachStage.{Stepping}
use Rattle.strips.proofs.stages.multiply.Given as goal

abbrev pub invariant-loop-j : goal.invariant-loop-j
invariant-loop-j l = (row part : List ℤ) → Multiplying l.i row part l.held l.initial.left l.initial.found → Stepping l.i row part l.initial.left l.initial.found l.left l.found l.j
