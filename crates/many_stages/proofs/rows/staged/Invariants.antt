-- After so many turns as many places have what they counted for with the sums of their rows over the strip.
use Rattle.designs.specs.Designs.{staged}
use Rattle.strips.specs.Strips.{Room}
use Rattle.strips.proofs.EachRow.{Going}
use Rattle.many_stages.proofs.rows.staged.Given as goal

abbrev pub invariant-loop-score : goal.invariant-loop-score
invariant-loop-score l =
    Room l.from l.initial.scores → Going (staged l.stages.count) l.columns l.from l.weights l.part l.initial.scores l.scores l.at l.score-index
