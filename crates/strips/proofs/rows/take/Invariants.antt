-- After so many turns as many places have what they counted for with the sums of their rows over the strip.
use Rattle.strips.specs.Strips.{Room}
use Rattle.strips.proofs.EachRow.{Going}
use Rattle.strips.proofs.rows.take.Given as goal

abbrev pub invariant-loop-score : goal.invariant-loop-score
invariant-loop-score g l =
    Room l.from l.initial.scores → Going (g.D.ByCodes.design l.design) l.columns l.from l.weights l.part l.initial.scores l.scores l.at l.score-index
