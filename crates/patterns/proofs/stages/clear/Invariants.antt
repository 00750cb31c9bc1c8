-- After some turns as many of the first numbers are what a stage leaves of them.
use Rattle.designs.specs.Signs.{rest_ℤ}
use Rattle.patterns.specs.Blocks.{Done, place}
use Rattle.patterns.proofs.stages.clear.Given as goal

abbrev pub invariant-loop-x : goal.invariant-loop-x
invariant-loop-x l = Done (λ i. rest_ℤ (place l.initial.numbers i)) l.x-index l.initial.numbers l.numbers
