-- The loop's invariant: the first j places hold the products, and the later ones what they held.
use Rattle.std.proofs.Common.{◌*ℤ◌}
use Rattle.patterns.specs.Blocks.{Done, place}
use Rattle.blocks.proofs.multiply.Given as goal

abbrev pub invariant-loop-j : goal.invariant-loop-j
invariant-loop-j l = Done (λ k. place l.initial.numbers k *ℤ place l.by k) l.j l.initial.numbers l.numbers
