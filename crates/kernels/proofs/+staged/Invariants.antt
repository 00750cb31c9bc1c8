-- The number of stages falls at each call.
use Rattle.kernels.proofs.+staged.Given as goal

abbrev pub decreases-staged : goal.decreases-staged
decreases-staged l = l.stages
