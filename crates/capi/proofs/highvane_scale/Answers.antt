-- The struct is that of the outcome.
use lib.Ieee.{of_bits}
use Rattle.std.proofs.Common.{refl, to_z-of_z}
use Rattle.capi.proofs.LaidOut.{scaled-laid}
use Rattle.capi.proofs.highvane_scale.Goals as goal

pub returns : goal.returns
unfolding of_bits
returns c = scaled-laid _ refl (simp (to_z-of_z, c.ranges.score) at c.scale.ensures.outcome) c.laid-refusal.ensures
