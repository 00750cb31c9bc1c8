-- The number's pattern is 16 lower in its exponent field than the one that is moved up.
use Rattle.std.proofs.Common.{◌∙◌, to_z-of_z}
use Rattle.patterns.proofs.Moved.{moved_down}
use Rattle.patterns.proofs.logs.pattern.Goals as goal

pub returns : goal.returns
returns c h =
    moved_down c.args.x c.wrapping_sub_u32.result h c.wrapping_sub_u32.type_inv
    (c.wrapping_sub_u32.ensures.value ∙ (rw (to_z-of_z c.ranges.x) at c.raised.ensures))
