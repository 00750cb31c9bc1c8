-- After i turns there are the codes of what the stages before leave of the part, and the patterns of what i stages leave.
use Rattle.std.proofs.Common.{length, ◌≡◌}
use Rattle.strips.specs.Codes.{StageCoded}
use Rattle.strips.specs.Stages.{Left}
use Rattle.strips.proofs.stages.coded.Given as goal

abbrev pub invariant-loop-i : goal.invariant-loop-i
invariant-loop-i l = record { size : length l.left ≡ length l.part; coded : StageCoded l.i l.part l.held; walked : Left l.i (length l.part) l.part l.left }
