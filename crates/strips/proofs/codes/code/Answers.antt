-- The code is 159 lower in its exponent field than the raised pattern, and that is 0 for 0 alone.
use Rattle.strips.proofs.FrameCodes.{code_is, code-zero}
use Rattle.strips.proofs.codes.code.Goals as goal

pub returns-then-p-eq0 : goal.returns-then-p-eq0
returns-then-p-eq0 c h z e = code-zero h z _ e c.if-p-eq0.true

pub returns : goal.returns
returns c h z e = code_is h z _ e _ c.if-p-eq0.false c.wrapping_sub_u32.type_inv c.wrapping_sub_u32.ensures.value
