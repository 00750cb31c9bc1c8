-- The code is 159 lower in its exponent field than the raised pattern.
use Rattle.std.proofs.Common.{arith}
use Rattle.designs.specs.Codes.{code}
use Rattle.strips.proofs.FrameCodes.{code_is, raised-some}
use Rattle.many_stages.proofs.powers.code.Goals as goal

pub returns : goal.returns
returns c z some e =
    code_is (code 23) z _ e _ (λ n. omega (arith, n, e, raised-some (code 23) z some)) c.wrapping_sub_u32.type_inv c.wrapping_sub_u32.ensures.value
