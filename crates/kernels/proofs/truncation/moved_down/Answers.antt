-- The sum is below 2^32, so moved up by 31 its carried form still fits, and moved down it is the product.
use Rattle.std.proofs.Common.{ℕ, ◌+◌, ◌*◌, ◌/◌, ◌^◌, ◌<◌, max, ap, ◌∙◌, mod-eq_of_lt, arith}
use Rattle.designs.proofs.Truncated.{moved-lt}
use Rattle.kernels.specs.Steps.{Summed}
use Rattle.kernels.proofs.TruncatedSteps.{moved_down}
use Rattle.kernels.proofs.truncation.moved_down.Goals as goal

small : {t A B s : ℕ} → Summed t A B s → s < 2 ^ 32
small {t} {A} {B} u = omega (arith, u.is, moved-lt 31 t A B u.few)

pub overflow_add-result : goal.overflow_add-result
overflow_add-result c = record { fits = omega (arith, c.max.ensures, small c.requires.1) }

pub returns : goal.returns
returns c t u =
    let room = c.headroom.result + c.headroom-2.result in
    let a = c.args.a.split in
    let b = c.args.b.split in
    ap (λ (x : ℕ). x / 2 ^ room)
    (mod-eq_of_lt (omega (arith, c.max.ensures, small u)) ∙ ap (λ (x : ℕ). (c.args.s + x) * 2 ^ 31) c.max.ensures)
    ∙ ap (λ (s : ℕ). (s + max (2 ^ 31) s) * 2 ^ 31 / 2 ^ room) u.is
    ∙ moved_down 31 t _ _ u.few room a.some b.some (omega (arith, a.log, b.log))
