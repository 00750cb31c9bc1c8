-- `put_digits` writes the one digit of a number, or n / 10 and then the last digit.
use Rattle.std.proofs.Common.{arith, rules}
use Rattle.transcripts.proofs.Decimals.{one-digit, more-digits}
use Rattle.transcripts.proofs.Writing.{fit, one, room_at, then_at}
use Rattle.transcripts.proofs.writers.+put_digits.Goals as goal

pub bounds-out-at : goal.bounds-out-at
bounds-out-at t c = omega (arith, rw (one-digit c.args.n c.if-n-lt10.true) at c.requires)

pub put_digits-last-requires : goal.put_digits-last-requires
put_digits-last-requires t c = (omega arith, fit _ (rw (more-digits c.args.n c.if-n-lt10.false) at c.requires))

-- after n / 10 there is room for the last digit
pub bounds-out-last : goal.bounds-out-last
bounds-out-last t c = omega (arith, room_at _ c.put_digits-last.ensures (rw (more-digits c.args.n c.if-n-lt10.false) at c.requires))

pub overflow_add-result-else-n-lt10 : goal.overflow_add-result-else-n-lt10
overflow_add-result-else-n-lt10 t c =
    let last = room_at _ c.put_digits-last.ensures (rw (more-digits c.args.n c.if-n-lt10.false) at c.requires) in search rules

pub returns-then-n-lt10 : goal.returns-then-n-lt10
returns-then-n-lt10 t c = rw (one-digit c.args.n c.if-n-lt10.true) (one _ _ _)

pub returns-else-n-lt10 : goal.returns-else-n-lt10
returns-else-n-lt10 t c = rw (more-digits c.args.n c.if-n-lt10.false) (then_at c.put_digits-last.ensures (one _ _ _))
