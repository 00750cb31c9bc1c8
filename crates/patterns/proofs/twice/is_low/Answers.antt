-- The kept fractions and the carry, each at its place, are S there, which is below 2^23 where S < 2^t.
use Rattle.std.proofs.Common.{◌≡◌, ℕ, ◌+◌, ◌^◌, ltb, sym, ap, ◌∙◌, arith}
use Rattle.designs.proofs.Truncated.{moved, moved-below, moved-lt}
use Rattle.pairs.proofs.Counting.{size_none, size-some}
use Rattle.patterns.proofs.SecondStage.{low-some, low-zero}
use Rattle.patterns.proofs.twice.is_low.Goals as goal

pub overflow_add-sum : goal.overflow_add-sum
overflow_add-sum c = record { fits = omega (arith, moved-lt 23 c.args.t.count c.args.a c.args.b (omega arith)) }

pub overflow_add-sum-2 : goal.overflow_add-sum-2
overflow_add-sum-2 c = record { fits = omega (arith, moved-lt 23 c.args.t.count c.args.a c.args.b (omega arith)) }

pub returns-then-z-eq0 : goal.returns-then-z-eq0
returns-then-z-eq0 c = sym (low-zero c.args.t.count c.args.a c.args.b (sym c.requires.truth ∙ size_none c.args.z c.ranges.z c.if-z-eq0.true))

pub returns : goal.returns
returns c =
    let sum : c.fraction.result + c.fraction-2.result + c.last_place.result ≡ moved 23 c.args.t.count c.args.a c.args.b = omega arith in
    let n = size-some c.args.z c.if-z-eq0.false in
    ap (λ (n : ℕ). ltb n (2 ^ 23)) sum ∙ moved-below 23 c.args.t.count c.args.a c.args.b (omega arith)
    ∙ sym (low-some c.args.t.count c.args.a c.args.b (omega (arith, n.1)))
