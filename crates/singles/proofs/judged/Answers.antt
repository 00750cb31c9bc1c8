-- `judged` makes the tests of `result_refusals` with the bias on the other side.
use Rattle.std.proofs.Common.{◌-◌, ◌∙◌, arith}
use borrow.Author.Tests.{le-ltb, lt-ltb}
use Rattle.singles.specs.Singles.{result_outcome}
use Rattle.singles.proofs.judged.Goals as goal

pub returns-then-fields : goal.returns-then-fields
unfolding result_outcome
returns-then-fields c = simp (lt-ltb 254 (c.args.fields.exponent - 127) (omega arith))

pub returns-then-fields-2 : goal.returns-then-fields-2
unfolding result_outcome
returns-then-fields-2 c =
    let exponent = c.args.fields.exponent in
    simp (le-ltb 254 (exponent - 127) (omega arith), lt-ltb (exponent - 127) 1 (omega arith))

pub returns : goal.returns
unfolding result_outcome
returns c =
    let exponent = c.args.fields.exponent in
    c.value.ensures ∙ simp (le-ltb 254 (exponent - 127) (omega arith), le-ltb (exponent - 127) 1 (omega arith))
