-- Read two places higher the sum is whole, and its last two bits are cut.
use Rattle.std.proofs.Common.{◌≡◌, ℕ, ◌/◌, pos, nat_abs, ap, ◌∙◌, arith, w32, to_z, of_z}
use Rattle.pairs.proofs.Integers.{read_back}
use Rattle.patterns.proofs.SecondStage.{Raised}
use Rattle.strips.specs.Codes.{SecondLogs}
use Rattle.strips.proofs.PairProducts.{second-stands}
use Rattle.strips.proofs.products.second_stage.Goals.{After-unless_zero, After-whole}
use Rattle.strips.proofs.products.second_stage.Goals as goal

at : (c : After-unless_zero) {A B : ℕ} → SecondLogs A B c.args.p c.args.q → Raised A B c.unless_zero.result
at c l = rw (c.unless_zero.ensures, c.wrapping_add_u32-higher.ensures.value, c.wrapping_add_u32.ensures.value) (second-stands l)

raised : (c : After-whole) {A B : ℕ} → SecondLogs A B c.args.p c.args.q → Raised A B c.unless_zero.result
raised c l = at (goal.at.returns c).After-unless_zero l

is : (c : After-whole) {A B : ℕ} (l : SecondLogs A B c.args.p c.args.q) → to_z w32 (of_z w32 c.whole.result) ≡ pos (raised c l).m
is c l = read_back c.whole.type_inv (c.whole.ensures _ (raised c l).stands)

pub whole-requires : goal.whole-requires
whole-requires c = (_, (at c c.requires.2).stands)

pub overflow_cast-result : goal.overflow_cast-result
overflow_cast-result c = let l = c.requires.2 in rw (is c l) (tt, record { fits = omega (arith, (raised c l).stands.small) })

pub returns : goal.returns
returns c A B l = ap (λ z. nat_abs z / 4) (is c l) ∙ (raised c l).is
