-- A number less its leading power, whose pattern the callee gives, is what a stage leaves.
use Rattle.std.proofs.Common.{◌≡◌, ℕ, ◌^◌, ◌≤◌, ℤ, nat_abs, ap, ◌∙◌, arith}
use Rattle.patterns.specs.Patterns.{power_of, raised_of}
use Rattle.patterns.proofs.ExponentField.{rest_of}
use Rattle.patterns.proofs.Rests.{power_small}
use Rattle.many_stages.specs.Strips.{Raised}
use Rattle.many_stages.proofs.powers.rest.Goals as goal

number : {p : ℕ} (z : ℤ) → nat_abs z ≤ 2 ^ 15 → p ≡ raised_of z → Raised z p
number z l e = record { small = omega (arith, l); pattern = e }

power : {p : ℕ} (z : ℤ) → nat_abs z ≤ 2 ^ 15 → p ≡ raised_of (power_of 0 z) → Raised (power_of 0 z) p
power z l e = record { small = omega (arith, power_small z l); pattern = e }

pub less-requires : goal.less-requires
less-requires c =
    let z = c.requires.0 in
    let l = c.requires.1 in
    (z, power_of 0 z, number z l c.requires.2, power z l (c.lead.ensures z l c.requires.2))

pub returns : goal.returns
returns c z l e = c.less.ensures z (power_of 0 z) (number z l e) (power z l (c.lead.ensures z l e)) ∙ ap raised_of (rest_of z l)
