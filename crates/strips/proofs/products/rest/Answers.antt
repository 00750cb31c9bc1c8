-- The difference of the two floats is that of what is left, whose pattern it has.
use Rattle.std.proofs.Common.{◌≡◌, ℕ, ◌^◌, ◌≤◌, not, T, ℤ, nat_abs, ap, ◌∙◌, ap₂, arith}
use lib.Ieee.{binary32, is_nan, of_bits, sub, to_bits}
use lib.Ieee.Bits.{nan_bits_is}
use Rattle.patterns.specs.Patterns.{power_of, raised_of}
use Rattle.patterns.proofs.Rests.{no_nan, power_small, rest-bits, rest-no-nan}
use Rattle.strips.proofs.products.rest.Goals as goal

-- a number's pattern is none of no number
a-number : (z : ℤ) (p : ℕ) → nat_abs z ≤ 2 ^ 15 → p ≡ raised_of z → T (not (is_nan (of_bits binary32 p)))
a-number z p l e = rw e (no_nan z (omega (arith, l)))

-- both patterns are those of the number and of its leading power
floats : (z : ℤ) (p q : ℕ) → p ≡ raised_of z → q ≡ raised_of (power_of 0 z)
    → sub binary32 (of_bits binary32 p) (of_bits binary32 q)
    ≡ sub binary32 (of_bits binary32 (raised_of z)) (of_bits binary32 (raised_of (power_of 0 z)))
floats z p q e f = ap₂ (λ (p q : ℕ). sub binary32 (of_bits binary32 p) (of_bits binary32 q)) e f

pub float_from_bits-result : goal.float_from_bits-result
float_from_bits-result c = rw (nan_bits_is binary32 c.args.p) (a-number c.requires.0 c.args.p c.requires.1 c.requires.2)

pub float_from_bits-result-2 : goal.float_from_bits-result-2
float_from_bits-result-2 c =
    let z = c.requires.0 in
    rw (nan_bits_is binary32 c.lead.result)
    (a-number (power_of 0 z) c.lead.result (power_small z c.requires.1) (c.lead.ensures z c.requires.1 c.requires.2))

pub float_to_bits-result : goal.float_to_bits-result
float_to_bits-result c =
    let z = c.requires.0 in
    rw (floats z c.args.p c.lead.result c.requires.2 (c.lead.ensures z c.requires.1 c.requires.2)) (rest-no-nan z c.requires.1)

pub returns : goal.returns
returns c z l e = ap (to_bits binary32) (floats z c.args.p c.lead.result e (c.lead.ensures z l e)) ∙ rest-bits z l
