-- A raised pattern is 0 for 0 alone, of which 1 is taken.
use Rattle.std.proofs.Common.{◌≡◌, ℕ, zero, suc, ◌*◌, ◌^◌, ◌<◌, false, ℤ, pos, negsuc, nat_abs, sym, ap, ◌∙◌, arith}
use Rattle.designs.specs.Codes.{code}
use Rattle.designs.specs.Signs.{with_sign}
use Rattle.patterns.specs.Patterns.{raised_of}
use Rattle.patterns.proofs.ExponentField.{raised-power}
use Rattle.patterns.proofs.Moved.{raised-none}
use Rattle.strips.proofs.FrameCodes.{raised-some}
use Rattle.many_stages.specs.Powers.{next_power}
use Rattle.many_stages.proofs.NextPowers.{next-is, taken_none}
use Rattle.many_stages.proofs.powers.first_power.Goals as goal

one : (z : ℤ) → raised_of z ≡ 0 → 143 * 2 ^ 23 ≡ raised_of (next_power z)
one (pos zero) e = sym (ap raised_of (next-is (pos 0) ∙ ap (with_sign false) taken_none) ∙ raised-power false 0)
one (pos (suc n)) e = absurd (omega (arith, e, raised-some (code 23) (pos (suc n)) (omega arith)))
one (negsuc n) e = absurd (omega (arith, e, raised-some (code 23) (negsuc n) (omega arith)))

there : (z : ℤ) → (raised_of z ≡ 0 → ⊥) → 0 < nat_abs z
there z h = go (nat_abs z) (λ e. h (raised-none (code 23) z e))
  where
    go : (n : ℕ) → (n ≡ 0 → ⊥) → 0 < n
    go zero g = absurd (g (omega arith))
    go (suc n) g = omega arith

pub returns-then-p-eq0 : goal.returns-then-p-eq0
returns-then-p-eq0 c z l e = one z (sym e ∙ c.if-p-eq0.true)

pub returns : goal.returns
returns c z l e = c.beyond-power.ensures z (there z (λ n. c.if-p-eq0.false (e ∙ n))) l e
