-- `bits` gives the pattern of any value: every NaN has one pattern, and every other float its own.
use mathlib.Core.Path.{◌≡◌, refl, sym, ap, ◌∙◌}
use mathlib.Core.Bool.{true, false≢true}
use lib.Ieee.{Float, binary32, fin, inf, is_nan, nan, to_bits}
use Rattle.std.specs.Prelude.{ℕ, Result, Ok}
use Rattle.singles.specs.Answers.{bits_of}
use Rattle.singles.proofs.bits.Goals as goal

is-nan : (x : Float) → true ≡ is_nan x → nan ≡ x
unfolding is_nan
is-nan nan e = refl
is-nan (inf s) e = absurd (false≢true (sym e))
is-nan (fin s m e) q = absurd (false≢true (sym q))

module _ {E : Type 0} where
  abbrev given : ℕ → Result ℕ E
  given p = Ok p

  nan-pattern : (x : Float) {p : ℕ} → p ≡ to_bits binary32 nan → true ≡ is_nan x → given p ≡ given (to_bits binary32 x)
  nan-pattern x e is = ap given (e ∙ ap (to_bits binary32) (is-nan x is))

pub returns-then-is_nan : goal.returns-then-is_nan
unfolding to_bits
returns-then-is_nan g c = nan-pattern {E = g.row.E.Denot} c.in_ok-x.x (c.to_bits.ensures ∙ c.nan-nan.ensures) c.if-is_nan.ensures.value ∙ sym (ap bits_of c.in_ok-x.was)
