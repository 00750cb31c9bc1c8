-- Design 1 by patterns: the sum of two codes is a logarithm of the product (`designs` `Codes.scaled`).
use Rattle.std.proofs.Common.{◌≡◌, ℕ, ◌+◌, ◌*◌, ◌%◌, ◌^◌, ◌<◌, ◌≤◌, ℤ, ◌*ℤ◌, nat_abs, ◌∙◌, ap₂, arith}
use Rattle.designs.specs.Codes.{code}
use Rattle.designs.specs.Designs.{formula, mitchell}
use Rattle.designs.specs.Signs.{negative, signed_product}
use Rattle.designs.proofs.Codes.{code_lt, scaled}
use Rattle.patterns.specs.Patterns.{Less, pattern_of}
use Rattle.patterns.proofs.Pair.{less, log-sum, pattern-at}

pub mitchell-less : (w x : ℤ) (r : ℕ) → nat_abs w ≤ 2 ^ 15 → nat_abs x ≤ 2 ^ 15 → r < 2 ^ 32
    → (0 < nat_abs w → 0 < nat_abs x → (r + 127 * 2 ^ 23) % 2 ^ 32 ≡ (pattern_of w + pattern_of x) % 2 ^ 32) → Less (w *ℤ x) r (signed_product mitchell w x)
unfolding formula
mitchell-less w x r hw hx l e =
    let small : code 23 (nat_abs w) + code 23 (nat_abs x) < 2 ^ 30 =
    omega (arith, code_lt 23 (nat_abs w) (omega (arith, hw)), code_lt 23 (nat_abs x) (omega (arith, hx))) in
    less mitchell tt w x hw hx r
    (λ pw px.
    record {
      c = code 23 (nat_abs w) + code 23 (nat_abs x);
      is = log-sum (negative w) (negative x) _ _ r l small (e pw px ∙ ap₂ (λ (p q : ℕ). (p + q) % 2 ^ 32) (pattern-at w pw) (pattern-at x px));
      small = small;
      log = scaled 23 (nat_abs w) (nat_abs x) (omega (arith, hw)) (omega (arith, hx));
    })
