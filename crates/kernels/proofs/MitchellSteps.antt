-- What design 1's kernel adds up. With s of docs/SCOPE.md, which is below 2 × 2^(k+m), A × 2^m is 2^(k+m) more than its part of s; and
-- nothing passes 4 × 2^(k+m), which is at most 2^(2w).
use Rattle.std.proofs.Common.{◌≡◌, ℕ, ◌+◌, ◌*◌, ◌^◌, ◌<◌, ◌≤◌, max, sym, ap, ◌∙◌, subst₂, mul-le-mul_right, mul-le-mul, arith, pow-add}
use Rattle.designs.specs.Designs.{log2, rest, by_mitchell, mitchell, product, formula}
use Rattle.designs.proofs.Carried.{carried-greater}
use Rattle.designs.proofs.Parts.{parts, rest_lt, log2-double}
use Rattle.designs.proofs.Zeros.{product_is}

pub record Sum (w A B k m : ℕ) : Type 0 where
  pub whole : A * 2 ^ m + rest B * 2 ^ k ≡ 2 ^ (k + m) + (rest A * 2 ^ m + rest B * 2 ^ k)
  pub small : rest A * 2 ^ m + rest B * 2 ^ k < 2 * 2 ^ (k + m)
  pub room : 4 * 2 ^ (k + m) ≤ 2 ^ (w + w)
  pub is : max (2 ^ (k + m) + (rest A * 2 ^ m + rest B * 2 ^ k)) (rest A * 2 ^ m + rest B * 2 ^ k + (rest A * 2 ^ m + rest B * 2 ^ k))
      ≡ product mitchell A B

pub sum : (w A B k m : ℕ) → 0 < A → 0 < B → A < 2 ^ w → B < 2 ^ w → k ≡ log2 A → m ≡ log2 B → Sum w A B k m
unfolding formula by_mitchell
sum w A B k m pa pb ha hb ek em =
    subst₂ (Sum w A B) (sym ek) (sym em)
    (record { whole = whole; small = small; room = room; is = carried-greater (2 ^ (log2 A + log2 B)) _ ∙ sym (product_is mitchell A B pa pb) })
  where
    whole : A * 2 ^ log2 B + rest B * 2 ^ log2 A ≡ 2 ^ (log2 A + log2 B) + (rest A * 2 ^ log2 B + rest B * 2 ^ log2 A)
    whole = rw (pow-add 2 (log2 A) (log2 B)) (omega (arith, ap (λ (x : ℕ). x * 2 ^ log2 B) (parts A pa)))

    small : rest A * 2 ^ log2 B + rest B * 2 ^ log2 A < 2 * 2 ^ (log2 A + log2 B)
    small =
        rw (pow-add 2 (log2 A) (log2 B))
        (omega (arith, mul-le-mul_right (2 ^ log2 B) (rest_lt A), mul-le-mul_right (2 ^ log2 A) (rest_lt B), rest_lt A, rest_lt B))

    room : 4 * 2 ^ (log2 A + log2 B) ≤ 2 ^ (w + w)
    room = rw (pow-add 2 (log2 A) (log2 B), pow-add 2 w w) (omega (arith, mul-le-mul (log2-double w A pa ha) (log2-double w B pb hb)))
