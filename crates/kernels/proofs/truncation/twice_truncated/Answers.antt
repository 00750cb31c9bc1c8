-- The product by design 4, and the product by design 4 with two kept bits of what is left; their sum is a product, so it fits.
use Rattle.std.proofs.Common.{◌≡◌, ℕ, ◌+◌, ◌^◌, ◌<◌, Bool, min, nat_lt, sym, ap, ◌∙◌, ap₂, arith}
use Rattle.designs.specs.Designs.{left_over, product, total_below, truncated, twice_truncated}
use Rattle.designs.proofs.TwiceTruncated.{twice-is}
use Rattle.designs.proofs.Widths.{product_lt}
use Rattle.designs.proofs.Truncated.{moved-below}
use Rattle.kernels.proofs.Zero.{zero}
use Rattle.kernels.proofs.truncation.twice_truncated.Goals as goal

pub returns-in_default : goal.returns-in_default
returns-in_default c = zero (twice_truncated _) _ _ c.in_default.ensures.none

module _ (c : goal.After-truncated) where
  abbrev A : ℕ
  A = c.in-Some.a.value

  abbrev B : ℕ
  B = c.in-Some.b.value

  abbrev t : ℕ
  t = min c.args.kept_bits 31

  low_is : nat_lt c.kept_sum-s.result (2 ^ 31) ≡ total_below t A B
  low_is = let u = c.kept_sum-s.ensures in ap (λ (s : ℕ). nat_lt s (2 ^ 31)) u.is ∙ moved-below 31 t A B u.few

  second : c.truncated.result ≡ product (truncated 2) (left_over (total_below t A B) A) (left_over (total_below t A B) B)
  second =
      c.truncated.ensures
      ∙ ap₂ (product (truncated 2)) (c.left_over.ensures ∙ ap (λ (low : Bool). left_over low A) low_is)
      (c.left_over-2.ensures ∙ ap (λ (low : Bool). left_over low B) low_is)

  both : c.moved_down.result + c.truncated.result ≡ product (twice_truncated t) A B
  both =
      ap₂ ◌+◌ (c.moved_down.ensures t c.kept_sum-s.ensures) second
      ∙ sym (twice-is t A B c.in-Some.a.split.some c.in-Some.b.split.some)

pub overflow_add-result : goal.overflow_add-result
overflow_add-result c =
    let (ea, eb) = c.in-Some.ensures.some in
    let a : A c < 2 ^ 32 = omega (arith, c.ranges.a.fits) in
    let b : B c < 2 ^ 32 = omega (arith, c.ranges.b.fits) in
    record { fits = rw (both c) (product_lt (twice_truncated (t c)) 32 32 (A c) (B c) a b) }

pub returns : goal.returns
returns c = let (ea, eb) = c.in-Some.ensures.some in both c ∙ ap₂ (product (twice_truncated (t c))) ea eb
