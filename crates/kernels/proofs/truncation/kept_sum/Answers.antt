-- `kept_sum` masks both kept fractions, and adds them and the carry of 1.
use Rattle.std.proofs.Common.{◌≡◌, ℕ, ◌+◌, ◌-◌, ◌*◌, ◌^◌, ◌≤◌, min, ap, ◌∙◌, ap₂, arith, bit_and}
use Rattle.designs.specs.Designs.{kept}
use Rattle.kernels.specs.Steps.{Split}
use Rattle.kernels.proofs.TruncatedSteps.{kept-is}
use Rattle.kernels.proofs.truncation.kept_sum.Goals as goal

-- so masked, an operand that is moved up by its headroom is its kept fraction
masked : {x log rest : ℕ} → Split x log rest → (k t last : ℕ) {n : ℕ} → k + log ≡ 31 → n ≡ x * 2 ^ k → t ≤ 31 → last ≡ 2 ^ (31 - t)
    → bit_and n (2 ^ 31 - last) ≡ kept t x * 2 ^ (31 - t)
masked {x} split k t last p e h is = ap₂ bit_and e (ap (λ (y : ℕ). 2 ^ 31 - y) is) ∙ kept-is 31 x k t split.some (omega (arith, split.log)) h

pub returns : goal.returns
returns c =
    let t = min c.args.kept_bits 31 in
    let few : t ≤ 31 = omega arith in
    let last : c.power-last.result ≡ 2 ^ (31 - t) = c.power-last.ensures ∙ ap (λ (n : ℕ). 2 ^ (31 - n)) c.min.ensures in
    record {
      few = few;
      is =
          ap₂ ◌+◌
          (ap₂ ◌+◌ (masked c.args.a.split _ t _ c.headroom.ensures c.shifted.ensures few last)
          (masked c.args.b.split _ t _ c.headroom-2.ensures c.shifted-2.ensures few last))
          last ∙ omega arith;
    }
