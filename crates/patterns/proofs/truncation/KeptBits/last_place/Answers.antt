-- 2^23 / 2^t is 2^(23−t).
use Rattle.std.proofs.Common.{ℕ, ◌-◌, ◌/◌, ◌^◌, ap, ◌∙◌, mul-div_cancel, arith, pow_pos}
use Rattle.designs.proofs.Parts.{up_to}
use Rattle.patterns.proofs.truncation.KeptBits.last_place.Goals as goal

pub returns : goal.returns
returns c = let t = c.args.self.count in ap (λ (n : ℕ). n / 2 ^ t) (up_to 23 t (omega arith)) ∙ mul-div_cancel (2 ^ (23 - t)) (pow_pos t)
