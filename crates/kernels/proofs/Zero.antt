-- The product of a pair that is not split since it holds a zero.
use Rattle.std.proofs.Common.{◌≡◌, refl, sym, ℕ, ◌*◌, Bool, false}
use Rattle.designs.specs.Designs.{Design, product}
use Rattle.designs.proofs.Zeros.{zero-product}

pub zero : (D : Design) (A B : ℕ) → (◌≡◌ {A = Bool} false false → A * B ≡ 0) → 0 ≡ product D A B
zero D A B e = sym (zero-product D A B (e refl))
