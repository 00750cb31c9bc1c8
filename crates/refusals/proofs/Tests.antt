-- The tests that the code makes, as the definitions write them.
use mathlib.Core.Path.{◌≡◌, sym, ◌∙◌}
use Prim.Native.Nat.{ℕ, ◌-◌, ◌≤◌}
use native.Mathlib.Omega.{arith}
use mathlib.Core.Bool.{Bool, true, false, not}
use borrow.Author.Tests.{lt-ltb, le-ltb, le-leb, lt-leb, not-true, not-false}
use lib.Dec.{leb, ltb}
use Rattle.designs.proofs.Cases.{either_lt}

-- below w is at most w − 1
pub below : (s w : ℕ) → 1 ≤ s → ltb s w ≡ leb s (w - 1)
below s w h =
    either_lt s w (λ l. lt-ltb s w l ∙ sym (le-leb s (w - 1) (omega arith))) (λ l. le-ltb s w l ∙ sym (lt-leb s (w - 1) (omega arith)))

-- a test that the code negates: t is what it computes of b
pub fails : {t b : Bool} → t ≡ b → not t ≡ true → b ≡ false
fails {t} e h = sym e ∙ not-true t h

pub holds : {t b : Bool} → t ≡ b → not t ≡ false → b ≡ true
holds {t} e h = sym e ∙ not-false t h
