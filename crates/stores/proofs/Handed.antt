-- When a part is what `RowPart` asks: an accepted row has an element for each column, and so at least one; the part that stands for
-- a refusal has none.
use mathlib.Core.Path.{◌≡◌}
use mathlib.Core.List.{List}
use Prim.Native.Nat.{ℕ, ◌*◌}
use native.Mathlib.Omega.{arith}
use borrow.Author.Tests.{eq-eqb, ne_eqb}
use lib.IntN.{ℤ}
use lib.ListN.{length}
use denote.Ref.{Bor}
use Rattle.stores.specs.Stores.{store_refusal}
use Rattle.stores.specs.Parts.{Part, RowPart}
use Rattle.stores.proofs.FoundRow.{found}

module _ (store : Bor (List ℤ)) {part : Bor (List ℤ)} (columns row : ℕ) where
  pub row-handed : {start n : ℕ} → store_refusal (length store.now) columns row ≡ 0 → Part store part start n
      → start ≡ row * columns → n ≡ columns → RowPart store part columns row
  row-handed e p s n =
      record {
        lies = rw (eq-eqb _ 0 e, ← s, ← n) p;
        accepted = λ _. omega (arith, p.count, (found (length store.now) columns row e).some);
        refused = λ h. absurd (h e);
      }

  pub nothing-handed : (store_refusal (length store.now) columns row ≡ 0 → ⊥) → Part store part 0 0 → RowPart store part columns row
  nothing-handed h p =
      record {
        lies = rw (ne_eqb _ 0 h) p;
        accepted = λ e. absurd (h e);
        refused = λ _. p.elements;
      }
