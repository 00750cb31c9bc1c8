-- A row that goes pair by pair, by any design: with the residue of the next pair a turn can be made, and after all pairs the row is
-- complete.
use mathlib.Core.Path.{◌≡◌, refl, ap, ap₂, ◌∙◌}
use Prim.Native.Nat.{ℕ, ◌+◌, ◌^◌, ◌≤◌, ◌<◌}
use native.Mathlib.Omega.{arith}
use mathlib.Core.List.{List}
use lib.IntN.{ℤ}
use lib.ListN.{length}
use lib.Signed.{mag}
use mir.Syntax.{w16, w32}
use mir.Val.{to_z, of_z}
use mir.Facts.{to_z-of_z}
use Rattle.designs.specs.Designs.{Design}
use Rattle.designs.specs.Signs.{residue}
use Rattle.pairs.proofs.Integers.{read_back}
use Rattle.patterns.specs.Blocks.{place}
use Rattle.blocks.specs.Residues.{of_pair}
use Rattle.rows.specs.Answers.{Ready}
use Rattle.rows.specs.Totals.{Complete, Going, Reached, Turnable}
use Rattle.rows.specs.declared.sums.Sums.{Sums}

-- what a turn asks of the next pair, as it is read, and of its residue, as a callee gives it
abbrev pub NextPair : Design → List ℤ → List ℤ → List ℤ → List ℤ → ℕ → Sums → ℤ → Type 0
NextPair D ws fs before after at s r =
    Turnable (of_pair (residue D) ws fs) ws fs before after at s (to_z w16 (of_z w16 (place ws at))) (to_z w16 (of_z w16 (place fs at))) (to_z w32 (of_z w32 r))

-- the row that a turn asks for
pub asked : {z : ℕ → ℤ} {ws fs before after : List ℤ} {at : ℕ} {s : Sums} {w x r : ℤ} → Turnable z ws fs before after at s w x r
    → (y : ℕ → ℤ) × ((us : List ℤ) × ((vs : List ℤ) × ((places : List ℤ) × Turnable y us vs places after at s w x r)))
asked ok = (_, (_, (_, (_, ok))))

module _ {D : Design} {ws fs before : List ℤ} where
  pub on : {after : List ℤ} {at : ℕ} {s : Sums} → at < length ws → Reached (of_pair (residue D) ws fs) ws fs before after (at + 1) s → Going D ws fs before after (at + 1) s
  on h reached = record { inside = omega arith; reached = reached }

  pub gone : {after : List ℤ} {at : ℕ} {s : Sums} → Going D ws fs before after at s → length ws ≤ at → Complete D ws fs before after s
  gone {at = at} so_far h = let end : length ws ≡ at = omega (arith, so_far.inside) in rw end so_far.reached

  -- with the residue by a design that has another name too
  pub next-as : {E : Design} → E ≡ D → {after : List ℤ} {at : ℕ} {s : Sums} {r : ℤ} → Ready D ws fs before → Going D ws fs before after at s → at < length ws → mag (place ws at) < 2 ^ 15
      → mag (place fs at) < 2 ^ 15 → mag r < 2 ^ 31 → r ≡ residue E (to_z w16 (of_z w16 (place ws at))) (to_z w16 (of_z w16 (place fs at))) → NextPair D ws fs before after at s r
  next-as {E} same {at = at} ready so_far h hw hx hr e =
      let w : to_z w16 (of_z w16 (place ws at)) ≡ place ws at = to_z-of_z {w = w16} (record { sfits = hw }) in
      let x : to_z w16 (of_z w16 (place fs at)) ≡ place fs at = to_z-of_z {w = w16} (record { sfits = hx }) in
      record {
        reached = so_far.reached;
        few = omega (arith, ready.pairs);
        room = omega (arith, ready.places);
        weight = w;
        number = x;
        is = read_back hr (e ∙ ap₂ (residue E) w x ∙ ap (λ (X : Design). of_pair (residue X) ws fs at) same);
      }

  pub next : {after : List ℤ} {at : ℕ} {s : Sums} {r : ℤ} → Ready D ws fs before → Going D ws fs before after at s → at < length ws → mag (place ws at) < 2 ^ 15 → mag (place fs at) < 2 ^ 15
      → mag r < 2 ^ 31 → r ≡ residue D (to_z w16 (of_z w16 (place ws at))) (to_z w16 (of_z w16 (place fs at))) → NextPair D ws fs before after at s r
  next = next-as refl
