-- All strips of a frame against all rows, by any design: where the first `from` columns are done, each place counts for the sum of as many
-- products of its row, and a strip brings it on by the strip's.
use Rattle.std.proofs.Common.{◌≡◌, ℕ, zero, suc, ◌+◌, ◌-◌, ◌*◌, ◌^◌, ◌<◌, ◌≤◌, List, length, take, drop, ℤ, pos, ◌+ℤ◌, nat_abs, sym, refl, ap, ◌∙◌, ap₂, add_assoc, arith, length-drop, length-take, get_or-drop, get_or-take, ◌++◌, length-append, drop-drop}
use Rattle.std.proofs.Math.Seq.{drop-append_seam}
use lib.ListN.{get_or-append}
use Rattle.designs.specs.Designs.{Design}
use Rattle.designs.specs.Signs.{signed_product}
use Rattle.patterns.specs.Blocks.{place}
use Rattle.blocks.specs.Counts.{total}
use Rattle.blocks.proofs.Counts.{total-more}
use Rattle.strips.specs.Strips.{framed, product_at, Room, Scored, started, Stripped}
use Rattle.strips.proofs.EachRow.{total-as}

-- a place counts for nothing before the first column is done, and then for what it holds
pub none-started : (from : ℕ) (z : ℤ) → from ≡ 0 → pos 0 ≡ started from z
none-started from z e = rw e refl

pub some-started : (from : ℕ) (z : ℤ) → (from ≡ 0 → ⊥) → z ≡ started from z
some-started zero z e = absurd (e refl)
some-started (suc from) z e = refl

pub holds : (from : ℕ) (z : ℤ) → 0 < from → started from z ≡ z
holds from z h = sym (some-started from z (λ e. omega arith))

-- a part of a frame
abbrev pub part : List ℤ → ℕ → ℕ → List ℤ
part fs from end = take (end - from) (drop from fs)

pub few : (fs : List ℤ) (from end most : ℕ) → end ≤ from + most → length (part fs from end) ≤ most
few fs from end most h = simp (length-take, length-drop) (omega (arith, h))

-- the numbers of a frame that count
abbrev pub counted : List ℤ → List ℤ
counted fs = take (framed fs) fs

-- A part of them, where those before `from` are done and `rest` is left behind it.
module _ (fs p rest : List ℤ) (from : ℕ) (e : p ++ rest ≡ drop from (counted fs)) where
  left_length : length p + length rest ≡ framed fs - from
  left_length = sym (length-append p rest) ∙ ap length e ∙ simp (length-drop, length-take) (omega arith)

  part_at : (k : ℕ) → k < length p → place p k ≡ place fs (from + k)
  part_at k h =
      sym (get_or-append p rest (pos 0) k h) ∙ ap (λ (l : List ℤ). place l k) e ∙ get_or-drop from (counted fs) k (pos 0)
      ∙ get_or-take (framed fs) fs (from + k) (pos 0) (omega (arith, left_length))

  pub after : rest ≡ drop (from + length p) (counted fs)
  after = sym (drop-append_seam p rest) ∙ ap (drop (length p)) e ∙ drop-drop (length p) from (counted fs)

module _ (D : Design) (ws fs before : List ℤ) where
  -- the products of the row of place r
  abbrev pub products : ℕ → ℕ → ℤ
  products r = product_at D ws (r * length fs) fs

  -- what the loop keeps where the columns before `from` are done, and `rest` is left
  pub record Going (scores : List ℤ) (from : ℕ) (rest : List ℤ) : Type 0 where
    pub inside : from ≤ framed fs
    pub ahead : rest ≡ drop from (counted fs)
    pub size : length scores ≡ length before
    pub so_far : (r : ℕ) → r < length before → started from (place scores r) ≡ total (products r) from
    pub small : (r : ℕ) → r < length before → nat_abs (started from (place scores r)) ≤ from * 2 ^ 33
    pub untouched : from ≡ 0 → scores ≡ before

  pub begun : {rest : List ℤ} → rest ≡ counted fs → Going before 0 rest
  unfolding total
  begun e = record { inside = omega arith; ahead = e; size = refl; so_far = λ r h. refl; small = λ r h. omega arith; untouched = λ e. refl }

  pub room : {scores rest : List ℤ} {from : ℕ} → Going scores from rest → Room from scores
  room going = record { at = λ r h. omega (arith, going.small r (omega (arith, going.size)), going.inside) }

  -- a turn, which takes p off what is left
  module _ (scores left p rest : List ℤ) (from : ℕ) (going : Going scores from left) (e : left ≡ p ++ rest) where
    split : p ++ rest ≡ drop from (counted fs)
    split = sym e ∙ going.ahead

    pub within : from + length p ≤ 4096
    within = omega (arith, left_length fs p rest from split, going.inside)

    pub next : {new : List ℤ} → 0 < length p → Stripped D (length fs) from ws p scores new → Going new (from + length p) rest
    next {new} some stripped =
        record {
          inside = omega (arith, left_length fs p rest from split, going.inside);
          ahead = after fs p rest from split;
          size = stripped.done.size ∙ going.size;
          so_far = λ r l.
              holds (from + length p) (place new r) (omega arith) ∙ stripped.done.first r (omega (arith, going.size))
              ∙ ap₂ ◌+ℤ◌ (going.so_far r l) (strip r) ∙ sym (total-more (products r) from (length p));
          small = λ r l.
              rw (holds (from + length p) (place new r) (omega arith)) (omega (arith, stripped.small r (omega (arith, going.size)), going.small r l));
          untouched = λ none. absurd (omega arith);
        }
      where
        strip : (r : ℕ) → total (product_at D ws (r * length fs + from) p) (length p) ≡ total (λ k. products r (from + k)) (length p)
        strip r =
            total-as (length p)
            (λ k l. ap₂ (signed_product D) (ap (place ws) (add_assoc (r * length fs) from k)) (part_at fs p rest from split k l))

  pub ended : {scores rest : List ℤ} {from : ℕ} → Going scores from rest → length rest ≡ 0 → Scored D ws fs before scores
  ended {scores} {rest} {from} going h =
      let left : length rest ≡ framed fs - from = ap length going.ahead ∙ simp (length-drop, length-take) (omega arith) in
      let all : from ≡ framed fs = omega (arith, left, h, going.inside) in
      record {
        size = going.size;
        score = λ some r l. sym (holds from (place scores r) (omega arith)) ∙ going.so_far r l ∙ ap (total (products r)) all;
        none = λ e. going.untouched (omega arith);
      }
