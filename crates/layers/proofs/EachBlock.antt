-- All blocks of a layer against one frame, by any design. Where the first rows are done, their places have their sums and later ones what
-- they had; a block brings as many rows as it has.
use mathlib.Core.Path.{◌≡◌, sym, ap, ◌∙◌, subst}
use mathlib.Core.List.{List}
use Prim.Native.Nat.{ℕ, min, ◌+◌, ◌-◌, ◌*◌, ◌≤◌, ◌<◌}
use native.Mathlib.Nat.{add-mul}
use native.Mathlib.Omega.{arith}
use borrow.Rule.Slice.PartMut.{put_mid, same_len_mid}
use lib.IntN.{ℤ, pos}
use lib.ListN.{drop, length, length-drop, length-take, take}
use Rattle.designs.specs.Designs.{Design}
use Rattle.designs.specs.Signs.{signed_product}
use Rattle.designs.proofs.Cases.{either_lt}
use Rattle.patterns.specs.Blocks.{Done, place}
use Rattle.patterns.proofs.Blocks.{all_done, none_done}
use Rattle.blocks.specs.Counts.{total}
use Rattle.strips.specs.Strips.{product_at, Scored}
use Rattle.strips.proofs.EachRow.{placed, total-as}
use Rattle.strips.proofs.Putting.{put-after, put-at, put-before}
use Rattle.layers.specs.Blocks.{Framed, Rowed}

-- rows by a design that goes by another name
pub as-asked : {D E : Design} (store fs before : List ℤ) {after : List ℤ} → D ≡ E → Rowed D store fs before after → Rowed E store fs before after
as-asked store fs before {after} e rowed = subst (λ (D : Design). Rowed D store fs before after) e rowed

module _ (D : Design) (store fs before : List ℤ) where
  -- the sum of the products of row r
  abbrev pub sum : ℕ → ℤ
  sum r = total (product_at D store (r * length fs) fs) (length fs)

  -- what the loop keeps where the rows before `first` are done, and the next begins at `start`
  pub record Going (scores : List ℤ) (start first : ℕ) : Type 0 where
    pub inside : first ≤ length before
    pub done : Done sum first before scores
    pub stays : start ≤ length store
    pub begins : first < length before → start ≡ min (first * length fs) (length store)

  pub begun : Going before 0 0
  begun = record { inside = omega arith; done = none_done sum before; stays = omega arith; begins = λ h. omega arith }

  pub ended : {scores : List ℤ} {start first : ℕ} → Going scores start first → length scores ≤ first → Rowed D store fs before scores
  ended going h =
      let done = all_done going.done going.inside (omega (arith, going.done.size)) in
      record { size = done.size; at = done.first }

  -- the same place, said in another way
  pub placed-as : {scores : List ℤ} {start first first' : ℕ} → first ≡ first' → Going scores start first → Going scores start first'
  placed-as {scores} {start} e going = subst (Going scores start) e going

  -- the block of a turn
  module _ (framed : Framed fs) {scores block : List ℤ} {start first last : ℕ} (going : Going scores start first) (h : first < length scores)
      (e : last ≡ min (first + 16) (length scores))
      (scored : Scored D (take (length store - start) (drop start store)) fs (take (last - first) (drop first scores)) block) where
    lent : length (take (last - first) (drop first scores)) ≡ last - first
    lent = simp (length-take, length-drop) (omega arith)

    size : length block ≡ last - first
    size = scored.size ∙ lent

    row : (j : ℕ) → j < last - first → place block j ≡ sum (first + j)
    row j l =
        scored.score framed.some j (omega (arith, lent))
        ∙ ap (total (product_at D (take (length store - start) (drop start store)) (j * length fs) fs)) (omega (arith, framed.few))
        ∙ total-as (length fs) (λ k m. ap (λ (w : ℤ). signed_product D w (place fs k))
        (placed store start (first * length fs) (j * length fs + k) (going.begins (omega (arith, going.done.size)))
        ∙ ap (place store) (omega (arith, add-mul first j (length fs)))))

    pub next : {start' : ℕ} → start' ≡ min (start + 16 * length fs) (length store) → Going (put_mid first (last - first) scores block) start' last
    next e' =
        record {
          inside = omega (arith, going.done.size);
          done =
              record {
                size = same_len_mid first (last - first) scores block (size ∙ sym lent) ∙ going.done.size;
                first = λ i l. either_lt i first
                    (λ m. put-before (pos 0) first (last - first) scores block size (omega arith) i m ∙ going.done.first i m)
                    (λ m. ap (place (put_mid first (last - first) scores block)) (omega arith)
                    ∙ put-at (pos 0) first (last - first) scores block size (omega arith) (i - first) (omega arith)
                    ∙ row (i - first) (omega arith) ∙ ap sum (omega arith));
                later = λ i l. ap (place (put_mid first (last - first) scores block)) (back i l)
                    ∙ put-after (pos 0) first (last - first) scores block size (omega arith) (i - last)
                    ∙ sym (ap (place scores) (back i l)) ∙ going.done.later i (omega arith);
              };
          stays = omega (arith, e');
          begins = λ l.
              omega (arith, e', going.begins (omega (arith, going.done.size)), ap (λ (n : ℕ). n * length fs) (full l), add-mul first 16 (length fs));
        }
      where
        full : last < length before → last ≡ first + 16
        full l = omega (arith, going.done.size)

        back : (i : ℕ) → last ≤ i → i ≡ first + ((last - first) + (i - last))
        back i l = omega arith
