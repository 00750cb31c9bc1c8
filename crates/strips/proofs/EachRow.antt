-- A strip of the frame against all rows, by any design. The row of place r begins r frames after the first weight, or is past the end of the
-- weights, where all count as 0; its sum over the strip is added to what its place counts for so far.
use Rattle.std.proofs.Common.{◌≡◌, ℕ, zero, suc, ◌+◌, ◌-◌, ◌*◌, ◌^◌, ◌<◌, ◌≤◌, min, List, length, take, drop, set, ℤ, pos, ◌+ℤ◌, nat_abs, sym, refl, ap, ◌∙◌, subst, ap₂, arith, length-drop, get_or-drop, take_all, w64, SFits, to_z, of_z, to_z-of_z, below_more}
use Rattle.std.specs.Int.{int_wrap, int_wrapping_add}
use Rattle.std.proofs.lemmas.Int.{int_wrap_fits, wrapping_add_is}
use lib.IntN.{+ℤ_idl}
use lib.ListN.{get_or-eq_default}
use lib.Signed.{mag}
use Rattle.designs.specs.Designs.{Design}
use Rattle.designs.specs.Signs.{signed_product}
use Rattle.designs.proofs.Cases.{either_lt}
use Rattle.designs.proofs.Sizes.{size-add}
use Rattle.signs.proofs.Integers.{read_as, read_back, sized}
use Rattle.patterns.specs.Blocks.{Done, place}
use Rattle.patterns.proofs.Blocks.{all_done, next-done, none_done}
use Rattle.blocks.specs.Counts.{total}
use Rattle.strips.specs.Strips.{product_at, Room, started, Stripped, Summed}

-- sums of what is the same below n
pub total-as : {f g : ℕ → ℤ} (n : ℕ) → ((k : ℕ) → k < n → f k ≡ g k) → total f n ≡ total g n
unfolding total
total-as zero same = refl
total-as (suc n) same = ap₂ ◌+ℤ◌ (total-as n (λ k h. same k (omega arith))) (same n (omega arith))

-- a slice from a place on, or from its end
pub placed : (ws : List ℤ) (start ahead k : ℕ) → start ≡ min ahead (length ws) → place (take (length ws - start) (drop start ws)) k ≡ place ws (ahead + k)
placed ws start ahead k e =
    rw (take_all (length ws - start) (drop start ws) (omega (arith, length-drop start ws)))
    (get_or-drop start ws k (pos 0)
    ∙ either_lt ahead (length ws) (λ h. ap (λ (i : ℕ). place ws i) (omega arith))
    (λ h. get_or-eq_default ws (pos 0) (omega arith) ∙ sym (get_or-eq_default ws (pos 0) (omega arith))))

module _ (D : Design) (columns from : ℕ) (ws part before : List ℤ) where
  -- what place r gets
  abbrev pub got : ℕ → ℤ
  got r = started from (place before r) +ℤ total (product_at D ws (r * columns + from) part) (length part)

  -- what the loop keeps after r rows, where the next begins at `at`
  pub record Going (scores : List ℤ) (at r : ℕ) : Type 0 where
    pub inside : r ≤ length before
    pub done : Done got r before scores
    pub small : (k : ℕ) → k < r → nat_abs (got k) ≤ nat_abs (started from (place before k)) + length part * 2 ^ 33
    pub begins : at ≡ min (r * columns) (length ws)

  pub begun : Going before 0 0
  begun = record { inside = omega arith; done = none_done got before; small = λ k h. absurd (omega arith); begins = omega arith }

  pub ended : {scores : List ℤ} {at r : ℕ} → Going scores at r → length scores ≤ r → Stripped D columns from ws part before scores
  ended {scores} going h =
      let done : Done got (length before) before scores = all_done going.done going.inside (omega (arith, going.done.size)) in
      record { done = done; small = λ k l. rw (done.first k l) (going.small k (omega (arith, going.done.size))) }

  -- the sum of the next row, whose weights begin at `start`
  module _ {scores : List ℤ} {at r start : ℕ} {sum : ℤ} (going : Going scores at r) (h : r < length scores) (e : start ≡ min (at + from) (length ws))
      (summed : Summed D (take (length ws - start) (drop start ws)) part sum) where
    row_is : sum ≡ total (product_at D ws (r * columns + from) part) (length part)
    row_is =
        summed.is
        ∙ total-as (length part) (λ k l. ap (λ (w : ℤ). signed_product D w (place part k)) (placed ws start (r * columns + from) k (omega (arith, e, going.begins))))

    module _ (few : length part ≤ 4096) (room : Room from before) {so_far : ℤ} (s : so_far ≡ started from (place scores r)) where
      so-far-is : so_far ≡ started from (place before r)
      so-far-is = s ∙ ap (started from) (going.done.later r (omega arith))

      is : so_far +ℤ sum ≡ got r
      is = ap₂ ◌+ℤ◌ so-far-is row_is

      pub fits : SFits w64 (so_far +ℤ sum)
      fits =
          sized (so_far +ℤ sum)
          (omega (
            arith,
            size-add so_far sum,
            summed.small,
            few,
            ap nat_abs so-far-is,
            room.at r (omega (arith, going.done.size)),
          ))

      pub next : {at' : ℕ} → at' ≡ min (at + columns) (length ws) → Going (set scores r (to_z w64 (of_z w64 (so_far +ℤ sum)))) at' (r + 1)
      next e' =
          record {
            inside = omega (arith, going.done.size);
            done = next-done got r _ going.done (omega (arith, going.done.size)) (read_as refl fits ∙ is);
            small = below_more _ _ going.small (rw (sym is) (omega (arith, size-add so_far sum, summed.small, ap nat_abs so-far-is)));
            begins = omega (arith, e', going.begins);
          }

  -- the same of numbers as callees give them: the row's sum, and what its place counts for
  module _ {scores : List ℤ} {at r start : ℕ} {sum so_far : ℤ} (going : Going scores at r) (h : r < length scores)
      (e : start ≡ min (at + from) (length ws)) (few : length part ≤ 4096) (room : Room from before)
      (score : SFits w64 (place scores r)) (so : mag so_far < 2 ^ 63)
      (s : so_far ≡ started from (to_z w64 (of_z w64 (place scores r)))) (small : mag sum < 2 ^ 63)
      (summed : Summed D (take (length ws - start) (drop start ws)) part sum) where
    counts : so_far ≡ started from (place scores r)
    counts = s ∙ ap (started from) (to_z-of_z score)

    pub fits-read : SFits w64 (to_z w64 (of_z w64 so_far) +ℤ to_z w64 (of_z w64 sum))
    fits-read = rw (read_back so_far so, read_back sum small) (fits going h e summed few room counts)

    pub next-read : {at' : ℕ} → at' ≡ min (at + columns) (length ws)
        → Going (set scores r (to_z w64 (of_z w64 (to_z w64 (of_z w64 so_far) +ℤ to_z w64 (of_z w64 sum))))) at' (r + 1)
    next-read e' = rw (read_back so_far so, read_back sum small) (next going h e summed few room counts e')

    -- a sum that fits is the machine's, which wraps
    wrapped : int_wrapping_add w64 so_far sum ≡ to_z w64 (of_z w64 (to_z w64 (of_z w64 so_far) +ℤ to_z w64 (of_z w64 sum)))
    wrapped =
        wrapping_add_is w64 so_far sum (record { sfits = so }) (record { sfits = small })
        ∙ ap (int_wrap w64) (sym (ap₂ ◌+ℤ◌ (read_back so_far so) (read_back sum small))) ∙ int_wrap_fits w64 _ fits-read ∙ sym (to_z-of_z fits-read)

    pub next-wrapped : {at' : ℕ} → at' ≡ min (at + columns) (length ws) → Going (set scores r (int_wrapping_add w64 so_far sum)) at' (r + 1)
    next-wrapped {at'} e' = subst (λ (z : ℤ). Going (set scores r z) at' (r + 1)) (sym wrapped) (next-read e')

-- where nothing is done before the strip, the first row's place has its sum
pub alone : {D : Design} {columns : ℕ} {ws part before after : List ℤ} → 0 < length before → length part ≤ 4096 → Stripped D columns 0 ws part before after
    → Summed D ws part (to_z w64 (of_z w64 (place after 0)))
alone {D} {columns} {ws} {part} {before} {after} some few stripped =
    let small = stripped.small 0 some in
    rw (read_back (place after 0) (sized (place after 0) (omega (arith, small, few))).sfits)
    (record {
      is =
          stripped.done.first 0 some ∙ +ℤ_idl (total (product_at D ws (0 * columns + 0) part) (length part))
          ∙ total-as (length part) (λ k l. ap (λ (i : ℕ). signed_product D (place ws i) (place part k)) (omega arith));
      small = omega (arith, small);
    })

-- of a part that is no longer than m its first m numbers are all
pub uncut : {m n : ℕ} {part : List ℤ} (P : List ℤ → Type 0) → length part ≤ m → n ≡ min (length part) m → P (take n part) → P part
uncut {n = n} {part} P few e holds = subst P (take_all n part (omega arith)) holds

pub whole-part : {D : Design} {columns from m n : ℕ} {ws part before after : List ℤ} → length part ≤ m → n ≡ min (length part) m
    → Stripped D columns from ws (take n part) before after → Stripped D columns from ws part before after
whole-part {D} {columns} {from} {ws = ws} {before = before} {after} few e stripped = uncut (λ (p : List ℤ). Stripped D columns from ws p before after) few e stripped
