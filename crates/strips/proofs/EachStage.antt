-- Design 3 over a strip, stage by stage. One stage more takes the leading power off what is left of each number, and adds the product of what
-- was left of both numbers of a pair to the products so far.
use Rattle.std.proofs.Common.{◌≡◌, ℕ, suc, ◌+◌, ◌-◌, ◌*◌, ◌^◌, ◌<◌, ◌≤◌, List, length, get_or, take, set, ℤ, pos, ◌+ℤ◌, nat_abs, sym, refl, ap, ◌∙◌, ap₂, add-one, arith, length-set, length-take, get_or-set_other, get_or-take, get_or-set_same, to_z-of_z, w16, w32, SFits, to_z, of_z}
use borrow.Rule.Slice.PartMut.{put_mid}
use lib.Ieee.{unlike}
use lib.Signed.{mag, nat_abs-le}
use Rattle.designs.specs.Designs.{product, staged}
use Rattle.designs.specs.Signs.{left_ℤ, negative, rest_ℤ, signed_product}
use Rattle.designs.proofs.Cases.{either_lt}
use Rattle.designs.proofs.SignedLeft.{left-next, left-none, left-size, no-stage, staged-then}
use Rattle.designs.proofs.Sizes.{size-sign}
use Rattle.patterns.specs.Blocks.{Done, place}
use Rattle.patterns.specs.Patterns.{raised_of}
use Rattle.patterns.proofs.Pair.{product-fits, product-size}
use Rattle.blocks.specs.Counts.{total}
use Rattle.blocks.proofs.Counts.{total_size}
use Rattle.strips.specs.Codes.{code_of, StageCoded, StageLogs}
use Rattle.strips.specs.Stages.{Codes, Left, Multiplied, Multiplying, pairs_of}
use Rattle.strips.specs.Strips.{Summed}
use Rattle.strips.proofs.EachRow.{total-as}
use Rattle.strips.proofs.EachStrip.{holds}
use Rattle.strips.proofs.HalfSums.{summed-pairs}
use Rattle.strips.proofs.Putting.{put-at, put-before}

-- A loop that fills places: the first j have what g gives for each, and later ones what they had.
pub record Filled (g : ℕ → ℕ) (j : ℕ) (before after : List ℕ) : Type 0 where
  pub size : length after ≡ length before
  pub first : (k : ℕ) → k < j → get_or after k 0 ≡ g k
  pub later : (k : ℕ) → j ≤ k → get_or after k 0 ≡ get_or before k 0

pub none_filled : (g : ℕ → ℕ) (before : List ℕ) → Filled g 0 before before
none_filled g before = record { size = refl; first = λ k h. absurd (omega arith); later = λ k h. refl }

pub next-filled : {g : ℕ → ℕ} {before after : List ℕ} {j v : ℕ} → Filled g j before after → j < length before → v ≡ g j → Filled g (j + 1) before (set after j v)
next-filled {g} {before} {after} {j} {v} d l e =
    record {
      size = length-set after j v ∙ d.size;
      first = λ k h. either_lt k j (λ m. get_or-set_other after j k v 0 (λ q. omega arith) ∙ d.first k m) (λ m. here k (omega arith));
      later = λ k h. get_or-set_other after j k v 0 (λ q. omega arith) ∙ d.later k (omega arith);
    }
  where
    here : (k : ℕ) → k ≡ j → get_or (set after j v) k 0 ≡ g k
    here k q = rw q (get_or-set_same after j v 0 (omega (arith, d.size)) ∙ e)

-- the patterns of numbers as they are read
pub record Raising (n : ℕ) (numbers : List ℤ) (before left : List ℕ) (j : ℕ) : Type 0 where
  pub inside : j ≤ n
  pub done : Filled (λ k. raised_of (place numbers k)) j before left
  pub small : (k : ℕ) → k < j → nat_abs (place numbers k) ≤ 2 ^ 15

module _ {n : ℕ} {numbers : List ℤ} {before : List ℕ} where
  pub none-raised : Raising n numbers before before 0
  none-raised = record { inside = omega arith; done = none_filled _ _; small = λ k h. absurd (omega arith) }

  pub next-raised : {left : List ℕ} {j p : ℕ} → Raising n numbers before left j → j < n → n ≤ length before → mag (place numbers j) < 2 ^ 15
      → p ≡ raised_of (to_z w16 (of_z w16 (place numbers j))) → Raising n numbers before (set left j p) (j + 1)
  next-raised {j = j} r h room fits e =
      record {
        inside = omega arith;
        done = next-filled r.done (omega arith) (e ∙ ap raised_of (to_z-of_z {w = w16} (record { sfits = fits })));
        small = λ k l. either_lt k j (r.small k) (λ m. here k (omega arith));
      }
    where
      here : (k : ℕ) → k ≡ j → nat_abs (place numbers k) ≤ 2 ^ 15
      here k m = rw m (nat_abs-le (place numbers j) fits)

  pub all-raised : {left : List ℕ} {j : ℕ} → Raising n numbers before left j → n ≤ j → n ≤ length before → Left 0 n numbers left
  all-raised r h room =
      record {
        room = omega (arith, r.done.size);
        small = λ k l. r.small k (omega arith);
        at = λ k l. r.done.first k (omega arith) ∙ ap raised_of (sym (left-none (place numbers k)));
      }

-- one stage more, from the patterns that there are
module _ {i n : ℕ} {numbers : List ℤ} {before : List ℕ} (l : Left i n numbers before) where
  abbrev pub rest_at : ℕ → ℕ
  rest_at k = raised_of (rest_ℤ (left_ℤ i (place numbers k)))

  pub left-small : {j : ℕ} → j < n → nat_abs (left_ℤ i (place numbers j)) ≤ 2 ^ 15
  left-small {j} h = omega (arith, left-size i (place numbers j), l.small j h)

  -- the pattern of a turn, which is still as it was
  pub still : {left : List ℕ} {j : ℕ} → Filled rest_at j before left → j < n → get_or left j 0 ≡ raised_of (left_ℤ i (place numbers j))
  still {j = j} done h = done.later j (omega arith) ∙ l.at j h

  pub one_more : {left : List ℕ} {j : ℕ} → Filled rest_at j before left → n ≤ j → Left (i + 1) n numbers left
  one_more done h =
      record {
        room = omega (arith, l.room, done.size);
        small = l.small;
        at = λ k m. rw (add-one i) (done.first k (omega arith) ∙ ap raised_of (left-next i (place numbers k)));
      }

-- stage i of a pair: the codes are those of what is left of the frame's number, and of what the stage leaves of that
module _ {i : ℕ} {row part : List ℤ} {left held : List ℕ} (coded : StageCoded (i + 2) part held) (walked : Left i (pairs_of row part) row left) {j : ℕ} (h : j < pairs_of row part) where
  abbrev w : ℤ
  w = place row j

  abbrev x : ℤ
  x = place part j

  in-part : j < length part
  in-part = omega arith

  pub logs : {p : ℕ} → p ≡ raised_of (left_ℤ i w) → StageLogs (left_ℤ i w) (left_ℤ i x) p (get_or held (i * 64 + j) 0) (get_or held (i * 64 + 64 + j) 0)
  logs e =
      record {
        first = left-small walked h;
        second = omega (arith, left-size i x, coded.small j in-part);
        pattern = e;
        code = ap (λ (k : ℕ). get_or held k 0) (omega arith) ∙ coded.at i (omega arith) j in-part;
        left = ap (λ (k : ℕ). get_or held k 0) (omega arith) ∙ coded.at (suc i) (omega arith) j in-part ∙ ap code_of (sym (left-next i x));
      }

  pub more-fits : SFits w32 (signed_product (staged (suc i)) w x)
  more-fits = product-fits (staged (suc i)) tt w x (walked.small j h) (coded.small j in-part)

-- the places after some pairs of a stage
pub record Stepping (i : ℕ) (row part : List ℤ) (left-before : List ℕ) (found-before : List ℤ) (left : List ℕ) (found : List ℤ) (j : ℕ) : Type 0 where
  pub patterns : Filled (λ k. raised_of (rest_ℤ (left_ℤ i (place row k)))) j left-before left
  pub products : Done (λ k. signed_product (staged (suc i)) (place row k) (place part k)) j found-before found

pub stage-more : (i : ℕ) (w x : ℤ) {before stage : ℤ} → before ≡ signed_product (staged i) w x → stage ≡ signed_product (staged 1) (left_ℤ i w) (left_ℤ i x)
    → before +ℤ stage ≡ signed_product (staged (suc i)) w x
stage-more i w x eb es = ap₂ ◌+ℤ◌ eb es ∙ sym (staged-then i w x)

-- before the first stage, and all pairs after one more
pub none-multiplied : {row part found : List ℤ} → length found ≡ 64 → Multiplied 0 row part found
none-multiplied {row} {part} size = record { size = size; at = λ k h. sym (no-stage (place row k) (place part k)) }

pub multiplied : {i j : ℕ} {row part before found : List ℤ} → Multiplied i row part before → Done (λ k. signed_product (staged (suc i)) (place row k) (place part k)) j before found
    → pairs_of row part ≤ j → Multiplied (i + 1) row part found
multiplied {i} m done h = record { size = done.size ∙ m.size; at = λ k l. rw (add-one i) (done.first k (omega arith)) }

-- the codes of no stage, and of what one stage more leaves of a part
module _ {part : List ℤ} where
  pub no-codes : {held left : List ℕ} → length part ≤ 64 → Left 0 (length part) part left → StageCoded 0 part held
  no-codes few walked = record { few = few; small = walked.small; at = λ i h. absurd (omega arith) }

  pub more-codes : {i : ℕ} {held codes : List ℕ} → StageCoded i part held → length held ≡ 1088 → i ≤ 16 → Codes i (length part) part codes → length codes ≡ 64
      → StageCoded (i + 1) part (put_mid (i * 64) (i * 64 + 64 - i * 64) held codes)
  more-codes {i} {held} {codes} coded room most new size =
      record {
        few = coded.few;
        small = coded.small;
        at = λ m h k l. either_lt m i
            (λ g. put-before 0 (i * 64) (i * 64 + 64 - i * 64) held codes (omega (arith, size)) (omega (arith, room)) (64 * m + k) (before m k g (omega (arith, l, coded.few))) ∙ coded.at m g k l)
            (λ g. here m (omega arith) k l);
      }
    where
      before : (m k : ℕ) → m < i → k < 64 → 64 * m + k < i * 64
      before m k g h = omega arith

      here : (m : ℕ) → m ≡ i → (k : ℕ) → k < length part → get_or (put_mid (i * 64) (i * 64 + 64 - i * 64) held codes) (64 * m + k) 0 ≡ code_of (left_ℤ m (place part k))
      here m g k h =
          rw g
          (ap (λ (q : ℕ). get_or (put_mid (i * 64) (i * 64 + 64 - i * 64) held codes) q 0) (omega arith)
          ∙ put-at 0 (i * 64) (i * 64 + 64 - i * 64) held codes (omega (arith, size)) (omega (arith, room)) k (omega (arith, h, coded.few)) ∙ new.at k h)

pub fewer-runs : {m n : ℕ} {part : List ℤ} {held : List ℕ} → m ≤ n → StageCoded n part held → StageCoded m part held
fewer-runs h coded = record { few = coded.few; small = coded.small; at = λ i l k g. coded.at i (omega arith) k g }

-- what stage i of s stages takes
pub stage-taken : {i s t n : ℕ} {row part : List ℤ} {held left : List ℕ} {found : List ℤ} → i < s → s ≤ 16 → s ≡ t → StageCoded (t + 1) part held → n ≡ pairs_of row part → length left ≡ n
    → Left i (pairs_of row part) row left → Multiplied i row part found → Multiplying i row part held left found
stage-taken h most e coded en size walked done =
    record { few = omega arith; coded = fewer-runs (omega arith) coded; size = size ∙ en; walked = walked; found = done }

-- the patterns of a row's first weights
pub taken-left : {n : ℕ} (row : List ℤ) {left : List ℕ} → n ≤ length row → Left 0 (length (take n row)) (take n row) left → Left 0 n row left
taken-left {n} row inside walked =
    let size : length (take n row) ≡ n = omega (arith, length-take n row, inside) in
    record {
      room = omega (arith, walked.room, size);
      small = λ k h. rw (sym (get_or-take n row k (pos 0) h)) (walked.small k (omega (arith, size)));
      at = λ k h. walked.at k (omega (arith, size)) ∙ ap (λ (z : ℤ). raised_of (left_ℤ 0 z)) (get_or-take n row k (pos 0) h);
    }

-- a product of 16-bit numbers
pub staged-small : (s : ℕ) (w x : ℤ) → nat_abs w ≤ 2 ^ 15 → nat_abs x ≤ 2 ^ 15 → nat_abs (signed_product (staged s) w x) ≤ 2 ^ 33
unfolding signed_product
staged-small s w x hw hx =
    omega (arith, size-sign (unlike (negative w) (negative x)) (product (staged s) (nat_abs w) (nat_abs x)), product-size (staged s) tt w x hw hx)

-- the sum of all products, where it is small, as it is of 16-bit numbers
pub summed-small : {s n : ℕ} {row part found : List ℤ} {r : ℤ} → Multiplied s row part found → 1 ≤ s → n ≡ pairs_of row part → r ≡ total (place found) n
    → nat_abs (total (place found) n) ≤ n * 2 ^ 33 → Summed (staged s) row part r
summed-small {s} {n} {row} {part} {found} done some e er small =
    let all = total-as n (λ k h. sym (holds s (place found k) (omega arith)) ∙ done.at k (omega (arith, e))) in
    summed-pairs (staged s) row part e (er ∙ all) (rw all at small)

pub summed-stages : {s n : ℕ} {row part found : List ℤ} {r : ℤ} → Multiplied s row part found → 1 ≤ s → n ≡ pairs_of row part → ((k : ℕ) → k < n → nat_abs (place row k) ≤ 2 ^ 15)
    → ((k : ℕ) → k < length part → nat_abs (place part k) ≤ 2 ^ 15) → r ≡ total (place found) n → Summed (staged s) row part r
summed-stages {s} {n} {row} {part} {found} done some e sized small er = summed-small done some e er (total_size (place found) (2 ^ 33) n bound)
  where
    bound : (k : ℕ) → k < n → nat_abs (place found k) ≤ 2 ^ 33
    bound k h =
        rw (sym (holds s (place found k) (omega arith)) ∙ done.at k (omega (arith, e)))
        (staged-small s (place row k) (place part k) (sized k h) (small k (omega (arith, e))))
