-- The products of a strip. A number with its offset is not 0, and its products with the powers of a number of the frame are at the places of their
-- codes; sums of up to 128 products of 24 bits fit an i32.
use Rattle.std.proofs.Common.{◌≡◌, ℕ, suc, ◌+◌, ◌-◌, ◌*◌, ◌^◌, ◌<◌, ◌≤◌, List, length, get_or, ℤ, pos, negsuc, ◌+ℤ◌, ◌*ℤ◌, nat_abs, sym, refl, ap, ◌∙◌, ap₂, mul-le-mul, arith, w32, w64, SFits, to_z, of_z}
use lib.Signed.{mag, nat_abs-le}
use Rattle.designs.specs.Codes.{code}
use Rattle.designs.specs.Signs.{left_ℤ}
use Rattle.designs.proofs.Differences.{add-gap, as-gap, Gap, gap-eq, is-neg, is_pos, mul-gap, whole}
use Rattle.designs.proofs.Sizes.{size-true}
use Rattle.signs.proofs.Integers.{fits-as, read_as, sized as sized64}
use Rattle.pairs.proofs.Integers.{sized}
use Rattle.patterns.specs.Blocks.{place}
use Rattle.patterns.specs.Patterns.{raised_by, raised_of}
use Rattle.blocks.specs.Counts.{total}
use Rattle.blocks.proofs.Counts.{total-next, total_size}
use Rattle.strips.specs.Codes.{code_of}
use Rattle.many_stages.specs.Powers.{high_byte, low_byte, power_at}
use Rattle.many_stages.specs.Strips.{FourAt, Raised, Ready, ReadyRests, SixAt}
use Rattle.many_stages.proofs.Bytes.{bytes, high_small, low_small}
use Rattle.many_stages.proofs.Stages.{mag-size, short-left}

-- the raised patterns of the offsets
pub offset : Raised (pos 32769) 1325400320
unfolding raised_by code
offset = record { small = omega arith; pattern = refl }

pub low-offset : Raised (pos 2048) 1291845632
unfolding raised_by code
low-offset = record { small = omega arith; pattern = refl }

-- a number with an offset that is larger
some-offset : (z : ℤ) (H K : ℕ) → mag z < H → nat_abs z < K → (0 < nat_abs (z +ℤ pos K)) × (nat_abs (z +ℤ pos K) < H + K)
some-offset (pos m) H K l g = (omega arith, omega arith)
some-offset (negsuc m) H K l g = rw below (omega arith, omega arith)
  where
    below : negsuc m +ℤ pos K ≡ pos (K - suc m)
    below = ap₂ ◌+ℤ◌ (is-neg 0 (suc m) m (omega arith)) (whole K) ∙ add-gap 0 (suc m) K 0 ∙ gap-eq _ _ K (suc m) (omega arith) ∙ sym (is_pos K (suc m) (K - suc m) (omega arith))

pub few-pairs : {s n : ℕ} {part : List ℤ} {f : ℕ → ℤ} {left held : List ℕ} → Ready s n part f left held → n ≤ 128
few-pairs r = omega (arith, r.inside, r.coded.few)

-- a product with both bytes of a number
distribute : (w h l : ℤ) → w *ℤ h *ℤ pos 256 +ℤ w *ℤ l ≡ w *ℤ (h *ℤ pos 256 +ℤ l)
distribute w h l = go (as-gap w) (as-gap h) (as-gap l)
  where
    go : Gap w → Gap h → Gap l → w *ℤ h *ℤ pos 256 +ℤ w *ℤ l ≡ w *ℤ (h *ℤ pos 256 +ℤ l)
    go (a, b, ew) (c, d, eh) (e, f, el) = rw (ew, eh, el, whole 256) (simp (add-gap, mul-gap) (gap-eq _ _ _ _ (omega arith)))

pub times-bytes : (w x : ℤ) → w *ℤ high_byte x *ℤ pos 256 +ℤ w *ℤ low_byte x ≡ w *ℤ x
times-bytes w x = distribute w (high_byte x) (low_byte x) ∙ ap (λ (z : ℤ). w *ℤ z) (bytes x)

-- product k with the high bytes, with the low ones, and of what s stages leave
abbrev pub high_product : List ℤ → (ℕ → ℤ) → ℕ → ℤ
high_product part f k = (f k +ℤ pos 32769) *ℤ high_byte (place part k)

abbrev pub low_product : List ℤ → (ℕ → ℤ) → ℕ → ℤ
low_product part f k = (f k +ℤ pos 32769) *ℤ low_byte (place part k)

abbrev pub rest_product : ℕ → List ℤ → (ℕ → ℤ) → ℕ → ℤ
rest_product s part f k = (f k +ℤ pos 2048) *ℤ left_ℤ s (place part k)

-- where there are as many places for patterns as numbers, a place is that of a number
pub turn : {places n j : ℕ} → places ≡ n → j < places → j < n
turn size l = omega (arith, l, size)

-- a number of a row, and one of the frame
module _ {s n : ℕ} {part : List ℤ} {f : ℕ → ℤ} {left held : List ℕ} (r : Ready s n part f left held) {j : ℕ} (h : j < n) where
  abbrev x : ℤ
  x = place part j

  in-part : j < length part
  in-part = omega (arith, r.inside)

  pub few : j < 128
  few = omega (arith, in-part, r.coded.few)

  pub in_left : j < length left
  in_left = omega (arith, r.patterns.room)

  pub number : Raised (f j) (get_or left j 0)
  number = record { small = omega (arith, nat_abs-le (f j) (r.patterns.small j h)); pattern = r.patterns.at j h }

  shifted : (0 < nat_abs (f j +ℤ pos 32769)) × (nat_abs (f j +ℤ pos 32769) < 2 ^ 15 + 32769)
  shifted = some-offset (f j) (2 ^ 15) 32769 (r.patterns.small j h) (omega (arith, nat_abs-le (f j) (r.patterns.small j h)))

  shifted-small : nat_abs (f j +ℤ pos 32769) ≤ 2 ^ 16
  shifted-small = omega (arith, shifted.1)

  moved : (a b : ℕ) → a ≡ b → get_or held a 0 ≡ get_or held b 0
  moved a b e = ap (λ (k : ℕ). get_or held k 0) e

  pub high-powers : {p : ℕ} → p ≡ raised_of (f j +ℤ pos 32769) → FourAt (f j +ℤ pos 32769) (high_byte x) p j held
  high-powers e =
      record {
        inside = omega (arith, few);
        powers =
            record {
              some = shifted.0;
              small = shifted-small;
              byte = high_small x (r.coded.small j in-part);
              pattern = e;
              first = moved _ _ (omega arith) ∙ r.coded.high 0 (omega arith) j in-part;
              second = moved _ _ (omega arith) ∙ r.coded.high 1 (omega arith) j in-part;
              third = moved _ _ (omega arith) ∙ r.coded.high 2 (omega arith) j in-part;
              fourth = moved _ _ (omega arith) ∙ r.coded.high 3 (omega arith) j in-part;
            };
      }

  pub low-powers : {p : ℕ} → p ≡ raised_of (f j +ℤ pos 32769) → FourAt (f j +ℤ pos 32769) (low_byte x) p (512 + j) held
  low-powers e =
      record {
        inside = omega (arith, few);
        powers =
            record {
              some = shifted.0;
              small = shifted-small;
              byte = low_small x (r.coded.small j in-part);
              pattern = e;
              first = moved _ _ (omega arith) ∙ r.coded.low 0 (omega arith) j in-part;
              second = moved _ _ (omega arith) ∙ r.coded.low 1 (omega arith) j in-part;
              third = moved _ _ (omega arith) ∙ r.coded.low 2 (omega arith) j in-part;
              fourth = moved _ _ (omega arith) ∙ r.coded.low 3 (omega arith) j in-part;
            };
      }

  pub high-size : nat_abs ((f j +ℤ pos 32769) *ℤ high_byte x) ≤ 2 ^ 23
  high-size = omega (arith, size-true (f j +ℤ pos 32769) (high_byte x), mul-le-mul shifted-small (high_small x (r.coded.small j in-part)))

  pub low-size : nat_abs ((f j +ℤ pos 32769) *ℤ low_byte x) ≤ 2 ^ 23
  low-size = omega (arith, size-true (f j +ℤ pos 32769) (low_byte x), mul-le-mul shifted-small (low_small x (r.coded.small j in-part)))

-- what the stages leave of both
module _ {s n : ℕ} {part : List ℤ} {f : ℕ → ℤ} {left held : List ℕ} (r : ReadyRests s n part f left held) {j : ℕ} (h : j < n) where
  abbrev y : ℤ
  y = left_ℤ s (place part j)

  here : j < length part
  here = in-part r.ready h

  short : nat_abs y < 2 ^ 11
  short = short-left s (place part j) r.many (r.ready.coded.small j here)

  low-shifted : (0 < nat_abs (f j +ℤ pos 2048)) × (nat_abs (f j +ℤ pos 2048) < 2 ^ 11 + 2048)
  low-shifted = some-offset (f j) (2 ^ 11) 2048 (mag-size (f j) (r.short j h)) (r.short j h)

  at : (i : ℕ) → i ≤ 5 → {a : ℕ} → a ≡ 1024 + 128 * i + j → get_or held a 0 ≡ code_of (power_at 5 i y)
  at i l e = moved r.ready h _ _ e ∙ r.ready.coded.left i l j here

  pub rest-powers : {p : ℕ} → p ≡ raised_of (f j +ℤ pos 2048) → SixAt (f j +ℤ pos 2048) y p (1024 + j) held
  rest-powers e =
      record {
        inside = omega (arith, few r.ready h);
        powers =
            record {
              some = low-shifted.0;
              small = omega (arith, low-shifted.1);
              short = short;
              pattern = e;
              first = at 0 (omega arith) (omega arith);
              second = at 1 (omega arith) (omega arith);
              third = at 2 (omega arith) (omega arith);
              fourth = at 3 (omega arith) (omega arith);
              fifth = at 4 (omega arith) (omega arith);
              sixth = at 5 (omega arith) (omega arith);
            };
      }

  pub rest-size : nat_abs ((f j +ℤ pos 2048) *ℤ y) ≤ 2 ^ 23
  rest-size =
      let w : nat_abs (f j +ℤ pos 2048) ≤ 2 ^ 12 = omega (arith, low-shifted.1) in
      let v : nat_abs y ≤ 2 ^ 11 = omega (arith, short) in
      omega (arith, size-true (f j +ℤ pos 2048) y, mul-le-mul w v)

-- a sum in an i32, and one product more
module _ (g : ℕ → ℤ) {n : ℕ} (small : (k : ℕ) → k < n → nat_abs (g k) ≤ 2 ^ 23) (few : n ≤ 128) {j : ℕ} (h : j < n) {sum y : ℤ} (so_far : sum ≡ total g j) (e : y ≡ g j) where
  more : sum +ℤ y ≡ total g (j + 1)
  more = ap₂ ◌+ℤ◌ so_far e ∙ sym (total-next g j)

  fits : SFits w32 (total g (j + 1))
  fits = sized (total g (j + 1)) (omega (arith, total_size g (2 ^ 23) (j + 1) (λ k l. small k (omega arith))))

  pub more-fits : SFits w32 (sum +ℤ y)
  more-fits = fits-as more fits

  pub more-is : to_z w32 (of_z w32 (sum +ℤ y)) ≡ total g (j + 1)
  more-is = read_as more fits

-- the whole sum, as an i64
pub wide : (g : ℕ → ℤ) {n : ℕ} → ((k : ℕ) → k < n → nat_abs (g k) ≤ 2 ^ 23) → n ≤ 128 → SFits w64 (total g n)
wide g {n} small few = sized64 (total g n) (omega (arith, total_size g (2 ^ 23) n small))
