-- A sum in two halves: a number is 2^16 times its high half and its low one, and both kinds are added up apart. Where the pairs end before
-- the frame's part, the weights that are missing count as 0, and so do their products.
use Rattle.std.proofs.Common.{◌≡◌, ℕ, zero, suc, ◌+◌, ◌-◌, ◌*◌, ◌/◌, ◌%◌, ◌^◌, ◌<◌, ◌≤◌, min, Bool, true, false, List, length, ℤ, pos, negsuc, ◌+ℤ◌, ◌*ℤ◌, nat_abs, sym, refl, ap, ◌∙◌, subst, ap₂, add-zero, add-suc, le_antisymm, arith, to_z-of_z, w32, to_z, of_z}
use lib.Ieee.{unlike}
use lib.IntN.{+ℤ_idr}
use lib.ListN.{get_or-eq_default}
use lib.Signed.{mag}
use Rattle.designs.specs.Designs.{Design}
use Rattle.designs.specs.Signs.{negative, signed_product, with_sign}
use Rattle.designs.proofs.Differences.{add-gap, is-neg, joined-more, mul-gap, whole}
use Rattle.designs.proofs.Sizes.{size-add, size-true}
use Rattle.designs.proofs.Zeros.{zero_left}
use Rattle.patterns.specs.Blocks.{place}
use Rattle.blocks.specs.Counts.{total}
use Rattle.blocks.proofs.Counts.{total-next}
use Rattle.strips.specs.Halves.{Held, high_of, joined_of, low_of, no_halves, Roomy, with_number}
use Rattle.blocks.specs.Residues.{of_pair}
use Rattle.strips.specs.Strips.{Summed}
use Rattle.strips.specs.declared.sums.Halves.{Halves}

-- the halves of a 32-bit number
module _ (z : ℤ) (h : mag z < 2 ^ 31) where
  pub split : high_of z *ℤ pos 65536 +ℤ pos (low_of z) ≡ z
  split = go z h
    where
      go : (z : ℤ) → mag z < 2 ^ 31 → high_of z *ℤ pos 65536 +ℤ pos (low_of z) ≡ z
      go (pos a) l = ap pos (omega arith)
      go (negsuc a) l =
          let q = a / 65536 in
          let r = (2 ^ 32 - suc a) % 65536 in
          ap₂ ◌+ℤ◌ (ap₂ ◌*ℤ◌ (is-neg 0 (suc q) q (omega arith)) (whole 65536) ∙ mul-gap 0 (suc q) 65536 0) (whole r) ∙ add-gap _ _ r 0
          ∙ sym (is-neg _ _ a (omega arith))

  pub high_small : nat_abs (high_of z) ≤ 2 ^ 16
  high_small = go z h
    where
      go : (z : ℤ) → mag z < 2 ^ 31 → nat_abs (high_of z) ≤ 2 ^ 16
      go (pos a) l = omega arith
      go (negsuc a) l = omega arith

pub low_small : (z : ℤ) → low_of z < 2 ^ 16
low_small z = omega arith

-- no number, and one more
pub none-held : {h : Halves} → h ≡ no_halves → Held h (pos 0) 0
none-held e = rw e (record { is = refl; high = omega arith; low = omega arith })

pub next-held : {h h' : Halves} {z : ℤ} {n : ℕ} (y : ℤ) → Held h z n → mag y < 2 ^ 31 → h' ≡ with_number h y → Held h' (z +ℤ y) (n + 1)
next-held {h} y held small e =
    rw e
    (record {
      is = joined-more 65536 h.high h.low (high_of y) (pos (low_of y)) ∙ ap₂ ◌+ℤ◌ held.is (split y small);
      high = omega (arith, size-add h.high (high_of y), held.high, high_small y small);
      low = omega (arith, size-add h.low (pos (low_of y)), held.low, low_small y);
    })

pub roomy : {h : Halves} {z : ℤ} {n : ℕ} → Held h z n → n ≤ 64 → Roomy h
roomy held few = record { high = omega (arith, held.high, few); low = omega (arith, held.low, few) }

joined-size : {h : Halves} {z : ℤ} {n : ℕ} → Held h z n → nat_abs z ≤ n * 2 ^ 33
joined-size {h} held =
    rw (sym held.is) (omega (arith, size-add (h.high *ℤ pos 65536) h.low, size-true h.high (pos 65536), held.high, held.low))

-- products with a weight that is missing
no_sign : (s : Bool) → with_sign s 0 ≡ pos 0
no_sign true = refl
no_sign false = refl

missing : (D : Design) (w x : ℤ) → nat_abs w ≡ 0 → signed_product D w x ≡ pos 0
unfolding signed_product
missing D w x e =
    ap (with_sign (unlike (negative w) (negative x))) (sym (zero_left D (nat_abs w) (nat_abs x) e)) ∙ no_sign (unlike (negative w) (negative x))

-- a sum that goes on over nothing but zeros
pub total-stops : (f : ℕ → ℤ) (n m : ℕ) → ((k : ℕ) → n ≤ k → f k ≡ pos 0) → total f (n + m) ≡ total f n
unfolding total
total-stops f n zero stop = ap (total f) (add-zero n)
total-stops f n (suc m) stop = rw (add-suc n m) (ap₂ ◌+ℤ◌ (total-stops f n m stop) (stop (n + m) (omega arith)) ∙ +ℤ_idr (total f n))

-- a loop that adds up numbers: those that came, and those of any f that is known to give them
pub record Adding (given : (ℕ → ℤ) → Type 0) (j : ℕ) (h : Halves) : Type 0 where
  pub some : (z : ℤ) × Held h z j
  pub of : (f : ℕ → ℤ) → given f → Held h (total f j) j

module _ {given : (ℕ → ℤ) → Type 0} where
  pub begun : {h : Halves} → h ≡ no_halves → Adding given 0 h
  unfolding total
  begun e = record { some = (_, none-held e); of = λ f is. none-held e }

  -- a number as a callee gives it
  pub next : {h h' : Halves} {j : ℕ} {y : ℤ} → Adding given j h → mag y < 2 ^ 31 → h' ≡ with_number h (to_z w32 (of_z w32 y)) → ((f : ℕ → ℤ) → given f → y ≡ f j) → Adding given (j + 1) h'
  next {h} {h'} {j} {y} adding small e is =
      let read = e ∙ ap (with_number h) (to_z-of_z {w = w32} {z = y} (record { sfits = small })) in
      record {
        some = (_, next-held y adding.some.1 small read);
        of = λ f gives. rw (total-next f j) (subst (λ (z : ℤ). Held h' (total f j +ℤ z) (j + 1)) (is f gives) (next-held y (adding.of f gives) small read));
      }

  pub ended : {h : Halves} {j n : ℕ} {r : ℤ} → Adding given j h → j ≡ n → r ≡ joined_of h → (f : ℕ → ℤ) → given f → (r ≡ total f n) × (nat_abs (total f n) ≤ n * 2 ^ 33)
  ended adding all er f gives = let held = rw all at (adding.of f gives) in (er ∙ held.is, joined-size held)

-- a sum of the pairs that there are
module _ (D : Design) (ws part : List ℤ) {n : ℕ} (e : n ≡ min (length ws) (length part)) where
  abbrev product : ℕ → ℤ
  product = of_pair (signed_product D) ws part

  past : (k : ℕ) → n ≤ k → n < length part → product k ≡ pos 0
  past k h g = missing D (place ws k) (place part k) (ap nat_abs (get_or-eq_default ws (pos 0) (omega arith)))

  stops : (m : ℕ) → length part ≡ n + m → total product (length part) ≡ total product n
  stops zero q = ap (total product) (q ∙ add-zero n)
  stops (suc m) q = rw q (total-stops product n (suc m) (λ k h. past k h (omega arith)))

  pub summed-pairs : {r : ℤ} → r ≡ total product n → nat_abs (total product n) ≤ n * 2 ^ 33 → Summed D ws part r
  summed-pairs er small = record { is = er ∙ sym (stops (length part - n) (omega arith)); small = rw er (omega (arith, small, e)) }

  -- by a loop over them
  pub summed : {given : (ℕ → ℤ) → Type 0} {j : ℕ} {h : Halves} {r : ℤ} → Adding given j h → given product → j ≤ n → n ≤ j → r ≡ joined_of h → Summed D ws part r
  summed adding gives inside l er = let all = ended adding (le_antisymm inside l) er product gives in summed-pairs all.0 all.1
