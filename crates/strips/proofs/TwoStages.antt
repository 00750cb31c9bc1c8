-- Design 5 of a weight and a number's four codes. The kept fraction of the weight stays below the number's room where the first stage is low;
-- then, or else, what is left of both goes through the second stage; and the sign of the first stage's sum is that of the product, unless
-- the second gives nothing.
use Rattle.std.proofs.Common.{◌≡◌, ℕ, zero, suc, ◌+◌, ◌-◌, ◌*◌, ◌%◌, ◌^◌, ◌<◌, ◌≤◌, Bool, true, false, cond, ltb, leb, ℤ, pos, ◌+ℤ◌, nat_abs, sym, refl, ap, ◌∙◌, ap₂, mul-le-mul_right, arith, w32, SFits, le-ltb, lt-ltb, le-leb}
use borrow.Author.Tests.{lt-leb}
use lib.Ieee.{unlike}
use Rattle.designs.specs.Codes.{kept_code}
use Rattle.designs.specs.Designs.{kept, left_over, product, total_below, truncated, twice_truncated}
use Rattle.designs.specs.Signs.{negative, signed_product, with_sign}
use Rattle.designs.proofs.Cases.{either_lt}
use Rattle.designs.proofs.Parts.{up_to}
use Rattle.designs.proofs.SignedGaps.{sign-alone, signed_add, signed-eq}
use Rattle.designs.proofs.Truncated.{kept-lt, moved-below}
use Rattle.designs.proofs.Zeros.{zero_left, zero_right}
use Rattle.patterns.specs.Patterns.{clamped, log_pattern, raised_by}
use Rattle.patterns.proofs.KeptPatterns.{code-small}
use Rattle.patterns.proofs.Pair.{product-fits, product-size}
use Rattle.patterns.proofs.SecondStage.{by-stages, left-logs, left-none, left-small}
use Rattle.strips.specs.Codes.{code_by, Logs, SecondLogs, TwiceCoded}
use Rattle.strips.proofs.PairProducts.{sum-at}

module _ (kept-bits : ℕ) (w : ℤ) {x : ℤ} {a b c d : ℕ} (hw : nat_abs w ≤ 2 ^ 15) (l : TwiceCoded (clamped kept-bits) x a b c d) where
  abbrev t : ℕ
  t = clamped kept-bits

  abbrev A : ℕ
  A = nat_abs w

  abbrev B : ℕ
  B = nat_abs x

  abbrev pub low : Bool
  low = total_below t A B

  pub low-is : ltb (kept t A * 2 ^ (23 - t)) b ≡ low
  low-is = rw l.room (same (kept t A) (kept t B) (2 ^ (23 - t)) (omega (arith, up_to 23 t (omega arith), mul-le-mul_right (2 ^ (23 - t)) (kept-lt t B))) ∙ moved-below 23 t A B (omega arith))
    where
      same : (i j P : ℕ) → (j + 1) * P ≤ 2 ^ 23 → ltb (i * P) (2 ^ 23 - (j + 1) * P) ≡ ltb ((i + j + 1) * P) (2 ^ 23)
      same i j P h =
          either_lt (i * P) (2 ^ 23 - (j + 1) * P)
          (λ g. lt-ltb (i * P) (2 ^ 23 - (j + 1) * P) g ∙ sym (lt-ltb ((i + j + 1) * P) (2 ^ 23) (omega arith)))
          (λ g. le-ltb (i * P) (2 ^ 23 - (j + 1) * P) g ∙ sym (le-ltb ((i + j + 1) * P) (2 ^ 23) (omega arith)))

  pub first-logs : {p : ℕ} → p ≡ raised_by (kept_code 23 t) w → Logs (kept_code 23 t) w x p a
  first-logs e = record { first = hw; second = l.size; pattern = e; code = l.first }

  pub second-logs : {p q : ℕ} → p ≡ raised_by (kept_code 23 2) (pos (left_over low A)) → q ≡ cond low c d → SecondLogs (left_over low A) (left_over low B) p q
  second-logs ep eq =
      record {
        logs =
            record {
              first = omega (arith, left-small low A hw);
              second = omega (arith, left-small low B l.size);
              pattern = ep;
              code = eq ∙ code low;
            };
        first = left-small low A hw;
        second = left-small low B l.size;
        few = left-logs t A B low (λ _ _. refl) (omega arith) hw l.size;
      }
    where
      code : (low : Bool) → cond low c d ≡ code_by (kept_code 23 2) (pos (left_over low B))
      code true = l.low
      code false = l.high

  abbrev pub sign : Bool
  sign = unlike (negative w) (negative x)

  abbrev pub second : ℕ
  second = product (truncated 2) (left_over low A) (left_over low B)

  sum : product (twice_truncated t) A B ≡ product (truncated t) A B + second
  sum = by-stages t A B low (λ _ _. refl)

  pub second-small : second < 2 ^ 31
  second-small = omega (arith, sum, product-size (twice_truncated t) (omega arith) w x hw l.size)

  -- the sign bit of the first stage's sum
  pub sign-is : {p : ℕ} → p ≡ raised_by (kept_code 23 t) w → with_sign (leb (2 ^ 31) ((p + a) % 2 ^ 32)) second ≡ with_sign sign second
  sign-is {p} e = go A refl B refl
    where
      above : (s : Bool) (c : ℕ) → c < 2 ^ 30 → leb (2 ^ 31) (log_pattern s c) ≡ s
      above true c h = le-leb (2 ^ 31) (log_pattern true c) (omega arith)
      above false c h = lt-leb (2 ^ 31) (log_pattern false c) (omega arith)

      none : (s r : Bool) → second ≡ 0 → with_sign s second ≡ with_sign r second
      none true true e = refl
      none true false e = rw e refl
      none false true e = rw e refl
      none false false e = refl

      go : (m : ℕ) → m ≡ A → (n : ℕ) → n ≡ B → with_sign (leb (2 ^ 31) ((p + a) % 2 ^ 32)) second ≡ with_sign sign second
      go zero em n en = none (leb (2 ^ 31) ((p + a) % 2 ^ 32)) sign (sym (zero_left (truncated 2) (left_over low A) (left_over low B) (left-none low A (sym em))))
      go (suc m) em zero en = none (leb (2 ^ 31) ((p + a) % 2 ^ 32)) sign (sym (zero_right (truncated 2) (left_over low A) (left_over low B) (left-none low B (sym en))))
      go (suc m) em (suc n) en =
          ap (λ s. with_sign s second)
          (ap (leb (2 ^ 31)) (sum-at kept-bits (first-logs e) (omega (arith, em)) (omega (arith, en))) ∙ above sign (kept_code 23 t A + kept_code 23 t B) (omega (arith, code-small t (omega arith) A hw, code-small t (omega arith) B l.size)))

  pub is : signed_product (truncated t) w x +ℤ with_sign sign second ≡ signed_product (twice_truncated t) w x
  unfolding signed_product
  is =
      ap₂ ◌+ℤ◌ (sign-alone sign (product (truncated t) A B)) (sign-alone sign second) ∙ signed_add sign (product (truncated t) A B) 0 second 0
      ∙ signed-eq sign (product (truncated t) A B + second) 0 (product (twice_truncated t) A B) 0 (omega (arith, sum)) ∙ sym (sign-alone sign (product (twice_truncated t) A B))

  pub fits : SFits w32 (signed_product (twice_truncated t) w x)
  fits = product-fits (twice_truncated t) (omega arith) w x hw l.size
