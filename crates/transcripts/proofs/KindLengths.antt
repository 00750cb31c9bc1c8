-- How long a record's line can be, kind by kind. A refusal has two digits at most, and a value is bounded by the widths of its operands,
-- which are bytes; so every record that is read whole pays for its line with its bytes, at the rate of a table record.
use mathlib.Core.Path.{◌≡◌, subst}
use Prim.Native.Nat.{ℕ, suc, ◌%◌, ◌+◌, ◌*◌, ◌^◌, ◌≤◌, ◌<◌}
use native.Mathlib.Omega.{arith}
use mathlib.Core.Bool.{Bool, true, false, ◌||◌, cond}
use mathlib.Core.List.{List}
use lib.Dec.{T, ltb, ltb→lt}
use lib.Ieee.{unlike}
use lib.IntN.{ℤ, pos, nat_abs}
use lib.ListN.{length, get_or, length-append}
use Rattle.designs.specs.Designs.{mitchell, product}
use Rattle.designs.specs.Outcomes.{Outcome, accepted, refused, Refusal, first, otherwise}
use Rattle.designs.specs.Products.{design_of, refusals, inside_signed, signed_outcome}
use Rattle.designs.specs.Signs.{negative, signed_product}
use Rattle.designs.proofs.Cases.{by_bool, by-lt}
use Rattle.designs.proofs.Lists.{every}
use Rattle.designs.proofs.Refusals.{Numbered, numbers, among, by-outcome}
use Rattle.designs.proofs.Sizes.{size-sign}
use Rattle.designs.proofs.Widths.{product_lt}
use Rattle.formats.specs.Formats.{binary32, pattern, is_zero}
use Rattle.singles.specs.Singles.{Fields, operand_refusals, outcome, product_fields, result_outcome, result_refusals, sign_of, single_outcome}
use Rattle.records.specs.Fields.{field8, field16, field32, signed}
use Rattle.records.specs.Kinds.{Kind, kind_of, natural, signed_record, single_record, table_record}
use Rattle.records.proofs.EveryKind.{by_kind}
use Rattle.records.proofs.TwosComplement.{signed-size}
use Rattle.transcripts.specs.Text.{decimal, signed_decimal}
use Rattle.transcripts.specs.Lines.{line, outcome_text}
use Rattle.transcripts.proofs.Decimals.{decimal-length, signed-length}

-- the most bytes of a number: a refusal, "19"; a signed product, "-4294967295"; a pattern, "4294967295"; a table's product, "65535"
abbrev pub refusal_most : ℕ
refusal_most = 2

abbrev signed_most : ℕ
signed_most = 11

abbrev pattern_most : ℕ
pattern_most = 10

abbrev table_most : ℕ
table_most = 5

-- the bytes of a line beside its two numbers: " ok " and a line feed
abbrev pub line_rest : ℕ
line_rest = 5

-- a table record's bytes, and its longest line, "3 ok 65024" with its line feed
abbrev pub table_bytes : ℕ
table_bytes = 3

abbrev pub table_line : ℕ
table_line = 11

-- an outcome's number has at most m bytes
abbrev Short : ℕ → Outcome ℤ → Type 0
Short m (accepted v) = length (signed_decimal v) ≤ m
Short m (refused n) = length (decimal n) ≤ m

-- the refusals of a list have two digits at most, which is computed
abbrev two_digits : ℕ → Bool
two_digits n = ltb n 100

abbrev Plain : List Refusal → Type 0
Plain rs = T (every two_digits (numbers rs))

pub refusal-length : (rs : List Refusal) → Plain rs → (n : ℕ) → first rs ≡ n → length (decimal n) ≤ refusal_most
refusal-length rs plain n e = decimal-length 1 n (ltb→lt n 100 (subst (λ (k : ℕ). T (two_digits k)) e (among two_digits rs tt plain)))

-- a claim on what is judged by them, from the claim on what is given where none applies
judged : {X : Type 0} (P : Outcome X → Type 0) → ((n : ℕ) → length (decimal n) ≤ refusal_most → P (refused n)) → (rs : List Refusal) → Numbered rs → Plain rs
    → {o : Outcome X} → P o → P (otherwise (first rs) o)
judged P refuse rs numbered plain given = by-outcome P rs numbered (λ n e. refuse n (refusal-length rs plain n e)) (λ _. given)

plain-length : (k n : ℕ) → n < 10 ^ suc k → length (signed_decimal (pos n)) ≤ suc k
unfolding signed_decimal
plain-length k n h = decimal-length k n h

-- the body's elements are bytes
abbrev pub Bytes : List ℕ → Type 0
Bytes s = (i : ℕ) → get_or s i 0 < 256

-- kind 1: a minus sign and ten digits
product-size : (design setting : ℕ) (x y : ℤ) → nat_abs x < 2 ^ 16 → nat_abs y < 2 ^ 16 → nat_abs (signed_product (design_of design setting) x y) < 10 ^ 10
unfolding signed_product
product-size design setting x y hx hy =
    let D = design_of design setting in
    omega (arith, size-sign (unlike (negative x) (negative y)) (product D (nat_abs x) (nat_abs y)), product_lt D 16 16 (nat_abs x) (nat_abs y) hx hy)

signed-short : (b : List ℕ) → Bytes b → Short signed_most (signed_record b)
unfolding signed_record signed_outcome refusals
signed-short b bs =
    let x = signed 16 (field16 b 2) in
    let y = signed 16 (field16 b 4) in
    judged (Short signed_most) (λ n h. omega arith) (refusals (field8 b 0) 16 (field8 b 1) (inside_signed 16 x) (inside_signed 16 y)) tt tt
    (signed-length 9 _ (product-size (field8 b 0) (field8 b 1) x y (signed-size 16 (field16 b 2) (omega (arith, bs 2, bs 3))) (signed-size 16 (field16 b 4) (omega (arith, bs 4, bs 5)))))

-- kind 2: ten digits
fields-small : (a b : ℕ) → ((product_fields binary32 a b).exponent ≤ 511) × ((product_fields binary32 a b).fraction < 2 ^ 24)
unfolding product_fields
fields-small a b =
    by-lt (λ (r : Fields). (r.exponent ≤ 511) × (r.fraction < 2 ^ 24)) (a % 2 ^ 23 + b % 2 ^ 23) (2 ^ 23) (λ h. (omega arith, omega arith)) (λ h. (omega arith, omega arith))

pattern-length : (minus : Bool) (E e : ℕ) → E ≤ 511 → e < 2 ^ 24 → length (signed_decimal (pos (pattern binary32 minus E e))) ≤ pattern_most
pattern-length true E e h l = plain-length 9 _ (omega arith)
pattern-length false E e h l = plain-length 9 _ (omega arith)

product-short : (a b : ℕ) → Short pattern_most (natural (single_outcome a b))
unfolding single_outcome outcome operand_refusals result_outcome result_refusals
product-short a b =
    let r = product_fields binary32 a b in
    let s = sign_of binary32 a b in
    judged P (λ n h. omega arith) (operand_refusals binary32 a b) tt tt
    (by_bool (λ z. P (cond z (accepted (pattern binary32 s 0 0)) (result_outcome binary32 s r))) (is_zero binary32 a || is_zero binary32 b)
    (λ _. pattern-length s 0 0 (omega arith) (omega arith))
    (λ _. judged P (λ n h. omega arith) (result_refusals binary32 r.exponent) tt tt (pattern-length s _ _ (fields-small a b).0 (fields-small a b).1)))
  where
    P : Outcome ℕ → Type 0
    P o = Short pattern_most (natural o)

single-short : (b : List ℕ) → Short pattern_most (single_record b)
unfolding single_record
single-short b = product-short (field32 b 0) (field32 b 4)

-- kind 3: five digits
table-short : (b : List ℕ) → Bytes b → Short table_most (table_record b)
unfolding table_record
table-short b bs = plain-length 4 _ (omega (arith, product_lt mitchell 8 8 (field8 b 0) (field8 b 1) (bs 0) (bs 1)))

-- a line, by the digits of its kind and the bytes of its number
pub line-length : (j k m : ℕ) (o : Outcome ℤ) → k < 10 ^ suc j → Short m o → length (line k o) ≤ suc j + m + line_rest
unfolding line outcome_text
line-length j k m (accepted v) h s = simp length-append (omega (arith, decimal-length j k h))
line-length j k m (refused n) h s = simp length-append (omega (arith, decimal-length j k h))

-- a record that is read whole pays for its line
pub pays : (n : ℕ) (b : List ℕ) → Bytes b → 0 < (kind_of n).body
    → table_bytes * length (line n ((kind_of n).outcome b)) ≤ table_line * (1 + (kind_of n).body)
pays n b bs =
    by_kind (λ (k : Kind). 0 < k.body → table_bytes * length (line n (k.outcome b)) ≤ table_line * (1 + k.body)) n
    (λ h. absurd (omega arith)) (
      λ e _. omega (arith, line-length 0 n signed_most (signed_record b) (omega (arith, e)) (signed-short b bs)),
      (
        λ e _. omega (arith, line-length 0 n pattern_most (single_record b) (omega (arith, e)) (single-short b)),
        (λ e _. omega (arith, line-length 0 n table_most (table_record b) (omega (arith, e)) (table-short b bs)), tt),
      ),
    )
