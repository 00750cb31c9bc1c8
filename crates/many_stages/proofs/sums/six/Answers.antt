-- The six products stand for whole numbers, and their sum is the product with the sum of the powers.
use Rattle.std.proofs.Common.{◌≡◌, ℕ, ◌+◌, ◌%◌, ◌^◌, ℤ, ◌*ℤ◌}
use lib.Ieee.{add, binary32, binary64, Float, of_bits, of_int}
use Rattle.patterns.specs.Patterns.{Stands}
use Rattle.many_stages.specs.Powers.{left_by, next_power}
use Rattle.many_stages.specs.Strips.{Six}
use Rattle.many_stages.proofs.NextPowers.{short-last}
use Rattle.many_stages.proofs.Terms.{all_small, all-sum, cast_is, casts, first-sum, next-sum, no_nan, six-room, widens, with-last, with-next}
use Rattle.many_stages.proofs.sums.six.Goals as goal

-- a sum and one float more, by its bits
abbrev plus : Float → ℕ → Float
plus x q = add binary32 x (of_bits binary32 q)

module _ {w z : ℤ} {p a b c d e f : ℕ} (s : Six w z p a b c d e f) where
  first : {q : ℕ} → q ≡ (p + a) % 2 ^ 32 → Stands q (w *ℤ next_power (left_by 0 z))
  first = with-next (six-room s) 0 s.pattern s.first

  second : {q : ℕ} → q ≡ (p + b) % 2 ^ 32 → Stands q (w *ℤ next_power (left_by 1 z))
  second = with-next (six-room s) 1 s.pattern s.second

  third : {q : ℕ} → q ≡ (p + c) % 2 ^ 32 → Stands q (w *ℤ next_power (left_by 2 z))
  third = with-next (six-room s) 2 s.pattern s.third

  fourth : {q : ℕ} → q ≡ (p + d) % 2 ^ 32 → Stands q (w *ℤ next_power (left_by 3 z))
  fourth = with-next (six-room s) 3 s.pattern s.fourth

  fifth : {q : ℕ} → q ≡ (p + e) % 2 ^ 32 → Stands q (w *ℤ next_power (left_by 4 z))
  fifth = with-next (six-room s) 4 s.pattern s.fifth

  sixth : {q : ℕ} → q ≡ (p + f) % 2 ^ 32 → Stands q (w *ℤ left_by 5 z)
  sixth = with-last (six-room s) 5 (short-last z s.short) s.pattern s.sixth

  sum : {q0 q1 q2 q3 q4 q5 : ℕ} → q0 ≡ (p + a) % 2 ^ 32 → q1 ≡ (p + b) % 2 ^ 32 → q2 ≡ (p + c) % 2 ^ 32 → q3 ≡ (p + d) % 2 ^ 32
      → q4 ≡ (p + e) % 2 ^ 32 → q5 ≡ (p + f) % 2 ^ 32
      → plus (plus (plus (plus (plus (of_bits binary32 q0) q1) q2) q3) q4) q5 ≡ of_int binary64 (w *ℤ z)
  sum e0 e1 e2 e3 e4 e5 =
      let r = six-room s in
      all-sum r 5
      (next-sum r 4 (next-sum r 3 (next-sum r 2 (next-sum r 1 (first-sum r (first e0)) (second e1)) (third e2)) (fourth e3)) (fifth e4)) (sixth e5)

pub float_from_bits-first : goal.float_from_bits-first
float_from_bits-first c = no_nan (first c.requires.2 c.wrapping_add_u32-first.ensures.value)

pub float_from_bits-second : goal.float_from_bits-second
float_from_bits-second c = no_nan (second c.requires.2 c.wrapping_add_u32-second.ensures.value)

pub float_from_bits-third : goal.float_from_bits-third
float_from_bits-third c = no_nan (third c.requires.2 c.wrapping_add_u32-third.ensures.value)

pub float_from_bits-fourth : goal.float_from_bits-fourth
float_from_bits-fourth c = no_nan (fourth c.requires.2 c.wrapping_add_u32-fourth.ensures.value)

pub float_from_bits-fifth : goal.float_from_bits-fifth
float_from_bits-fifth c = no_nan (fifth c.requires.2 c.wrapping_add_u32-fifth.ensures.value)

pub float_from_bits-sixth : goal.float_from_bits-sixth
float_from_bits-sixth c = no_nan (sixth c.requires.2 c.wrapping_add_u32-sixth.ensures.value)

pub float_to_float-result : goal.float_to_float-result
float_to_float-result c =
    let s = c.requires.2 in
    widens _ (sum s c.wrapping_add_u32-first.ensures.value c.wrapping_add_u32-second.ensures.value c.wrapping_add_u32-third.ensures.value
    c.wrapping_add_u32-fourth.ensures.value c.wrapping_add_u32-fifth.ensures.value c.wrapping_add_u32-sixth.ensures.value) (all_small (six-room s))

pub float_to_int-result : goal.float_to_int-result
float_to_int-result c =
    let s = c.requires.2 in
    casts _ (sum s c.wrapping_add_u32-first.ensures.value c.wrapping_add_u32-second.ensures.value c.wrapping_add_u32-third.ensures.value
    c.wrapping_add_u32-fourth.ensures.value c.wrapping_add_u32-fifth.ensures.value c.wrapping_add_u32-sixth.ensures.value) (all_small (six-room s))

pub returns : goal.returns
returns c w z s =
    cast_is _ (sum s c.wrapping_add_u32-first.ensures.value c.wrapping_add_u32-second.ensures.value c.wrapping_add_u32-third.ensures.value
    c.wrapping_add_u32-fourth.ensures.value c.wrapping_add_u32-fifth.ensures.value c.wrapping_add_u32-sixth.ensures.value) (all_small (six-room s))
