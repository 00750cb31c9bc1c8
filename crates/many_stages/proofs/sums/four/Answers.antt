-- The four products stand for whole numbers, and their sum is the product with the sum of the powers.
use Rattle.std.proofs.Common.{◌≡◌, ℕ, ◌+◌, ◌%◌, ◌^◌, ℤ, ◌*ℤ◌}
use lib.Ieee.{add, binary32, binary64, of_bits, of_int}
use Rattle.patterns.specs.Patterns.{Stands}
use Rattle.many_stages.specs.Powers.{left_by, next_power}
use Rattle.many_stages.specs.Strips.{Four}
use Rattle.many_stages.proofs.NextPowers.{byte_last}
use Rattle.many_stages.proofs.Terms.{all_small, all-sum, cast_is, casts, first-sum, four-room, next-sum, no_nan, widens, with-last, with-next}
use Rattle.many_stages.proofs.sums.four.Goals as goal

module _ {w z : ℤ} {p a b c d : ℕ} (s : Four w z p a b c d) where
  first : {q : ℕ} → q ≡ (p + a) % 2 ^ 32 → Stands q (w *ℤ next_power (left_by 0 z))
  first = with-next (four-room s) 0 s.pattern s.first

  second : {q : ℕ} → q ≡ (p + b) % 2 ^ 32 → Stands q (w *ℤ next_power (left_by 1 z))
  second = with-next (four-room s) 1 s.pattern s.second

  third : {q : ℕ} → q ≡ (p + c) % 2 ^ 32 → Stands q (w *ℤ next_power (left_by 2 z))
  third = with-next (four-room s) 2 s.pattern s.third

  fourth : {q : ℕ} → q ≡ (p + d) % 2 ^ 32 → Stands q (w *ℤ left_by 3 z)
  fourth = with-last (four-room s) 3 (byte_last z s.byte) s.pattern s.fourth

  sum : {q0 q1 q2 q3 : ℕ} → q0 ≡ (p + a) % 2 ^ 32 → q1 ≡ (p + b) % 2 ^ 32 → q2 ≡ (p + c) % 2 ^ 32 → q3 ≡ (p + d) % 2 ^ 32
      → add binary32 (add binary32 (add binary32 (of_bits binary32 q0) (of_bits binary32 q1)) (of_bits binary32 q2)) (of_bits binary32 q3)
      ≡ of_int binary64 (w *ℤ z)
  sum e0 e1 e2 e3 =
      let r = four-room s in
      all-sum r 3 (next-sum r 2 (next-sum r 1 (first-sum r (first e0)) (second e1)) (third e2)) (fourth e3)

pub float_from_bits-first : goal.float_from_bits-first
float_from_bits-first c = no_nan (first c.requires.2 c.wrapping_add_u32-first.ensures.value)

pub float_from_bits-second : goal.float_from_bits-second
float_from_bits-second c = no_nan (second c.requires.2 c.wrapping_add_u32-second.ensures.value)

pub float_from_bits-third : goal.float_from_bits-third
float_from_bits-third c = no_nan (third c.requires.2 c.wrapping_add_u32-third.ensures.value)

pub float_from_bits-fourth : goal.float_from_bits-fourth
float_from_bits-fourth c = no_nan (fourth c.requires.2 c.wrapping_add_u32-fourth.ensures.value)

pub float_to_float-result : goal.float_to_float-result
float_to_float-result c =
    let s = c.requires.2 in
    widens _ (sum s c.wrapping_add_u32-first.ensures.value c.wrapping_add_u32-second.ensures.value c.wrapping_add_u32-third.ensures.value
    c.wrapping_add_u32-fourth.ensures.value) (all_small (four-room s))

pub float_to_int-result : goal.float_to_int-result
float_to_int-result c =
    let s = c.requires.2 in
    casts _ (sum s c.wrapping_add_u32-first.ensures.value c.wrapping_add_u32-second.ensures.value c.wrapping_add_u32-third.ensures.value
    c.wrapping_add_u32-fourth.ensures.value) (all_small (four-room s))

pub returns : goal.returns
returns c w z s =
    cast_is _ (sum s c.wrapping_add_u32-first.ensures.value c.wrapping_add_u32-second.ensures.value c.wrapping_add_u32-third.ensures.value
    c.wrapping_add_u32-fourth.ensures.value) (all_small (four-room s))
