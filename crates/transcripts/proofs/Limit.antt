-- The limit of the input's length, and what a buffer that was written shows of the transcript. Reading one byte past the limit is enough:
-- a longer input gives the same transcript as that much of it.
use mathlib.Core.Path.{◌≡◌, sym, ap, ◌∙◌}
use Prim.Native.Nat.{ℕ, suc, ◌≤◌, ◌<◌}
use native.Mathlib.Nat.{zero-add}
use native.Mathlib.Omega.{arith}
use mathlib.Core.List.{List, ◌++◌}
use borrow.Author.Tests.{lt-ltb, le-ltb}
use lib.ListN.{length, take, drop}
use lib.Seq.{sets-eq, take_all, length-take-le, take_at, drop_at}
use Rattle.designs.proofs.Cases.{either_lt}
use Rattle.records.specs.Records.{records_of}
use Rattle.transcripts.specs.Text.{Room, Put}
use Rattle.transcripts.specs.Lines.{none, printed}
use Rattle.transcripts.specs.Transcripts.{input_most, input_too_long, unread, transcript, Written}
use Rattle.transcripts.proofs.Writing.{kept}

module _ (s : List ℕ) where
  pub short : length s ≤ input_most → transcript s ≡ printed none (records_of s)
  unfolding transcript
  short h = simp (le-ltb input_most (length s) h)

  pub long : input_most < length s → transcript s ≡ printed none (unread (input_too_long (length s)).number)
  unfolding transcript
  long h = simp (lt-ltb input_most (length s) h)

-- one byte past the limit is enough
pub enough : (s : List ℕ) → transcript (take (suc input_most) s) ≡ transcript s
enough s =
    either_lt (length s) (suc input_most) (λ l. ap transcript (take_all (suc input_most) s (omega arith)))
    (λ l. long (take (suc input_most) s) (omega (arith, length-take-le (suc input_most) s l)) ∙ sym (long s l))

-- the text at the start of a buffer
pub written : {s d d' text : List ℕ} {n : ℕ} → transcript s ≡ text → Room d 0 text → Put d 0 text d' n → Written s d d' n
written {s} {d} {d'} {text} {n} e h p =
    let count : n ≡ length text = p.next ∙ zero-add (length text) in
    let now : d' ≡ text ++ drop n d = p.written ∙ sets-eq text d 0 h.fits ∙ ap (λ (k : ℕ). text ++ drop k d) (sym p.next) in
    let fits : n ≤ length d' = omega (arith, kept p) in
    record {
      fits = fits;
      count = sym (length-take-le n d' fits);
      says = ap (λ (l : List ℕ). take n l) now ∙ take_at text (drop n d) n (sym count) ∙ sym e;
      keeps = ap (λ (l : List ℕ). drop n l) now ∙ drop_at text (drop n d) n (sym count);
    }
