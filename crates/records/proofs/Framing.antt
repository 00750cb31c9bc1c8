-- The frame of an input's first record, by how the reading goes: refused, it takes all that is left; otherwise its kind is known and its bytes
-- are there. What passes the reading is what the law of the first refusal gives where it is 0.
use mathlib.Core.Path.{◌≡◌, refl, sym, ap, ◌∙◌}
use Prim.Native.Nat.{ℕ, zero, suc, ◌+◌, ◌≤◌, ◌<◌}
use native.Mathlib.Omega.{arith}
use mathlib.Core.List.{List}
use borrow.Author.Tests.{eqb-false, leb-false, le-leb, lt-leb, ne_eqb}
use lib.ListN.{length, get_or}
use Rattle.designs.specs.Outcomes.{Refusal, first}
use Rattle.designs.proofs.Refusals.{none}
use Rattle.std.specs.Prelude.{Ok, Err, IfOk}
use Rattle.refusals.proofs.Judging.{numbered}
use Rattle.refusals.specs.Refusals.{number as of-refusal, refused_by}
use Rattle.refusals.specs.declared.Refusal as D
use Rattle.records.specs.Answers.{KindOf, KindRead, frame_given, number}
use Rattle.records.specs.declared.Frame as declared
use Rattle.records.specs.declared.kinds.Kind.{Kind}
use Rattle.records.specs.declared.kinds.Kind.TheVariants as K
use Rattle.records.specs.Kinds.{kind_of}
use Rattle.records.specs.Frames.{Frame, reading_refusals, takes, frame}

-- a kind has a body, of fewer than 256 bytes
pub has_body : (k : Kind) → (0 < (kind_of (number k)).body) × ((kind_of (number k)).body < 256)
unfolding kind_of
has_body K.SignedProduct = (omega arith, omega arith)
has_body K.SingleProduct = (omega arith, omega arith)
has_body K.TableProduct = (omega arith, omega arith)

-- the tests of the reading in their order, on a kind's byte and the bytes that are left
module _ (n left : ℕ) where
  pub unknown-kind : {r : D.Refusal} → KindRead n (Err r) → KindOf n left (Err r)
  unfolding first reading_refusals
  unknown-kind h = record { refusal = rw (h.0, h.1); kind = tt }

  module _ (k : Kind) (known : KindRead n (Ok k)) {body : ℕ} (is : body ≡ (kind_of (number k)).body) where
    its-body : (kind_of n).body ≡ body
    its-body = ap (λ (m : ℕ). (kind_of m).body) (sym known) ∙ sym is

    pub cut-short : left ≤ body → KindOf n left (Err D.TheVariants.CutShort)
    unfolding first reading_refusals
    cut-short h = record { refusal = rw its-body (simp (ne_eqb body 0 (omega (arith, (has_body k).0)), le-leb left body h)); kind = tt }

    pub whole : body < left → KindOf n left (Ok k)
    unfolding first reading_refusals
    whole h = record { refusal = rw its-body (simp (ne_eqb body 0 (omega (arith, (has_body k).0)), lt-leb left body h)); kind = known }

-- one that is refused takes all that is left
takes-all : (n own left : ℕ) → (n ≡ 0 → ⊥) → takes n own left ≡ left
takes-all zero own left h = absurd (h refl)
takes-all (suc n) own left h = refl

-- the frame that the code makes of the kind's number, the body's length and the refusal that it computed
pub framed : (s : List ℕ) {kind body refusal used : ℕ} → kind ≡ get_or s 0 0 → body ≡ (kind_of kind).body
    → refusal ≡ first (reading_refusals body (length s)) → used ≡ takes refusal (1 + body) (length s)
    → record { kind = kind; refusal = refusal; used = used } ≡ frame s
unfolding frame
framed s k b n u = cc

-- and of what the reading gave of the kind's byte
module _ (s : List ℕ) {n : ℕ} (is : n ≡ get_or s 0 0) where
  pub framed-whole : (k : Kind) {body : ℕ} → KindOf n (length s) (Ok k) → body ≡ (kind_of (number k)).body
      → record { kind = n; refusal = 0; used = 1 + body } ≡ frame s
  framed-whole k read b = framed s is refl read.refusal (ap (λ (m : ℕ). 1 + m) (b ∙ ap (λ (m : ℕ). (kind_of m).body) read.kind))

  pub framed-refused : (r : D.Refusal) → KindOf n (length s) (Err r) → record { kind = n; refusal = of-refusal r; used = length s } ≡ frame s
  framed-refused r read = framed s is refl read.refusal (sym (takes-all (of-refusal r) (1 + (kind_of n).body) (length s) (numbered r)))

module _ (s : List ℕ) where
  abbrev pub kind : ℕ
  kind = get_or s 0 0

  abbrev pub body : ℕ
  body = (kind_of kind).body

  abbrev pub refusals : List Refusal
  refusals = reading_refusals body (length s)

  -- a claim on the frame, from the claim on one that is refused and on one that passes
  pub by-frame : (P : Frame → Type 0) → ((n : ℕ) → first refusals ≡ suc n → P (record { kind = kind; refusal = suc n; used = length s }))
      → (0 < body → 1 + body ≤ length s → P (record { kind = kind; refusal = 0; used = 1 + body })) → P (frame s)
  unfolding frame reading_refusals
  by-frame P refuse give = go (first refusals) refl
    where
      go : (n : ℕ) → first refusals ≡ n → P (record { kind = kind; refusal = n; used = takes n (1 + body) (length s) })
      go zero e =
          let passed = none refusals tt e in
          give (omega (arith, eqb-false body 0 (passed 0))) (omega (arith, leb-false (length s) body (passed 1)))
      go (suc n) e = refuse n e

-- one that passes takes its kind's byte and its body, which are there
pub passed : (s : List ℕ) {f : Frame} → f ≡ frame s → f.refusal ≡ 0 → (f.used ≡ 1 + (kind_of f.kind).body) × (f.used ≤ length s)
passed s e =
    rw e (by-frame s (λ (f : Frame). f.refusal ≡ 0 → (f.used ≡ 1 + (kind_of f.kind).body) × (f.used ≤ length s))
    (λ n _ z. absurd (omega arith)) (λ _ l _. (refl, l)))

-- a frame that the code gave of a kind is of a whole record of that kind
pub whole-frame : (s : List ℕ) (f : declared.Frame) (k : Kind) → f.reading ≡ Ok k → frame_given f ≡ frame s → IfOk f.reading (λ m. number m ≡ f.kind)
    → (f.used ≡ 1 + (kind_of (number k)).body) × (f.used ≤ length s)
whole-frame s f k is given named =
    let e : number k ≡ f.kind = rw is at named in rw e (passed s given (ap refused_by is))
