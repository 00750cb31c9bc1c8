-- What the answers stand for. Definitions only.
use Rattle.std.specs.Prelude.{◌≡◌, ℕ, List, Option, Some, None, Result, Ok, Err, IfOk}
use Rattle.designs.specs.Outcomes.{first}
use Rattle.refusals.specs.Refusals.{answer, refused_by}
use Rattle.refusals.specs.declared.Refusal.{Refusal}
use Rattle.refusals.specs.declared.Refusal.TheVariants as R
use Rattle.records.specs.Frames.{Frame, reading_refusals}
use Rattle.records.specs.Kinds.{kind_of}
use Rattle.records.specs.Records.{Record, Next, found, ended, records_of}
use Rattle.records.specs.declared.Entry.{Entry}
use Rattle.records.specs.declared.Frame as declared
use Rattle.records.specs.declared.Records.{Records}
use Rattle.records.specs.declared.kinds.Kind.{Kind}
use Rattle.records.specs.declared.kinds.Kind.TheVariants as K

abbrev pub number : Kind → ℕ
number K.SignedProduct = 1
number K.SingleProduct = 2
number K.TableProduct = 3

-- What a byte is read as: the kind of that number, or refused where none has it.
abbrev pub KindRead : ℕ → Result Kind Refusal → Type 0
KindRead n (Ok k) = number k ≡ n
KindRead n (Err r) = (r ≡ R.UnknownKind) × ((kind_of n).body ≡ 0)

-- The same where so many bytes are left: the first of the reading's refusals that applies, or the kind of that number.
pub record KindOf (n left : ℕ) (r : Result Kind Refusal) : Type 0 where
  pub refusal : refused_by r ≡ first (reading_refusals (kind_of n).body left)
  pub kind : IfOk r (λ k. number k ≡ n)

abbrev pub frame_given : declared.Frame → Frame
frame_given f = record { kind = f.kind; refusal = refused_by f.reading; used = f.used }

abbrev pub entry_given : Entry → Record
entry_given e = record { kind = e.kind; outcome = answer e.answer; used = e.used }

abbrev pub reading_given : Option Entry → Next
reading_given (Some e) = found (entry_given e)
reading_given None = ended

-- The records that are still to be read.
abbrev pub records_left : Records → List Record
records_left r = records_of r.left.now
