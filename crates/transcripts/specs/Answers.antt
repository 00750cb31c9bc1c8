-- What the code's tally stands for, and what writing at the end of a text is. Definitions only.
use Rattle.std.specs.Prelude.{◌≡◌, ℕ, List}
use Rattle.transcripts.specs.declared.lines.Tally as declared
use Rattle.transcripts.specs.declared.writers.Text.{Text}
use Rattle.transcripts.specs.Lines.{Tally}
use Rattle.transcripts.specs.Text.{Room, Put}

abbrev pub tally_given : declared.Tally → Tally
tally_given t = record { accepted = t.accepted; refused = t.refused }

-- The buffer has room for so much after what is written.
abbrev pub HasRoom : Text → List ℕ → Type 0
HasRoom t text = Room t.buffer.now t.len text

-- The text t with so much at its end is t', in the same buffer.
pub record Appended (t : Text) (text : List ℕ) (t' : Text) : Type 0 where
  pub same_buffer : t'.buffer.ghost_name ≡ t.buffer.ghost_name
  pub put : Put t.buffer.now t.len text t'.buffer.now t'.len
