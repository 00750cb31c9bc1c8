-- Text written in pieces: nothing, one byte, a piece and then a piece, and the room that is left after one, at a place of a buffer and at the
-- end of a text. Each follows from what writing a list in two parts does.
use Prim.Native.Nat.{ℕ, suc, ◌+◌}
use mathlib.Core.Path.{◌≡◌, refl, sym, ap, ◌∙◌}
use mathlib.Core.List.{List, [], ◌∷◌, ◌++◌}
use native.Mathlib.Omega.{arith}
use native.Mathlib.Nat.{add-zero}
use lib.ListN.{length, set, length-append}
use lib.Seq.{sets, length-sets}
use Rattle.transcripts.specs.Text.{Room, Put}
use Rattle.transcripts.specs.Answers.{HasRoom, Appended}
use Rattle.transcripts.specs.declared.writers.Text.{Text}

sets-append : (d a b : List ℕ) (at : ℕ) → sets d at (a ++ b) ≡ sets (sets d at a) (at + length a) b
sets-append d [] b at = ap (λ (k : ℕ). sets d k b) (sym (add-zero at))
sets-append d (x ∷ a) b at =
    let e : suc at + length a ≡ at + suc (length a) = omega arith in
    sets-append (set d at x) a b (suc at) ∙ ap (λ (k : ℕ). sets (sets (set d at x) (suc at) a) k b) e

-- a piece fits where it fits with the rest
pub fit : {d a : List ℕ} {at : ℕ} (b : List ℕ) → Room d at (a ++ b) → Room d at a
fit {d} {a} b h = omega (arith, length-append a b)

pub one : (d : List ℕ) (at b : ℕ) → Put d at (b ∷ []) (set d at b) (at + 1)
one d at b = record { next = refl; written = refl }

module _ {d a e : List ℕ} {at p : ℕ} where
  -- writing keeps the buffer's length
  pub kept : Put d at a e p → length e ≡ length d
  kept x = ap length x.written ∙ length-sets d at a

  -- after a piece there is room for the rest
  pub room_at : (b : List ℕ) → Put d at a e p → Room d at (a ++ b) → Room e p b
  room_at b x h = omega (arith, kept x, x.next, length-append a b)

  -- a piece and then a piece
  pub then_at : {b g : List ℕ} {r : ℕ} → Put d at a e p → Put e p b g r → Put d at (a ++ b) g r
  then_at {b} x y =
      record {
        next = omega (arith, x.next, y.next, length-append a b);
        written = y.written ∙ ap (λ (l : List ℕ). sets l p b) x.written ∙ ap (λ (k : ℕ). sets (sets d at a) k b) x.next ∙ sym (sets-append d a b at);
      }

-- the same at the end of a text
pub nothing : (t : Text) → Appended t [] t
nothing t = record { same_buffer = refl; put = record { next = omega arith; written = refl } }

module _ {t u : Text} {a : List ℕ} where
  pub room : (b : List ℕ) → Appended t a u → HasRoom t (a ++ b) → HasRoom u b
  room b x h = room_at b x.put h

  pub then : {b : List ℕ} {v : Text} → Appended t a u → Appended u b v → Appended t (a ++ b) v
  then x y = record { same_buffer = y.same_buffer ∙ x.same_buffer; put = then_at x.put y.put }
