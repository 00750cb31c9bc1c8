-- Inputs of the bench and what is printed of each, of the meaning: the sample of docs/SCOPE.md, "The bench program's records", and each
-- refusal and limit of "Reading records"; in two lists, each with one proof.
use Rattle.std.specs.Prelude.{◌≡◌, refl, List, [], ◌∷◌, map, ℕ, replicate}
use Rattle.transcripts.specs.Text.{ascii}
use Rattle.transcripts.specs.Transcripts.{transcript}

-- 01 01 00 03 00 03 00, 03 FF FF, 02 00 00 C0 3F 00 00 C0 3F, 01 09 00 01 00 01 00, 07
abbrev pub sample : List ℕ
sample =
    1 ∷ 1 ∷ 0 ∷ 3 ∷ 0 ∷ 3 ∷ 0
    ∷ 3 ∷ 255 ∷ 255
    ∷ 2 ∷ 0 ∷ 0 ∷ 192 ∷ 63 ∷ 0 ∷ 0 ∷ 192 ∷ 63
    ∷ 1 ∷ 9 ∷ 0 ∷ 1 ∷ 0 ∷ 1 ∷ 0
    ∷ 7
    ∷ []

-- An input, and what is printed of it.
pub figures : List (List ℕ × List ℕ)
figures =
    (sample, ascii "1 ok 8\n3 ok 65024\n2 ok 1073741824\n1 no 1\n7 no 17\ntotal 3 2\n")
    ∷ ([], ascii "total 0 0\n")
    ∷ (1 ∷ 2 ∷ 0 ∷ 251 ∷ 255 ∷ 6 ∷ 0 ∷ [], ascii "1 ok -32\ntotal 1 0\n")
    ∷ (1 ∷ 1 ∷ 1 ∷ 3 ∷ 0 ∷ 3 ∷ 0 ∷ 3 ∷ 0 ∷ 9 ∷ [], ascii "1 no 3\n3 ok 0\ntotal 1 1\n")
    ∷ (2 ∷ 0 ∷ 0 ∷ 128 ∷ 127 ∷ 0 ∷ 0 ∷ 128 ∷ 63 ∷ [], ascii "2 no 8\ntotal 0 1\n")
    ∷ (3 ∷ 10 ∷ 1 ∷ 3 ∷ 255 ∷ [], ascii "3 ok 10\n3 no 18\ntotal 1 1\n")
    ∷ (255 ∷ 3 ∷ 1 ∷ 1 ∷ [], ascii "255 no 17\ntotal 0 1\n")
    ∷ []

pub figures-hold : map (λ f. transcript f.0) figures ≡ map (λ f. f.1) figures
unfolding transcript figures
figures-hold = refl

-- The same on either side of the limit of the input's length.
pub limits : List (List ℕ × List ℕ)
limits =
    (replicate 65536 0, ascii "0 no 17\ntotal 0 1\n")
    ∷ (replicate 65537 3, ascii "0 no 19\ntotal 0 1\n")
    ∷ []

pub limits-hold : map (λ f. transcript f.0) limits ≡ map (λ f. f.1) limits
unfolding transcript limits
limits-hold = refl
