-- Examples by computation: Book A of docs/SPECIFICATION.md, claimed as P1 makes it, is written as exactly these bytes.
-- Assumes nothing.
use Prim.Native.Nat.{ℕ}
use mathlib.Core.Path.{◌≡◌, refl}
use mathlib.Core.List.{List, [], ◌∷◌, ◌++◌}
use lib.IntN.{pos}
use Rattle.tables.specs.declared.Fault.TheVariants.{TextSize}
use Rattle.tables.specs.Faults.{accepted, refused}
use Rattle.tables.specs.Sound.{Tables, lent}
use Rattle.writing.specs.BookForms.{text_of}
use Rattle.writing.specs.Writing.{write_of}
use Rattle.writing.proofs.Computes.{computes}

-- The tables with these marks, and the claim.
unfoldable pub book_a : List ℕ → Tables
book_a marks =
    lent 4 (1 ∷ 0 ∷ 1 ∷ 1 ∷ 1 ∷ 1 ∷ 2 ∷ 2 ∷ 1 ∷ 3 ∷ 3 ∷ 1 ∷ []) (0 ∷ 4 ∷ 2 ∷ 3 ∷ 2 ∷ 6 ∷ []) (4 ∷ 2 ∷ []) (pos 0 ∷ pos 10 ∷ pos 0 ∷ pos 1 ∷ []) (6 ∷ [])
    (pos 60 ∷ []) marks

unfoldable pub no_marks : List ℕ
no_marks = 0 ∷ 0 ∷ 0 ∷ 0 ∷ []

unfoldable pub values : List ℕ
values = 0 ∷ 0 ∷ 0 ∷ 1 ∷ []

unfoldable pub levels : List ℕ
levels = 0 ∷ 1 ∷ 1 ∷ 2 ∷ []

-- (atoms 4)
unfoldable pub atoms_line : List ℕ
atoms_line = 40 ∷ 97 ∷ 116 ∷ 111 ∷ 109 ∷ 115 ∷ 32 ∷ 52 ∷ 41 ∷ 10 ∷ []

-- (defined 1 3)
unfoldable pub defined_line : List ℕ
defined_line = 40 ∷ 100 ∷ 101 ∷ 102 ∷ 105 ∷ 110 ∷ 101 ∷ 100 ∷ 32 ∷ 49 ∷ 32 ∷ 51 ∷ 41 ∷ 10 ∷ []

unfoldable pub other_lines : List ℕ
other_lines =
    -- (rule 1 0)
    40 ∷ 114 ∷ 117 ∷ 108 ∷ 101 ∷ 32 ∷ 49 ∷ 32 ∷ 48 ∷ 41 ∷ 10 ∷
    -- (rule 1 2)
    40 ∷ 114 ∷ 117 ∷ 108 ∷ 101 ∷ 32 ∷ 49 ∷ 32 ∷ 50 ∷ 41 ∷ 10 ∷
    -- (rule 2 1)
    40 ∷ 114 ∷ 117 ∷ 108 ∷ 101 ∷ 32 ∷ 50 ∷ 32 ∷ 49 ∷ 41 ∷ 10 ∷
    -- (rule 3 (not 1))
    40 ∷ 114 ∷ 117 ∷ 108 ∷ 101 ∷ 32 ∷ 51 ∷ 32 ∷ 40 ∷ 110 ∷ 111 ∷ 116 ∷ 32 ∷ 49 ∷ 41 ∷ 41 ∷ 10 ∷
    -- (clause 1 3)
    40 ∷ 99 ∷ 108 ∷ 97 ∷ 117 ∷ 115 ∷ 101 ∷ 32 ∷ 49 ∷ 32 ∷ 51 ∷ 41 ∷ 10 ∷
    -- (load 0 10 (60 3))
    40 ∷ 108 ∷ 111 ∷ 97 ∷ 100 ∷ 32 ∷ 48 ∷ 32 ∷ 49 ∷ 48 ∷ 32 ∷ 40 ∷ 54 ∷ 48 ∷ 32 ∷ 51 ∷ 41 ∷ 41 ∷ 10 ∷
    -- (claim (0 0) (0 1) (0 1) (1 2))
    40 ∷ 99 ∷ 108 ∷ 97 ∷ 105 ∷ 109 ∷ 32 ∷ 40 ∷ 48 ∷ 32 ∷ 48 ∷ 41 ∷ 32 ∷ 40 ∷ 48 ∷ 32 ∷ 49 ∷ 41 ∷ 32 ∷ 40 ∷ 48 ∷ 32 ∷ 49 ∷ 41 ∷ 32 ∷ 40 ∷ 49 ∷ 32 ∷ 50 ∷ 41 ∷ 41 ∷ 10 ∷
    []

-- The text without marks, and with two atoms marked.
pub plain_text : text_of (book_a no_marks) values levels ≡ (atoms_line ++ other_lines)
unfolding computes book_a no_marks values levels atoms_line other_lines
plain_text = refl

pub marked_text : text_of (book_a (0 ∷ 1 ∷ 0 ∷ 1 ∷ [])) values levels ≡ (atoms_line ++ (defined_line ++ other_lines))
unfolding computes book_a values levels atoms_line defined_line other_lines
marked_text = refl

-- The text without marks has 124 bytes: a buffer of as many is enough, and one of a byte less is not.
pub exact_buffer : write_of (book_a no_marks) values levels 124 ≡ accepted
unfolding computes book_a no_marks values levels
exact_buffer = refl

pub buffer_one_short : write_of (book_a no_marks) values levels 123 ≡ refused TextSize 0
unfolding computes book_a no_marks values levels
buffer_one_short = refl
