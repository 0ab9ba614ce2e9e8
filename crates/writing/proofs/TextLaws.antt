-- Lines and the text by their parts, as they are put one after the other.
-- Assumes nothing.
use Prim.Native.Nat.{ℕ, ◌+◌}
use mathlib.Core.Path.{◌≡◌, refl, ap, ◌∙◌}
use mathlib.Core.List.{List, [], ◌∷◌, ◌++◌, append_assoc}
use lib.IntN.{ℤ}
use lib.ListN.{length, length-append}
use Rattle.wellfounded.specs.Lists.{count, join_below}
use Rattle.tables.specs.Rows.{rule_count, clause_count}
use Rattle.tables.specs.Loads.{load_count}
use Rattle.tables.specs.Sound.{Tables}
use Rattle.tables.specs.internal.Marks.{is_marked}
use Rattle.format.specs.Forms.{atoms_form, claim_form, space, atoms_word, claim_word, defined_word, decimal, render, render_all}
use Rattle.printing.specs.internal.Putting.{Puts}
use Rattle.printing.proofs.PutLaws.{puts_then}
use Rattle.writing.specs.BookForms.{marked_atoms, defined_forms, pairs_of, book_forms, text_of}
use Rattle.writing.specs.internal.Parts.{line_close, pair_part, mark_part, line_of, rows_text, rule_line, clause_line, load_line}
use Rattle.writing.proofs.PartLaws.{claim_line_lem, defined_line_lem, text_first, text_one, text_append}
use Rattle.writing.proofs.RowLaws.{rules_joined, clauses_joined, loads_joined}

-- ── Three parts ──

-- Bytes that are three parts are as long as these, and are put as these are.
pub record Parted (whole a b c : List ℕ) : Type 0 where
  pub is : whole ≡ a ++ (b ++ c)

pub parts_length : {whole a b c : List ℕ} → Parted whole a b c → length whole ≡ length a + (length b + length c)
parts_length p = ap length p.is ∙ simp length-append

pub puts_parts :
    {whole a b c : List ℕ} {l m r s : List ℕ} {at mid next end : ℕ} → Parted whole a b c → Puts l at a mid m → Puts m mid b next r →
    Puts r next c end s → Puts l at whole end s
puts_parts e p q t = rw e.is (puts_then p (puts_then q t))

-- ── The lines ──

pub atoms_parts : (n : ℕ) → Parted (line_of (atoms_form n)) (atoms_word ++ (space ∷ [])) (decimal n) line_close
unfolding line_of render
atoms_parts n = record { is = simp append_assoc }

pub claim_parts :
    (n groups : ℕ) (values levels : List ℕ) →
    Parted (line_of (claim_form (pairs_of n groups values levels))) claim_word (join_below n (pair_part n groups values levels)) line_close
claim_parts n groups values levels = record { is = claim_line_lem n groups values levels }

pub defined_parts :
    (n : ℕ) (marks : List ℕ) → (count n (is_marked marks) ≡ 0 → ⊥) →
    Parted (render_all (defined_forms (marked_atoms n marks))) defined_word (join_below n (mark_part marks)) line_close
defined_parts n marks some = record { is = defined_line_lem marks n some }

-- The lines of all rows, of which the code has read how many there are.
pub rows_parts :
    (rules literals clauses : List ℕ) (loads : List ℤ) (load_literals : List ℕ) (minutes : List ℤ) {ruled claused loaded : ℕ} →
    ruled ≡ rule_count rules → claused ≡ clause_count clauses → loaded ≡ load_count loads →
    Parted (rows_text rules literals clauses loads load_literals minutes) (join_below ruled (rule_line rules literals))
    (join_below claused (clause_line clauses literals)) (join_below loaded (load_line loads load_literals minutes))
unfolding rows_text
rows_parts rules literals clauses loads load_literals minutes r k l =
    record { is = rw (r, k, l, rules_joined rules literals, clauses_joined clauses literals, loads_joined loads load_literals minutes) refl }

-- ── The text ──

-- Its parts: the line of the number of atoms, that of the marked ones if there are any, the rows, and the claim's line.
abbrev pub atoms_line : Tables → List ℕ
atoms_line t = line_of (atoms_form t.atoms)

abbrev pub defined_text : ℕ → Tables → List ℕ
defined_text n t = render_all (defined_forms (marked_atoms n t.marks))

abbrev pub book_rows : Tables → List ℕ
book_rows t = rows_text t.rules t.literals t.clauses t.loads t.load_literals t.minutes

abbrev pub claim_line : Tables → List ℕ → List ℕ → List ℕ
claim_line t values levels = line_of (claim_form (pairs_of t.atoms 1 values levels))

module _ (t : Tables) (values levels : List ℕ) where
  text_parts : Parted (text_of t values levels) (atoms_line t) (defined_text t.atoms t) (book_rows t ++ claim_line t values levels)
  unfolding text_of book_forms rows_text
  text_parts =
      record { is = text_first _ _ ∙ ap (λ (l : List ℕ). atoms_line t ++ l) (simp (text_append, text_one, append_assoc)) }

  -- With a mark for each atom the marks may be counted instead.
  pub book_parts :
      length t.marks ≡ t.atoms →
      Parted (text_of t values levels) (atoms_line t) (defined_text (length t.marks) t) (book_rows t ++ claim_line t values levels)
  book_parts many = rw many text_parts

  pub book_length :
      length t.marks ≡ t.atoms →
      length (text_of t values levels)
      ≡ length (atoms_line t) + (length (defined_text (length t.marks) t) + (length (book_rows t) + length (claim_line t values levels)))
  book_length many =
      parts_length (book_parts many)
      ∙ ap (λ (n : ℕ). length (atoms_line t) + (length (defined_text (length t.marks) t) + n)) (length-append (book_rows t) (claim_line t values levels))
