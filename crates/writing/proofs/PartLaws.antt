-- The parts of a line, and lines, joined one after the other; and a literal, a term, a pair and a mark put by their bytes.
-- Assumes nothing.
use Prim.Native.Nat.{ℕ, zero, suc, ◌+◌, ◌*◌, ◌/◌, ◌%◌, ◌≤◌, ◌<◌}
use mathlib.Core.Path.{◌≡◌, refl, sym, ap, ◌∙◌}
use mathlib.Core.Bool.{Bool, true, false, cond}
use mathlib.Core.List.{List, [], ◌∷◌, ◌++◌, map, append_assoc, append-nil}
use native.Mathlib.Nat.{suc-mul, mul-le-mul_right}
use native.Mathlib.Omega.{arith}
use lib.IntN.{ℤ, pos, negsuc, nat_abs}
use lib.ListN.{length, get_or, length-append}
use mir.Syntax.{w16, w32}
use mir.Val.{SFits, to_z, of_z}
use mir.Facts.{to_z-of_z, sfits_widen}
use borrow.Author.Tests.{eq-eqb, ne_eqb}
use Rattle.wellfounded.specs.Lists.{tabulate, count, join_below}
use Rattle.wellfounded.specs.Literals.{atom_of, is_negated}
use Rattle.tables.specs.Rows.{is_declared}
use Rattle.tables.specs.internal.Marks.{is_marked}
use Rattle.tables.specs.Loads.{term_at}
use Rattle.format.specs.Forms.{Form, claim_form, space, opening, closing, line_end, not_word, claim_word, defined_word}
use Rattle.format.specs.Forms.{decimal, signed, literal_bytes, term_bytes, pair_bytes, parts_bytes, render, render_all}
use Rattle.printing.specs.internal.Putting.{Puts, max_printed}
use Rattle.printing.proofs.PutLaws.{puts_then, puts_behind}
use Rattle.writing.specs.BookForms.{marked_atom, marked_atoms, defined_forms, pairs_of, literal_text, term_text, claimed_pair}
use Rattle.writing.specs.internal.Parts.{line_close, term_part, level_part, pair_part, mark_part, line_of}

-- ── Joined parts ──

-- The first part, and those after it.
pub join_first : (n : ℕ) (f : ℕ → List ℕ) → join_below (suc n) f ≡ f zero ++ join_below n (λ k. f (suc k))
unfolding join_below
join_first zero f = sym (append-nil (f zero))
join_first (suc n) f = ap (λ (l : List ℕ). l ++ f (suc n)) (join_first n f) ∙ append_assoc (f zero) _ _

module _ {A : Type 0} where
  -- The parts of a tabulated list.
  pub parts_joined :
      (bytes : A → List ℕ) (n : ℕ) (f : ℕ → A) →
      parts_bytes bytes (tabulate n f) ≡ join_below n (λ k. space ∷ bytes (f k)) ++ (closing ∷ [])
  unfolding tabulate parts_bytes join_below
  parts_joined bytes zero f = refl
  parts_joined bytes (suc n) f =
      ap (λ (l : List ℕ). space ∷ (bytes (f zero) ++ l)) (parts_joined bytes n (λ k. f (suc k)))
      ∙ sym (append_assoc (space ∷ bytes (f zero)) _ _)
      ∙ ap (λ (l : List ℕ). l ++ (closing ∷ [])) (sym (join_first n (λ k. space ∷ bytes (f k))))

  -- The parts of a line, with its end.
  pub parts_line :
      (bytes : A → List ℕ) (n : ℕ) (f : ℕ → A) →
      parts_bytes bytes (tabulate n f) ++ (line_end ∷ []) ≡ join_below n (λ k. space ∷ bytes (f k)) ++ line_close
  parts_line bytes n f =
      ap (λ (l : List ℕ). l ++ (line_end ∷ [])) (parts_joined bytes n f)
      ∙ append_assoc (join_below n (λ k. space ∷ bytes (f k))) (closing ∷ []) (line_end ∷ [])

  -- The lines of the forms of a tabulated list.
  pub lines_joined :
      (form : A → Form) (n : ℕ) (f : ℕ → A) → render_all (map form (tabulate n f)) ≡ join_below n (λ k. line_of (form (f k)))
  unfolding tabulate render_all join_below line_of
  lines_joined form zero f = refl
  lines_joined form (suc n) f =
      ap (λ (l : List ℕ). render (form (f zero)) ++ (line_end ∷ l)) (lines_joined form n (λ k. f (suc k)))
      ∙ sym (append_assoc (render (form (f zero))) (line_end ∷ []) _)
      ∙ sym (join_first n (λ k. line_of (form (f k))))

module _ {A B : Type 0} where
  pub map_tabulate : (g : A → B) (n : ℕ) (f : ℕ → A) → map g (tabulate n f) ≡ tabulate n (λ k. g (f k))
  unfolding tabulate
  map_tabulate g zero f = refl
  map_tabulate g (suc n) f = ap (λ (l : List B). g (f zero) ∷ l) (map_tabulate g n (λ k. f (suc k)))

-- ── Lines ──

-- The text of forms is the line of the first and the text of the others,
pub text_first : (f : Form) (fs : List Form) → render_all (f ∷ fs) ≡ line_of f ++ render_all fs
unfolding render_all line_of
text_first f fs = sym (append_assoc (render f) (line_end ∷ []) (render_all fs))

-- that of one form is its line,
pub text_one : (f : Form) → render_all (f ∷ []) ≡ line_of f
unfolding render_all line_of
text_one f = refl

-- and the text of forms and further forms is that of the ones and, behind it, that of the others.
pub text_append : (fs gs : List Form) → render_all (fs ++ gs) ≡ render_all fs ++ render_all gs
unfolding render_all
text_append [] gs = refl
text_append (f ∷ fs) gs =
    ap (λ (l : List ℕ). render f ++ (line_end ∷ l)) (text_append fs gs) ∙ sym (append_assoc (render f) (line_end ∷ render_all fs) (render_all gs))

-- The claim's line, by its parts.
pub claim_line_lem :
    (n groups : ℕ) (values levels : List ℕ) →
    line_of (claim_form (pairs_of n groups values levels)) ≡ claim_word ++ (join_below n (pair_part n groups values levels) ++ line_close)
unfolding line_of render pairs_of pair_part
claim_line_lem n groups values levels = ap (λ (l : List ℕ). claim_word ++ l) (parts_line pair_bytes n (claimed_pair n groups values levels))

-- ── The marked atoms ──

-- An atom, listed or not, before others.
part_before :
    (listed : Bool) (atom : ℕ) (others : List ℕ) →
    parts_bytes decimal (cond listed (atom ∷ []) [] ++ others) ≡ cond listed (space ∷ decimal atom) [] ++ parts_bytes decimal others
unfolding parts_bytes
part_before true atom others = refl
part_before false atom others = refl

listed_length : (listed : Bool) (atom : ℕ) → length (cond listed (atom ∷ []) []) ≡ cond listed 1 0
listed_length true atom = refl
listed_length false atom = refl

-- The line of listed atoms: none, or one.
no_line : (atoms : List ℕ) → length atoms ≡ 0 → render_all (defined_forms atoms) ≡ []
unfolding render_all defined_forms
no_line [] e = refl
no_line (atom ∷ others) e = absurd (omega arith)

one_line_lem :
    (atoms : List ℕ) → (length atoms ≡ 0 → ⊥) →
    render_all (defined_forms atoms) ≡ defined_word ++ (parts_bytes decimal atoms ++ (line_end ∷ []))
unfolding render_all defined_forms render
one_line_lem [] some = absurd (some refl)
one_line_lem (atom ∷ others) some = refl

module _ (marks : List ℕ) where
  marks_before :
      (n : ℕ) (others : List ℕ) →
      parts_bytes decimal (join_below n (marked_atom marks) ++ others) ≡ join_below n (mark_part marks) ++ parts_bytes decimal others
  unfolding join_below marked_atom mark_part
  marks_before zero others = refl
  marks_before (suc n) others =
      ap (parts_bytes decimal) (append_assoc (join_below n (marked_atom marks)) (marked_atom marks n) others)
      ∙ marks_before n (marked_atom marks n ++ others)
      ∙ ap (λ (l : List ℕ). join_below n (mark_part marks) ++ l) (part_before (is_declared marks n) n others)
      ∙ sym (append_assoc (join_below n (mark_part marks)) (mark_part marks n) (parts_bytes decimal others))

  -- The parts of the marked atoms, and the closing bracket behind them.
  pub marks_joined : (n : ℕ) → parts_bytes decimal (marked_atoms n marks) ≡ join_below n (mark_part marks) ++ (closing ∷ [])
  unfolding marked_atoms parts_bytes
  marks_joined n = ap (parts_bytes decimal) (sym (append-nil (join_below n (marked_atom marks)))) ∙ marks_before n []

  -- There are as many of them as marks.
  pub marked_count : (n : ℕ) → length (marked_atoms n marks) ≡ count n (is_marked marks)
  unfolding marked_atoms marked_atom join_below count is_marked is_declared
  marked_count zero = refl
  marked_count (suc n) =
      let before = marked_count n in
      let here = listed_length (is_declared marks n) n in
      rw length-append (omega arith)

  -- Where no atom is marked there is no line of them, else one, by its parts.
  pub defined_none : (n : ℕ) → count n (is_marked marks) ≡ 0 → render_all (defined_forms (marked_atoms n marks)) ≡ []
  defined_none n e = no_line (marked_atoms n marks) (marked_count n ∙ e)

  pub defined_line_lem :
      (n : ℕ) → (count n (is_marked marks) ≡ 0 → ⊥) →
      render_all (defined_forms (marked_atoms n marks)) ≡ defined_word ++ (join_below n (mark_part marks) ++ line_close)
  defined_line_lem n some =
      one_line_lem (marked_atoms n marks) (λ e. some (sym (marked_count n) ∙ e))
      ∙ ap (λ (l : List ℕ). defined_word ++ (l ++ (line_end ∷ []))) (marks_joined n)
      ∙ ap (λ (l : List ℕ). defined_word ++ l) (append_assoc (join_below n (mark_part marks)) (closing ∷ []) (line_end ∷ []))

-- ── A literal ──

-- Its bytes, by whether it is even.
even_bytes : (literal : ℕ) → literal % 2 ≡ 0 → literal_bytes (literal_text literal) ≡ decimal (literal / 2)
unfolding literal_bytes literal_text atom_of is_negated
even_bytes literal e = rw (ne_eqb (literal % 2) 1 (λ one. omega arith))

odd_bytes :
    (literal : ℕ) → (literal % 2 ≡ 0 → ⊥) → literal_bytes (literal_text literal) ≡ not_word ++ (decimal (literal / 2) ++ (closing ∷ []))
unfolding literal_bytes literal_text atom_of is_negated
odd_bytes literal n = rw (eq-eqb (literal % 2) 1 (omega arith))

-- It is as long as its atom; `(not A)` is six bytes longer.
pub even_length : (literal : ℕ) → literal % 2 ≡ 0 → length (literal_bytes (literal_text literal)) ≡ length (decimal (literal / 2))
even_length literal e = ap length (even_bytes literal e)

pub odd_length : (literal : ℕ) → (literal % 2 ≡ 0 → ⊥) → length (literal_bytes (literal_text literal)) ≡ 6 + length (decimal (literal / 2))
odd_length literal n = ap length (odd_bytes literal n) ∙ simp length-append (omega arith)

-- A literal is put as its parts are, one behind the other.
pub puts_even :
    {l m r : List ℕ} {at mid end : ℕ} (literal : ℕ) → literal % 2 ≡ 0 → Puts l at (space ∷ []) mid m →
    Puts m mid (decimal (literal / 2)) end r → Puts l at (space ∷ literal_bytes (literal_text literal)) end r
puts_even literal e p q = rw (even_bytes literal e) (puts_then p q)

pub puts_odd :
    {l m r s : List ℕ} {at mid next end : ℕ} (literal : ℕ) → (literal % 2 ≡ 0 → ⊥) → Puts l at (space ∷ not_word) mid m →
    Puts m mid (decimal (literal / 2)) next r → Puts r next (closing ∷ []) end s → Puts l at (space ∷ literal_bytes (literal_text literal)) end s
puts_odd literal n p q t = rw (odd_bytes literal n) (puts_behind (space ∷ not_word) (decimal (literal / 2)) (puts_then p q) t)

-- ── A term, a pair and a mark ──

-- Minutes, which the code widens before it puts them.
widened : {z : ℤ} → SFits w16 z → to_z w32 (of_z w32 (to_z w16 (of_z w16 z))) ≡ z
widened {z} fits = rw (to_z-of_z fits) (to_z-of_z {w = w32} {z = z} (sfits_widen tt fits))

minutes_most : (z : ℤ) → SFits w16 z → nat_abs z ≤ max_printed
minutes_most (pos n) fits = omega arith
minutes_most (negsuc n) fits = omega arith

pub minutes_printed : {z : ℤ} → SFits w16 z → nat_abs (to_z w32 (of_z w32 (to_z w16 (of_z w16 z)))) ≤ max_printed
minutes_printed {z} fits = rw (widened fits) (minutes_most z fits)

pub minutes_length : {z : ℤ} → SFits w16 z → length (signed (to_z w32 (of_z w32 (to_z w16 (of_z w16 z))))) ≡ length (signed z)
minutes_length fits = ap (λ (z : ℤ). length (signed z)) (widened fits)

pub puts_minutes :
    {z : ℤ} {l m : List ℕ} {at end : ℕ} → SFits w16 z → Puts l at (signed (to_z w32 (of_z w32 (to_z w16 (of_z w16 z))))) end m →
    Puts l at (signed z) end m
puts_minutes fits p = rw (widened fits) at p

-- `(M L)` behind a space.
module _ (load_literals : List ℕ) (minutes : List ℤ) (place : ℕ) where
  pub term_length :
      length (term_part load_literals minutes place) ≡
      4 + (length (signed (get_or minutes place (pos 0))) + length (literal_bytes (literal_text (get_or load_literals place 0))))
  unfolding term_part term_bytes term_text term_at
  term_length = simp length-append (omega arith)

  pub puts_term :
      {l m r s t : List ℕ} {at mid next last end : ℕ} → Puts l at (space ∷ opening ∷ []) mid m →
      Puts m mid (signed (get_or minutes place (pos 0))) next r →
      Puts r next (space ∷ literal_bytes (literal_text (get_or load_literals place 0))) last s → Puts s last (closing ∷ []) end t →
      Puts l at (term_part load_literals minutes place) end t
  unfolding term_part term_bytes term_text term_at
  puts_term p q u w =
      puts_behind (space ∷ opening ∷ []) (signed (get_or minutes place (pos 0))) (puts_then p q) (puts_behind (space ∷ []) _ u w)

-- The levels of a group are among those of all groups.
module _ (atoms groups group : ℕ) where
  pub group_inside : group < groups → group * atoms + atoms ≤ groups * atoms
  group_inside l = omega (arith, suc-mul group atoms, mul-le-mul_right {m = suc group} {n = groups} atoms (omega arith))

-- `(V K ..)` behind a space.
module _ (atoms groups : ℕ) (values levels : List ℕ) (atom : ℕ) where
  pair_parts :
      pair_part atoms groups values levels atom
      ≡ space ∷ opening ∷ (decimal (get_or values atom 0) ++ (join_below groups (level_part atoms levels atom) ++ (closing ∷ [])))
  unfolding pair_part pair_bytes level_part
  pair_parts =
      ap (λ (l : List ℕ). space ∷ opening ∷ (decimal (get_or values atom 0) ++ l))
      (parts_joined decimal groups (λ group. get_or levels (group * atoms + atom) 0))

  pub pair_length :
      length (pair_part atoms groups values levels atom)
      ≡ 3 + (length (decimal (get_or values atom 0)) + length (join_below groups (level_part atoms levels atom)))
  pair_length = ap length pair_parts ∙ simp length-append (omega arith)

  pub puts_pair :
      {l m r s t : List ℕ} {at mid next last end : ℕ} → Puts l at (space ∷ opening ∷ []) mid m →
      Puts m mid (decimal (get_or values atom 0)) next r → Puts r next (join_below groups (level_part atoms levels atom)) last s →
      Puts s last (closing ∷ []) end t → Puts l at (pair_part atoms groups values levels atom) end t
  puts_pair p q u w =
      rw pair_parts (puts_behind (space ∷ opening ∷ []) (decimal (get_or values atom 0)) (puts_then p q) (puts_then u w))

-- A marked atom is put behind a space, and of another nothing is.
module _ (marks : List ℕ) (atom : ℕ) where
  pub mark_here : get_or marks atom 0 ≡ 1 → mark_part marks atom ≡ space ∷ decimal atom
  unfolding mark_part is_declared
  mark_here e = rw (eq-eqb (get_or marks atom 0) 1 e)

  pub mark_other : (get_or marks atom 0 ≡ 1 → ⊥) → mark_part marks atom ≡ []
  unfolding mark_part is_declared
  mark_other n = rw (ne_eqb (get_or marks atom 0) 1 n)
