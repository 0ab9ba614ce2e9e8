-- The lines of rows: the literals or the terms of a row by the parts that are put, the line of a row, and the lines of all rows.
-- Assumes nothing.
use Prim.Native.Nat.{ℕ, zero, suc, ◌+◌, ◌-◌, ◌≤◌}
use mathlib.Core.Path.{◌≡◌, refl, ap, ◌∙◌, fun_ext}
use mathlib.Core.List.{List, [], ◌∷◌, ◌++◌, map, append_assoc}
use native.Mathlib.Omega.{arith}
use lib.IntN.{ℤ, nat_abs}
use lib.ListN.{length, get_or, take, drop, length-append, length-drop}
use lib.Seq.{get_or-drop}
use mir.Syntax.{w32}
use mir.Val.{SFits, to_z, of_z}
use mir.Facts.{to_z-of_z}
use Rattle.wellfounded.specs.Lists.{tabulate, join_below}
use Rattle.wellfounded.specs.Literals.{body_at}
use Rattle.wellfounded.proofs.Scan.{part_is}
use Rattle.tables.specs.Rows.{rule_count, rule_head, rule_start, rule_size, rule_body, rule_at, rules_of}
use Rattle.tables.specs.Rows.{clause_count, clause_start, clause_size, clause_at, clauses_of}
use Rattle.tables.specs.Loads.{load_count, load_low, load_high, load_start, load_size, term_at, terms_at, load_at, loads_of}
use Rattle.format.specs.Forms.{space, line_end, rule_word, clause_word, load_word}
use Rattle.format.specs.Forms.{decimal, signed, literal_bytes, term_bytes, render, render_all}
use Rattle.printing.specs.internal.Putting.{Puts, max_printed}
use Rattle.printing.proofs.PutLaws.{puts_then, puts_behind}
use Rattle.writing.specs.BookForms.{literal_text, term_text, rule_form_of, clause_form_of, load_form_of}
use Rattle.writing.specs.internal.Parts.{line_close, literal_part, term_part, line_of, body_bytes, terms_bytes, rule_line, clause_line, load_line}
use Rattle.writing.proofs.PartLaws.{parts_line, lines_joined, map_tabulate}

-- ── The literals of a row ──

-- The front of a list by its entries.
take_tabulate : (n : ℕ) (l : List ℕ) → n ≤ length l → take n l ≡ tabulate n (λ k. get_or l k 0)
unfolding tabulate
take_tabulate zero l h = refl
take_tabulate (suc n) [] h = absurd (omega arith)
take_tabulate (suc n) (x ∷ l) h = ap (λ (m : List ℕ). x ∷ m) (take_tabulate n l (omega arith))

-- A part `&table[start..]` as the code lends it.
abbrev pub from : {A : Type 0} → ℕ → List A → List A
from start table = take (length table - start) (drop start table)

module _ (literals : List ℕ) (start size : ℕ) (within : start + size ≤ length literals) where
  body_entries : body_at literals start size ≡ tabulate size (λ k. get_or (drop start literals) k 0)
  unfolding body_at
  body_entries = take_tabulate size (drop start literals) (rw length-drop (omega arith))

  -- What stands from the literals on: those of the part, and the line's end.
  pub body_joined : body_bytes literals start size ≡ join_below size (literal_part (from start literals)) ++ line_close
  unfolding body_bytes literal_part
  body_joined =
      rw (part_is literals start, body_entries, map_tabulate literal_text size (λ k. get_or (drop start literals) k 0))
      (parts_line literal_bytes size (λ k. literal_text (get_or (drop start literals) k 0)))

-- ── The terms of a row ──

module _ (load_literals : List ℕ) (minutes : List ℤ) (start size : ℕ) where
  terms_entries : terms_at load_literals minutes start size ≡ tabulate size (term_at (drop start load_literals) (drop start minutes))
  unfolding terms_at term_at
  terms_entries = ap (tabulate size) (fun_ext (λ k. rw (get_or-drop start minutes, get_or-drop start load_literals)))

  pub terms_joined :
      terms_bytes load_literals minutes start size ≡ join_below size (term_part (from start load_literals) (from start minutes)) ++ line_close
  unfolding terms_bytes term_part
  terms_joined =
      let term = term_at (drop start load_literals) (drop start minutes) in
      rw (part_is load_literals start, part_is minutes start, terms_entries, map_tabulate term_text size term)
      (parts_line term_bytes size (λ k. term_text (term k)))

-- ── The line of a row ──

-- A row lies within its table as it was read, too.
pub lies : {a b start size most : ℕ} → a ≡ start → b ≡ size → start + size ≤ most → a + b ≤ most
lies e f h = omega arith

-- A rule's line: its head, and its body behind it.
module _ (rules literals : List ℕ) (row : ℕ) where
  rule_line_lem :
      rule_line rules literals row
      ≡ (rule_word ++ (space ∷ [])) ++ (decimal (rule_head rules row) ++ body_bytes literals (rule_start rules row) (rule_size rules row))
  unfolding rule_line line_of rule_form_of rule_at rule_body render body_bytes
  rule_line_lem = ap (λ (l : List ℕ). rule_word ++ (space ∷ l)) (append_assoc (decimal (rule_head rules row)) _ (line_end ∷ []))

  pub rule_length :
      {head start size : ℕ} → head ≡ rule_head rules row → start ≡ rule_start rules row →
      size ≡ rule_size rules row →
      length (rule_line rules literals row) ≡ 6 + (length (decimal head) + length (body_bytes literals start size))
  rule_length h a n = rw (rule_line_lem, h, a, n) (simp length-append (omega arith))

  pub puts_rule :
      {l m r s : List ℕ} {at mid next end head start size : ℕ} → head ≡ rule_head rules row →
      start ≡ rule_start rules row → size ≡ rule_size rules row → Puts l at (rule_word ++ (space ∷ [])) mid m →
      Puts m mid (decimal head) next r → Puts r next (body_bytes literals start size) end s → Puts l at (rule_line rules literals row) end s
  puts_rule {head = head} h a n p q t =
      rw (rule_line_lem, ← h, ← a, ← n) (puts_behind (rule_word ++ (space ∷ [])) (decimal head) (puts_then p q) t)

-- A clause's line.
module _ (clauses literals : List ℕ) (row : ℕ) where
  clause_line_lem : clause_line clauses literals row ≡ clause_word ++ body_bytes literals (clause_start clauses row) (clause_size clauses row)
  unfolding clause_line line_of clause_form_of clause_at render body_bytes
  clause_line_lem = refl

  pub clause_length :
      {start size : ℕ} → start ≡ clause_start clauses row → size ≡ clause_size clauses row →
      length (clause_line clauses literals row) ≡ 7 + length (body_bytes literals start size)
  clause_length a n = rw (clause_line_lem, a, n) (omega arith)

  pub puts_clause :
      {l m r : List ℕ} {at mid end start size : ℕ} → start ≡ clause_start clauses row →
      size ≡ clause_size clauses row → Puts l at clause_word mid m → Puts m mid (body_bytes literals start size) end r →
      Puts l at (clause_line clauses literals row) end r
  puts_clause a n p q = rw (clause_line_lem, ← a, ← n) (puts_then p q)

-- A bound, which the code reads back from its bits.
pub bound_printed :
    {z answer : ℤ} → SFits w32 answer → answer ≡ z → nat_abs z ≤ max_printed → nat_abs (to_z w32 (of_z w32 answer)) ≤ max_printed
bound_printed fits e h = rw (to_z-of_z fits, e) h

pub bound_length : {z answer : ℤ} → SFits w32 answer → answer ≡ z → length (signed (to_z w32 (of_z w32 answer))) ≡ length (signed z)
bound_length fits e = ap (λ (b : ℤ). length (signed b)) (to_z-of_z fits ∙ e)

pub puts_bound :
    {z answer : ℤ} {l m : List ℕ} {at end : ℕ} → SFits w32 answer → answer ≡ z → Puts l at (signed (to_z w32 (of_z w32 answer))) end m →
    Puts l at (signed z) end m
puts_bound fits e p = rw (to_z-of_z fits, e) at p

-- A load line: its bounds, and its terms behind them.
module _ (loads : List ℤ) (load_literals : List ℕ) (minutes : List ℤ) (row : ℕ) where
  load_line_lem :
      load_line loads load_literals minutes row
      ≡ (load_word ++ (space ∷ [])) ++ (signed (load_low loads row) ++ ((space ∷ []) ++ (signed (load_high loads row)
      ++ terms_bytes load_literals minutes (load_start loads row) (load_size loads row))))
  unfolding load_line line_of load_form_of load_at render terms_bytes
  load_line_lem = simp append_assoc

  pub load_length :
      {start size : ℕ} → start ≡ load_start loads row → size ≡ load_size loads row →
      length (load_line loads load_literals minutes row)
      ≡ 7 + (length (signed (load_low loads row)) + (length (signed (load_high loads row)) + length (terms_bytes load_literals minutes start size)))
  load_length a n = rw (load_line_lem, a, n) (simp length-append (omega arith))

  -- Behind its bounds the line has two bytes at least, those that end it.
  pub load_least : 9 + (length (signed (load_low loads row)) + length (signed (load_high loads row))) ≤ length (load_line loads load_literals minutes row)
  load_least =
      let ended = ap length (terms_joined load_literals minutes (load_start loads row) (load_size loads row)) in
      let long = rw length-append at ended in
      omega (arith, load_length refl refl, long)

  pub puts_load :
      {l m r s t u : List ℕ} {at mid next last further end start size : ℕ} → start ≡ load_start loads row →
      size ≡ load_size loads row → Puts l at (load_word ++ (space ∷ [])) mid m → Puts m mid (signed (load_low loads row)) next r →
      Puts r next (space ∷ []) last s → Puts s last (signed (load_high loads row)) further t →
      Puts t further (terms_bytes load_literals minutes start size) end u → Puts l at (load_line loads load_literals minutes row) end u
  puts_load a n p q v w x =
      rw (load_line_lem, ← a, ← n) (puts_behind (load_word ++ (space ∷ [])) (signed (load_low loads row)) (puts_then p q)
      (puts_behind (space ∷ []) (signed (load_high loads row)) (puts_then v w) x))

-- ── The lines of all rows ──

pub rules_joined :
    (rules literals : List ℕ) → render_all (map rule_form_of (rules_of rules literals)) ≡ join_below (rule_count rules) (rule_line rules literals)
unfolding rules_of rule_line
rules_joined rules literals = lines_joined rule_form_of (rule_count rules) (rule_at rules literals)

pub clauses_joined :
    (clauses literals : List ℕ) →
    render_all (map clause_form_of (clauses_of clauses literals)) ≡ join_below (clause_count clauses) (clause_line clauses literals)
unfolding clauses_of clause_line
clauses_joined clauses literals = lines_joined clause_form_of (clause_count clauses) (clause_at clauses literals)

pub loads_joined :
    (loads : List ℤ) (load_literals : List ℕ) (minutes : List ℤ) →
    render_all (map load_form_of (loads_of loads load_literals minutes)) ≡ join_below (load_count loads) (load_line loads load_literals minutes)
unfolding loads_of load_line
loads_joined loads load_literals minutes = lines_joined load_form_of (load_count loads) (load_at loads load_literals minutes)
