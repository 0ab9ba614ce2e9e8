-- A written text is read: it is accepted, and what it was written from comes back.
-- Assumes nothing.
use Prim.Native.Nat.{ℕ, ◌≤◌}
use mathlib.Core.Path.{◌≡◌, refl, ap, ◌∙◌}
use mathlib.Core.List.{List, [], ◌∷◌, ◌++◌, map, append_assoc, append-nil, Memᴰ}
use native.Mathlib.Omega.{arith}
use lib.ListN.{length}
use Rattle.std.specs.Prelude.{Ok}
use Rattle.tables.specs.Faults.{Test, Absent}
use Rattle.tables.specs.Rows.{rules_of, clauses_of}
use Rattle.tables.specs.Loads.{loads_of}
use Rattle.tables.specs.Sound.{Tables, lent, claim_slices, table_tests, MarksFit, Sound}
use Rattle.tables.proofs.SoundTables.{lent_tables_lem, lent_slices_lem, lent_marks, slices_fit}
use Rattle.format.specs.Forms.{PairText, Form, render_all}
use Rattle.items.specs.Items.{level_columns}
use Rattle.format.specs.Views.{view_of, of_kind, same_kind, kind_number}
use Rattle.judging.specs.declared.reached.Reached.{Reached}
use Rattle.judging.specs.LentTables.{Table, Rules, Literals, Clauses, Loads, LoadLiterals, Minutes, Marks}
use Rattle.judging.specs.declared.reached.Phase.TheVariants.{OpenStood, ClaimStood}
use Rattle.judging.specs.States.{rank, start, groups_reached, count_in}
use Rattle.judging.specs.Judging.{judge_text, forms_of}
use Rattle.judging.specs.Books.{after_all, InSequence, IsBook}
use Rattle.judging.proofs.TableLaws.{each_table}
use Rattle.judging.proofs.Walking.{forms_all}
use Rattle.judging.proofs.Accepted.{book_accepted, book_passed}
use Rattle.forms.specs.Contents.{Contents, filled}
use Rattle.forms.specs.Entries.{book_entries}
use Rattle.forms.specs.Decoded.{declared_by, declared_in}
use Rattle.forms.proofs.Decodes.{rules_decode, clauses_decode, loads_decode}
use Rattle.forms.proofs.Marked.{marks_decode, declared_by_form}
use Rattle.booktext.specs.declared.StateForm.TheVariants.{ClaimState}
use Rattle.booktext.specs.declared.Book.{Book}
use Rattle.booktext.specs.Answers.{space_of, state_of, answer_of, contents_after, Reads}
use Rattle.booktext.specs.GivenEntries.{ClaimEntries}
use Rattle.booktext.specs.UsedParts.{used_in, used_parts, tables_of}
use Rattle.booktext.proofs.Filling.{room_held, used_counts}
use Rattle.booktext.proofs.UsedLaws.{one_group_read, used_tables, used_values, used_levels}
use Rattle.booktext.proofs.GivenEntries.{claim_entries}
use Rattle.writing.specs.BookForms.{marked_atoms, defined_forms, pairs_of, book_forms, text_of}
use Rattle.writing.specs.Writing.{TextFits}
use Rattle.writing.proofs.PartLaws.{map_tabulate}
use Rattle.writing.proofs.WriteLaws.{one_sized}
use Rattle.roundtrips.specs.RoundTrips.{taken_in, HoldsBook, Writable, SameBook, Consecutive, ReadBack}
use Rattle.roundtrips.proofs.Counted.{Counted, book_counted}
use Rattle.roundtrips.proofs.MarkedAtoms.{marks_again}
use Rattle.roundtrips.proofs.Columns.{tabulate_entries, levels_again}
use Rattle.roundtrips.proofs.Books.{rows_lie, taken_counted, book_sequence, book_is}
use Rattle.roundtrips.proofs.Decoding.{rules_of_book, clauses_of_book, loads_of_book, rules_read, clauses_read, loads_read}
use Rattle.roundtrips.proofs.Consecutive.{book_consecutive}
use Rattle.roundtrips.proofs.Passes.{comes_back_sound}

-- The state form of a book is its last.
pub before_state : (fs : List Form) → InSequence fs → List Form
before_state fs q = q.atoms ∷ (q.defined ++ (q.rules ++ (q.clauses ++ q.loads)))

pub state_last : (fs : List Form) (q : InSequence fs) → fs ≡ before_state fs q ++ (q.state ∷ [])
unfolding before_state
state_last fs q = q.whole ∙ ap (λ (xs : List Form). q.atoms ∷ xs) (simp append_assoc)

-- Values make pairs, and the pairs give them back.
values_again :
    (n groups : ℕ) (values levels : List ℕ) → length values ≡ n → map (λ (p : PairText). p.value) (pairs_of n groups values levels) ≡ values
unfolding pairs_of
values_again n groups values levels e = map_tabulate _ n _ ∙ tabulate_entries n values e

-- ── What the forms of a book and a claim decode to ──

pub declared_again : (atoms : List ℕ) → declared_in (defined_forms atoms) ≡ atoms
unfolding declared_in declared_by defined_forms of_kind view_of same_kind kind_number
declared_again [] = refl
declared_again (a ∷ atoms) = append-nil (a ∷ atoms)

module _ (t : Tables) (values levels : List ℕ) where
  forms : List Form
  forms = book_forms t values levels

  forms_rules : rules_of (book_entries forms Rules) (book_entries forms Literals) ≡ rules_of t.rules t.literals
  unfolding forms book_sequence
  forms_rules = rules_decode forms ∙ (rules_of_book forms (book_sequence t values levels) ∙ rules_read (rules_of t.rules t.literals))

  forms_clauses : clauses_of (book_entries forms Clauses) (book_entries forms Literals) ≡ clauses_of t.clauses t.literals
  unfolding forms book_sequence
  forms_clauses = clauses_decode forms ∙ (clauses_of_book forms (book_sequence t values levels) ∙ clauses_read (clauses_of t.clauses t.literals))

  forms_loads :
      loads_of (book_entries forms Loads) (book_entries forms LoadLiterals) (book_entries forms Minutes) ≡ loads_of t.loads t.load_literals t.minutes
  unfolding forms book_sequence
  forms_loads =
      loads_decode forms ∙ (loads_of_book forms (book_sequence t values levels) ∙ loads_read (loads_of t.loads t.load_literals t.minutes))

  forms_marks : (after_all start forms).size ≡ t.atoms → MarksFit t → book_entries forms Marks ≡ t.marks
  unfolding forms book_sequence
  forms_marks size fit =
      marks_decode forms (book_sequence t values levels) ∙
      rw (declared_by_form forms (book_sequence t values levels), declared_again (marked_atoms t.atoms t.marks), size)
      (marks_again t.atoms t.marks fit.many fit.small)

-- ── Read back ──

module _
    (t : Tables) (values levels : List ℕ) (room : ℕ) (sound : Sound t (claim_slices t values levels)) (fits : TextFits t values levels room)
    (writable : Writable values levels) (held : Contents) (holds : HoldsBook t held) where
  none : (test : Test) → Memᴰ test (table_tests t) → Absent test
  none = lent_tables_lem t (claim_slices t values levels) sound.none

  reached : Reached
  reached = after_all start (book_forms t values levels)

  counted : Counted t reached
  unfolding reached
  counted = book_counted t values levels (rows_lie t none)

  is_book : IsBook (space_of held) (book_forms t values levels)
  is_book = book_is t none values levels writable fits.few_literals fits.few_terms (space_of held) (λ table. omega (arith, room_held held table, holds.each table))

  passed : judge_text (space_of held) (text_of t values levels) ≡ Ok reached
  unfolding text_of reached
  passed = book_accepted (space_of held) (render_all (book_forms t values levels)) (book_forms t values levels) (record { rendered = refl; short = unfold text_of in fits.short; book = is_book })

  forms_told : forms_of (text_of t values levels) ≡ book_forms t values levels
  unfolding text_of forms_of
  forms_told =
      forms_all (space_of held) start (book_forms t values levels) (book_passed (space_of held) (book_forms t values levels) is_book).0.passed

  entries : Contents
  entries = book_entries (book_forms t values levels)

  counts : (table : Table) → length (entries table) ≡ count_in reached table
  unfolding entries reached
  counts = used_counts (space_of held) (book_forms t values levels) is_book

  claim_entered : ClaimEntries reached.size (groups_reached reached) (pairs_of t.atoms 1 values levels) entries
  unfolding entries book_sequence
  claim_entered =
      let q = book_sequence t values levels in
      rw forms_told at (claim_entries (space_of held) (text_of t values levels) reached passed (before_state (book_forms t values levels) q) (pairs_of t.atoms 1 values levels)
      (forms_told ∙ state_last (book_forms t values levels) q))

  -- The answer for the text, and the tables that it leaves.
  answer : Book
  answer = answer_of (Ok reached)

  taken : (table : Table) → used_in answer table ≡ taken_in t table
  unfolding answer answer_of used_in count_in taken_in
  taken =
      let k = taken_counted t none reached counted in
      each_table (λ table. used_in (answer_of (Ok reached)) table ≡ taken_in t table) (k Rules) (k Literals) (k Clauses) (k Loads) (k LoadLiterals)
      (k Minutes) counted.size counted.size counted.size

  stood : rank OpenStood ≤ rank reached.phase
  stood = omega (arith, ap rank counted.stood)

  claim_stood_lem : rank ClaimStood ≤ rank reached.phase
  claim_stood_lem = omega (arith, ap rank counted.stood)

  claimed : answer.state ≡ ClaimState
  unfolding answer answer_of state_of
  claimed = rw counted.stood

  valued : (length values ≡ t.atoms) × (length levels ≡ t.atoms)
  valued =
      let same = slices_fit (claim_slices t values levels) (lent_slices_lem t (claim_slices t values levels) sound.none) in
      (same _ (Memᴰ.head refl), same _ (Memᴰ.tail (Memᴰ.head refl)) ∙ one_sized _ _)

  same_book : SameBook t (tables_of reached.size entries)
  unfolding tables_of lent entries forms
  same_book =
      record {
        atoms = counted.size;
        rules = forms_rules t values levels;
        clauses = forms_clauses t values levels;
        loads = forms_loads t values levels;
        marks = forms_marks t values levels (unfold reached in counted.size) (lent_marks t (claim_slices t values levels) sound.none);
      }

  in_order_lem : Consecutive (tables_of reached.size entries)
  unfolding entries
  in_order_lem = book_consecutive (book_forms t values levels) (book_sequence t values levels) reached.size

  all_passes : Sound (tables_of reached.size entries) (claim_slices (tables_of reached.size entries) values levels)
  unfolding entries reached
  all_passes = comes_back_sound t values levels sound fits.few_literals fits.few_terms counts reached.size same_book

  back : ReadBack t values levels (answer_of (Ok reached)) (filled entries held)
  unfolding answer answer_of
  back =
      let parts : tables_of reached.size (used_parts (answer_of (Ok reached)) (filled entries held)) ≡ tables_of reached.size entries =
      used_tables reached entries held counts stood in
      let told : level_columns (groups_reached reached) (pairs_of t.atoms 1 values levels) ≡ levels =
      ap (λ (groups : ℕ). level_columns groups (pairs_of t.atoms 1 values levels)) (one_group_read reached)
      ∙ levels_again t.atoms 1 values levels (omega (arith, valued.1)) in
      record {
        accepted = refl;
        claimed = claimed;
        taken = taken;
        same = rw parts same_book;
        consecutive = rw parts in_order_lem;
        passes = rw parts all_passes;
        same_values = used_values reached entries held counts stood ∙ (claim_entered.values ∙ values_again t.atoms 1 values levels valued.0);
        same_levels = used_levels reached entries held counts claim_stood_lem ∙ (claim_entered.levels ∙ told);
      }

  pub read_back : (book : Book) (after : Contents) → Reads (text_of t values levels) held book after → ReadBack t values levels book after
  unfolding contents_after entries
  read_back book after r =
      let answered : book ≡ answer_of (Ok reached) = r.answered ∙ ap answer_of passed in
      let written : after ≡ filled (book_entries (book_forms t values levels)) held = r.written ∙ rw (passed, forms_told) in
      rw (answered, written) back
