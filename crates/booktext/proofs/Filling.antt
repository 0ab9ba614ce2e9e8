-- Storing the entries of forms one by one fills the tables with all of them, and the state reached counts them.
-- Assumes nothing.
use Prim.Native.Nat.{◌+◌, ◌≤◌}
use mathlib.Core.Path.{◌≡◌, refl, sym, ap, fun_ext, ◌∙◌}
use mathlib.Core.Bool.{Bool, true, false, cond, false≢true}
use mathlib.Core.List.{List, [], ◌∷◌, ◌++◌, append_assoc}
use native.Mathlib.Omega.{arith}
use lib.ListN.{length, length-append}
use lib.Seq.{sets}
use Rattle.wellfounded.proofs.Tests.{first, second}
use Rattle.format.specs.Forms.{Form}
use Rattle.format.specs.Views.{kind_in}
use Rattle.judging.specs.declared.reached.Reached.{Reached}
use Rattle.judging.specs.declared.reached.Space.{Space}
use Rattle.judging.specs.LentTables.{Table, Rules, Literals, Clauses, Loads, LoadLiterals, Minutes, Marks, Values, Levels, room_in}
use Rattle.judging.specs.declared.reached.Phase.TheVariants.{InLoads}
use Rattle.judging.specs.States.{rank, start, after, values_counted, levels_counted, count_in}
use Rattle.judging.specs.Judging.{parts_in_order}
use Rattle.judging.specs.Books.{after_all, passes, all_pass, IsBook}
use Rattle.judging.proofs.TableLaws.{each_table, room_with, start_count}
use Rattle.judging.proofs.StateLaws.{values_early, levels_early, values_told}
use Rattle.judging.proofs.Sequences.{may_follow_lem}
use Rattle.judging.proofs.Walking.{after_more}
use Rattle.judging.proofs.Counts.{fits_each}
use Rattle.judging.proofs.Accepted.{passing, book_passed}
use Rattle.forms.specs.Contents.{Contents, over, filled}
use Rattle.forms.specs.Entries.{entries_of, given_anew, joined_by, joined, entries_from, book_entries}
use Rattle.forms.specs.internal.Stores.{place_in, store, store_forms}
use Rattle.forms.proofs.EntryLaws.{rules_added, literals_added, clauses_added, loads_added, load_literals_added, minutes_added, values_added, levels_added}
use Rattle.forms.proofs.Marked.{marks_decode}
use Rattle.forms.proofs.NamedAtoms.{ones_many}
use Rattle.forms.proofs.OverLaws.{sets_anew, sets_front, over_none}
use Rattle.lists.proofs.StoreLaws.{sets_behind}
use Rattle.booktext.specs.Answers.{space_of}

-- ── Stored one after the other ──

-- What is proved of each table that entries are laid down in holds of all those.
pub each_laid :
    (P : Table → Type 0) → P Rules → P Literals → P Clauses → P Loads → P LoadLiterals → P Minutes → (table : Table) →
    given_anew table ≡ false → P table
unfolding given_anew
each_laid P r l c d o m =
    each_table (λ table. given_anew table ≡ false → P table) (λ e. r) (λ e. l) (λ e. c) (λ e. d) (λ e. o) (λ e. m)
    (λ e. absurd (false≢true (sym e))) (λ e. absurd (false≢true (sym e))) (λ e. absurd (false≢true (sym e)))

-- There a form is counted by its entries.
laid_counted :
    (s : Reached) (f : Form) (table : Table) → given_anew table ≡ false →
    count_in (after s f) table ≡ count_in s table + length (entries_of s f table)
unfolding count_in entries_of
laid_counted s f =
    each_laid (λ table. count_in (after s f) table ≡ count_in s table + length (entries_of s f table)) (sym (rules_added s f))
    (sym (literals_added s f)) (sym (clauses_added s f)) (sym (loads_added s f)) (sym (load_literals_added s f)) (sym (minutes_added s f))

-- Entries stored after a form's own are stored with them, whether or not there is room.
stored_more :
    (s : Reached) (f : Form) (more held : Contents) (table : Table) →
    store (after s f) more (store s (entries_of s f) held) table ≡ store s (joined (entries_of s f) more) held table
unfolding store place_in joined joined_by
stored_more s f more held table = step (given_anew table) refl
  where
    step :
        (anew : Bool) → given_anew table ≡ anew →
        sets (sets (held table) (cond anew 0 (count_in s table)) (entries_of s f table)) (cond anew 0 (count_in (after s f) table)) (more table)
        ≡ sets (held table) (cond anew 0 (count_in s table)) (joined_by anew (entries_of s f table) (more table))
    step true e = sets_anew (held table) (entries_of s f table) (more table) 0
    step false e = sets_behind (held table) (entries_of s f table) (more table) _ _ (laid_counted s f table e)

stored_all :
    (s : Reached) (fs : List Form) (held : Contents) (table : Table) → store_forms s fs held table ≡ store s (entries_from s fs) held table
unfolding store_forms entries_from store
stored_all s [] held table = refl
stored_all s (f ∷ fs) held table =
    stored_all (after s f) fs (store s (entries_of s f) held) table ∙ stored_more s f (entries_from (after s f) fs) held table

-- ── Counted ──

laid_length :
    (s : Reached) (fs : List Form) (table : Table) → given_anew table ≡ false →
    count_in (after_all s fs) table ≡ count_in s table + length (entries_from s fs table)
unfolding entries_from joined joined_by after_all
laid_length s [] table e = omega arith
laid_length s (f ∷ fs) table e =
    rw (e, length-append) (omega (arith, laid_counted s f table e, laid_length (after s f) fs table e))

-- Before a state form neither values nor levels are given.
no_entries_lem : {A : Type 0} (xs : List A) → length xs ≡ 0 → xs ≡ []
no_entries_lem [] e = refl
no_entries_lem (x ∷ xs) e = absurd (omega arith)

no_values : (s : Reached) (f : Form) → parts_in_order s f ≡ true → rank (after s f).phase ≤ rank InLoads → entries_of s f Values ≡ []
unfolding entries_of
no_values s f o l = no_entries_lem _ (values_added s f o ∙ values_early (after s f) (omega arith))

no_levels : (s : Reached) (f : Form) → parts_in_order s f ≡ true → rank (after s f).phase ≤ rank InLoads → entries_of s f Levels ≡ []
unfolding entries_of
no_levels s f o l = no_entries_lem _ (levels_added s f o ∙ levels_early (after s f) (omega arith))

-- So the last form alone gives them, if the forms pass.
module _ (space : Space) (f : Form) where
  early : (s : Reached) (before : List Form) → all_pass space s (before ++ (f ∷ [])) ≡ true → rank s.phase ≤ rank InLoads
  unfolding all_pass
  early s [] p = (may_follow_lem (kind_in f) s.phase (passing space s f (first (passes space s f) _ p)).follows).early
  early s (g ∷ before) p = (may_follow_lem (kind_in g) s.phase (passing space s g (first (passes space s g) _ p)).follows).early

  last_given :
      (table : Table) → given_anew table ≡ true →
      ((s : Reached) (g : Form) → parts_in_order s g ≡ true → rank (after s g).phase ≤ rank InLoads → entries_of s g table ≡ []) →
      (s : Reached) (before : List Form) → all_pass space s (before ++ (f ∷ [])) ≡ true →
      entries_from s (before ++ (f ∷ [])) table ≡ entries_of (after_all s before) f table
  unfolding all_pass entries_from joined joined_by after_all over
  last_given table anew none s [] p = rw anew
  last_given table anew none s (g ∷ before) p =
      let here = passing space s g (first (passes space s g) _ p) in
      let later = second (passes space s g) _ p in
      rw (anew, none s g here.ordered (early (after s g) before later)) (over_none _ ∙ last_given table anew none (after s g) before later)

  pub last_values :
      (s : Reached) (before : List Form) → all_pass space s (before ++ (f ∷ [])) ≡ true →
      entries_from s (before ++ (f ∷ [])) Values ≡ entries_of (after_all s before) f Values
  unfolding given_anew
  last_values = last_given Values refl no_values

  pub last_levels :
      (s : Reached) (before : List Form) → all_pass space s (before ++ (f ∷ [])) ≡ true →
      entries_from s (before ++ (f ∷ [])) Levels ≡ entries_of (after_all s before) f Levels
  unfolding given_anew
  last_levels = last_given Levels refl no_levels

  pub last_passes :
      (s : Reached) (before : List Form) → all_pass space s (before ++ (f ∷ [])) ≡ true → passes space (after_all s before) f ≡ true
  unfolding all_pass after_all
  last_passes s [] p = first (passes space s f) _ p
  last_passes s (g ∷ before) p = last_passes (after s g) before (second (passes space s g) _ p)

-- ── A book ──

-- The forms of a book end with its state form.
record Ends (fs : List Form) : Type 0 where
  before : List Form
  state : Form
  whole : fs ≡ before ++ (state ∷ [])

module _ (space : Space) (fs : List Form) (book : IsBook space fs) where
  book_ends : Ends fs
  book_ends =
      let q = book.sequence in
      record {
        before = q.atoms ∷ (q.defined ++ (q.rules ++ (q.clauses ++ q.loads)));
        state = q.state;
        whole = q.whole ∙ ap (λ (xs : List Form). q.atoms ∷ xs) (simp append_assoc);
      }

  marks_counted : length (entries_from start fs Marks) ≡ values_counted (after_all start fs)
  unfolding book_entries
  marks_counted =
      ap length (marks_decode fs book.sequence)
      ∙ (ones_many (after_all start fs).size _ ∙ sym (values_told (after_all start fs) (book_passed space fs book).1))

  -- The state reached counts the entries of each table: N marks and N values, and for a claim N levels for each group.
  pub used_counts : (table : Table) → length (book_entries fs table) ≡ count_in (after_all start fs) table
  unfolding book_entries given_anew count_in entries_of start
  used_counts =
      let ends = book_ends in
      let s = after_all start ends.before in
      let passed = rw ends.whole at (book_passed space fs book).0.passed in
      let ordered = (passing space s ends.state (last_passes space ends.state start ends.before passed)).ordered in
      let reached : after_all start fs ≡ after s ends.state = ap (after_all start) ends.whole ∙ after_more start ends.before ends.state in
      let laid : (table : Table) → given_anew table ≡ false → length (entries_from start fs table) ≡ count_in (after_all start fs) table =
      (λ table e. omega (arith, laid_length start fs table e, start_count table)) in
      each_table (λ table. length (entries_from start fs table) ≡ count_in (after_all start fs) table) (laid Rules refl) (laid Literals refl)
      (laid Clauses refl) (laid Loads refl) (laid LoadLiterals refl) (laid Minutes refl) marks_counted
      (ap (λ (forms : List Form). length (entries_from start forms Values)) ends.whole
      ∙ (ap length (last_values space ends.state start ends.before passed) ∙ (values_added s ends.state ordered ∙ ap values_counted (sym reached))))
      (ap (λ (forms : List Form). length (entries_from start forms Levels)) ends.whole
      ∙ (ap length (last_levels space ends.state start ends.before passed) ∙ (levels_added s ends.state ordered ∙ ap levels_counted (sym reached))))

-- Lent tables have the room that their lengths say.
pub room_held : (held : Contents) (table : Table) → room_in (space_of held) table ≡ length (held table)
unfolding space_of
room_held held table = room_with (λ each. length (held each)) table

-- The first entries of every table stand at its front.
place_start : (table : Table) → place_in start table ≡ 0
unfolding place_in
place_start table = step (given_anew table)
  where
    step : (anew : Bool) → cond anew 0 (count_in start table) ≡ 0
    step true = refl
    step false = start_count table

-- Stored form by form, the tables hold all entries of the forms, and beyond them what they held.
pub stored_filled :
    (fs : List Form) (before : Contents) → IsBook (space_of before) fs → store_forms start fs before ≡ filled (book_entries fs) before
unfolding book_entries filled store
stored_filled fs before book = fun_ext λ table.
    let room = fits_each (space_of before) (after_all start fs) book.held table in
    stored_all start fs before table
    ∙ (rw (place_start table)
    (sets_front (before table) (book_entries fs table) (omega (arith, used_counts (space_of before) fs book table, room_held before table))))
