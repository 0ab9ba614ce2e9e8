-- The verdict of a call that builds the index, test by test, and what is left for it.
-- Assumes nothing.
use Prim.Native.Nat.{ℕ, ◌+◌, ◌*◌, ◌≤◌, ◌<◌}
use mathlib.Core.Path.{◌≡◌, refl, sym, ap, ap₂, ◌∙◌}
use mathlib.Core.Bool.{Bool, true, not, cond, ◌&&◌}
use mathlib.Core.List.Memᴰ
use mathlib.Core.List.{List, [], ◌∷◌, ◌++◌, Memᴰ}
use native.Mathlib.Omega.{arith}
use lib.Dec.{leb, eqb}
use lib.ListN.{length, get_or}
use borrow.Author.Tests.{leb-true, le-leb, eqb-true, eq-eqb, not-false}
use Rattle.wellfounded.specs.Literals.{atom_of}
use Rattle.wellfounded.proofs.Tests.{both, first, second}
use Rattle.std.specs.Prelude.{IsErrAnd}
use Rattle.std.specs.declared.option.Option.{Option}
use Rattle.std.specs.declared.result.Result.TheVariants.{Err}
use Rattle.tables.specs.declared.Refusal.{Refusal}
use Rattle.tables.specs.declared.Fault.TheVariants.{Mark, IndexSize}
use Rattle.tables.specs.Faults.{Verdict, accepted, refused}
use Rattle.tables.specs.Limits.{max_literals}
use Rattle.tables.specs.Faults.{lowest, refused_or, Test, Absent, first_fault}
use Rattle.tables.specs.Values.{not_held}
use Rattle.tables.specs.Rows.{rule_count, literals_by_rule}
use Rattle.tables.specs.Sound.{Tables, table_tests, slice_test, mark_count_test, mark_test, lent_tests}
use Rattle.tables.proofs.Faults.{first_passes, once_passes, accepted_absent, verdict_refuses, verdict_leaves}
use Rattle.tables.proofs.Faults.{require_alone, required_held, handed_on, passed_leaves, refusal_decides}
use Rattle.tables.proofs.SoundTables.{lent_order, slice_leaves, sized_none, sound_sizes, sound_rules, lent_tables_lem}
use Rattle.sorting.specs.Sorted.{starts_of, rows_by_key}
use Rattle.indexing.specs.Index.{by_literal, index_starts, index_entries, index_fits, index_test, index_tests, index_verdict, built_or, Indexes, IndexFits}
use Rattle.indexing.specs.internal.Building.{Sortable, Buildable}

module _ (t : Tables) (starts entries : ℕ) where
  -- Lengths that fit pass.
  pub fit_accepts : index_fits t.atoms t.rules starts entries ≡ true → first_fault (index_test t starts entries ∷ []) ≡ accepted
  unfolding index_test first_fault
  fit_accepts e = first_passes _ [] (once_passes _ (ap not e))

  -- What fits, by its parts.
  pub fits_use : index_fits t.atoms t.rules starts entries ≡ true → IndexFits t starts entries
  unfolding index_fits
  fits_use e =
      let most = first (leb (literals_by_rule t.rules) max_literals && eqb starts (2 * t.atoms + 1)) _ e in
      record {
        few = leb-true _ _ (first _ _ most);
        starts_long = eqb-true _ _ (second (leb (literals_by_rule t.rules) max_literals) _ most);
        entries_long = eqb-true _ _ (second (leb (literals_by_rule t.rules) max_literals && eqb starts (2 * t.atoms + 1)) _ e);
      }

  pub fits_make : IndexFits t starts entries → index_fits t.atoms t.rules starts entries ≡ true
  unfolding index_fits
  fits_make f = both _ _ (both _ _ (le-leb _ _ f.few) (eq-eqb _ _ f.starts_long)) (eq-eqb _ _ f.entries_long)

  -- A fault of the tables is the verdict; tables without one leave it to the marks, since there is no slice under 17.
  order : index_verdict t starts entries ≡ first_fault (table_tests t ++ (slice_test [] ∷ mark_count_test t ∷ mark_test t ∷ index_test t starts entries ∷ []))
  unfolding index_verdict index_tests
  order = ap first_fault (lent_order t [] (index_test t starts entries ∷ []))

  pub tables_refuse :
      {tables w : Verdict} {r : Refusal} → tables ≡ first_fault (table_tests t) → tables ≡ Err r → IsErrAnd w (λ e. e ≡ r) →
      w ≡ index_verdict t starts entries
  unfolding index_verdict
  tables_refuse {tables} {w} {r} is was same =
      sym (handed_on w tables was same) ∙ verdict_refuses (index_tests t starts entries) (table_tests t) _ tables r.fault r.position order is was

  module _ {tables : Verdict} (is : tables ≡ first_fault (table_tests t)) (passed : tables ≡ accepted) {counted : Verdict}
      (counts : counted ≡ cond (eqb (length t.marks) t.atoms) accepted (refused Mark 0)) where
    tables_leave : index_verdict t starts entries ≡ first_fault (mark_count_test t ∷ mark_test t ∷ index_test t starts entries ∷ [])
    unfolding index_verdict
    tables_leave = verdict_leaves (index_tests t starts entries) (table_tests t) _ _ order is passed ∙ slice_leaves [] _ sized_none

    -- Their number is looked at first,
    count_alone : counted ≡ first_fault (mark_count_test t ∷ [])
    unfolding mark_count_test
    count_alone = require_alone Mark _ counted counts

    pub count_refuses : {w : Verdict} {r : Refusal} → counted ≡ Err r → IsErrAnd w (λ e. e ≡ r) → w ≡ index_verdict t starts entries
    unfolding index_verdict
    count_refuses {w} was same = refusal_decides (index_tests t starts entries) (mark_count_test t) _ counted tables_leave count_alone w was same

    module _ (many : counted ≡ accepted) where
      count_leaves : index_verdict t starts entries ≡ first_fault (mark_test t ∷ index_test t starts entries ∷ [])
      unfolding index_verdict
      count_leaves = passed_leaves (index_tests t starts entries) (mark_count_test t) _ counted tables_leave count_alone many

      -- then each of them, and then the lengths of the slices.
      pub first_decides :
          {found : Option ℕ} {fit : Bool} {w : Verdict} → found ≡ lowest (length t.marks) (not_held t.marks) →
          fit ≡ index_fits t.atoms t.rules starts entries → w ≡ refused_or Mark found (cond fit accepted (refused IndexSize 0)) →
          w ≡ index_verdict t starts entries
      unfolding index_verdict index_test mark_test first_fault
      first_decides {found} {fit} {w} finds is_fit is =
          let marks = rw (eqb-true _ _ (required_held _ Mark counted counts many)) at finds in
          let lengths = require_alone IndexSize fit (cond fit accepted (refused IndexSize 0)) refl in
          is ∙ ap₂ (refused_or Mark) marks lengths ∙ ap (λ (b : Bool). first_fault (mark_test t ∷ record { fault = IndexSize; positions = 1; bad = λ k. not b } ∷ [])) is_fit
          ∙ sym count_leaves

  -- Where nothing is refused, nothing that is lent has a fault, and the index can be built.
  module _ (accepted : index_verdict t starts entries ≡ accepted) where
    pub accepted_none : (test : Test) → Memᴰ test (lent_tests t []) → Absent test
    unfolding index_verdict index_tests
    accepted_none test m = accepted_absent (index_tests t starts entries) accepted test (Memᴰ.append_left _ m)

    pub accepted_fits : IndexFits t starts entries
    unfolding index_verdict index_tests index_test
    accepted_fits =
        fits_use (not-false _ ((accepted_absent (index_tests t starts entries) accepted _ (Memᴰ.append_right (lent_tests t []) (Memᴰ.head refl))).nowhere 0 (omega arith)))

-- Literals of tables without a fault are those of the book's atoms, so the rules can be sorted by them.
module _ (t : Tables) (none : (test : Test) → Memᴰ test (table_tests t) → Absent test) where
  pub known_literal : (place : ℕ) → place < length t.literals → get_or t.literals place 0 < 2 * t.atoms
  unfolding atom_of
  known_literal place l = omega (arith, (sound_rules t none).known place l)

  sortable_rules : literals_by_rule t.rules ≤ max_literals → Sortable t.rules t.literals (2 * t.atoms)
  unfolding rule_count
  sortable_rules few =
      record { within = (sound_rules t none).within; known = known_literal; few = omega arith; few_rows = omega (arith, (sound_sizes t none).few_rules) }

  -- With slices of its lengths the index can be built.
  pub fitting_buildable :
      (starts entries : List ℕ) → IndexFits t (length starts) (length entries) → Buildable t.rules t.literals starts entries (2 * t.atoms)
  fitting_buildable starts entries fits =
      record { sortable = sortable_rules fits.few; slots_long = fits.starts_long; entries_long = fits.entries_long }

pub ready :
    (t : Tables) (starts entries : List ℕ) → index_verdict t (length starts) (length entries) ≡ accepted →
    Buildable t.rules t.literals starts entries (2 * t.atoms)
ready t starts entries accepted =
    fitting_buildable t (lent_tables_lem t [] (accepted_none t _ _ accepted)) starts entries (accepted_fits t _ _ accepted)

-- What a refusal and what an index leaves.
module _ {t : Tables} {starts entries : List ℕ} where
  pub refused_leaves :
      {verdict answer : Verdict} {r : Refusal} → verdict ≡ index_verdict t (length starts) (length entries) → verdict ≡ Err r →
      IsErrAnd answer (λ e. e ≡ r) → Indexes t starts entries answer starts entries
  unfolding built_or
  refused_leaves {verdict} {answer} is was same =
      let refused = sym is ∙ was in
      record { answered = sym (handed_on answer verdict was same) ∙ is; starts_built = rw refused; entries_built = rw refused }

  pub accepted_builds :
      {verdict : Verdict} {startsAfter entriesAfter : List ℕ} → verdict ≡ index_verdict t (length starts) (length entries) → verdict ≡ accepted →
      (startsAfter ≡ starts_of (by_literal t.rules t.literals) (2 * t.atoms))
      × (entriesAfter ≡ rows_by_key (by_literal t.rules t.literals) (2 * t.atoms)) →
      Indexes t starts entries accepted startsAfter entriesAfter
  unfolding built_or index_starts index_entries
  accepted_builds is accepted built =
      let passed = sym is ∙ accepted in
      record { answered = sym passed; starts_built = rw passed built.0; entries_built = rw passed built.1 }
