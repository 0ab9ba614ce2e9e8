-- The forms of tables without a fault and of a claim are a book that tables hold which have the room.
-- Assumes nothing.
use Prim.Native.Nat.{ℕ, ◌+◌, ◌*◌, ◌%◌, ◌≤◌, ◌<◌}
use mathlib.Core.Path.{◌≡◌, refl, sym, ap, ◌∙◌}
use mathlib.Core.Bool.{true}
use mathlib.Core.List.{List, [], ◌∷◌, map, Memᴰ}
use native.Mathlib.Omega.{arith}
use lib.Dec.{leb, ltb}
use lib.IntN.{ℤ, pos, nat_abs}
use lib.ListN.{length, get_or, drop}
use borrow.Author.Tests.{eq-eqb, ne_eqb, le-leb, lt-ltb}
use Rattle.wellfounded.specs.Lists.{all}
use Rattle.wellfounded.specs.Literals.{atom_of, body_at}
use Rattle.wellfounded.specs.Definitions.{Rule}
use Rattle.wellfounded.proofs.Tests.{both}
use Rattle.wellfounded.proofs.Lists.{all_make, member_entry, length_tabulate}
use Rattle.tables.specs.Limits.{max_atoms, max_bound, max_minutes, max_value, max_level, max_literals, max_terms}
use Rattle.tables.specs.Faults.{Test, Absent}
use Rattle.tables.specs.Rows.{rule_width, clause_width, rule_count, rule_body, rule_at, rules_of, clause_count, clause_at, clauses_of}
use Rattle.tables.specs.Loads.{Load, load_width, load_count, load_start, load_size, term_at, terms_at, load_at, loads_of}
use Rattle.tables.specs.Sound.{Tables, table_tests}
use Rattle.tables.proofs.SoundTables.{sound_sizes, sound_rules, sound_clauses, sound_loads, sound_load_rows, sound_minutes}
use Rattle.format.specs.declared.kinds.Kind.TheVariants as FormKind
use Rattle.format.specs.Forms.{PairText, atoms_form, claim_form}
use Rattle.format.specs.Views.{view_of, of_kind, same_kind, kind_number}
use Rattle.judging.specs.declared.reached.Reached.{Reached}
use Rattle.judging.specs.declared.reached.Space.{Space}
use Rattle.judging.specs.LentTables.{Table, room_in}
use Rattle.judging.specs.declared.reached.Phase.TheVariants.{NothingYet, ClaimStood}
use Rattle.judging.specs.States.{rank, start, groups_reached, count_in, values_counted, levels_counted}
use Rattle.judging.specs.Judging.{literal_within, term_within, pair_within, bound_within, atom_bound, numbers_within, rises_from, parts_in_order, levels_for, levelled}
use Rattle.judging.specs.Books.{after_all, is_state, InSequence, IsBook}
use Rattle.judging.proofs.TableLaws.{each_table}
use Rattle.judging.proofs.StateLaws.{values_told, levels_told}
use Rattle.judging.proofs.Counts.{within_counts, each_fits}
use Rattle.booktext.proofs.UsedLaws.{one_group_read, one_level}
use Rattle.writing.specs.BookForms.{literal_text, term_text, rule_form_of, clause_form_of, load_form_of, marked_atoms, defined_forms, pairs_of, book_forms}
use Rattle.writing.specs.Writing.{literals_by_row, terms_by_row}
use Rattle.roundtrips.specs.RoundTrips.{taken_in, Writable}
use Rattle.roundtrips.proofs.ListTests.{all_tabulate, all_take, all_drop, all_parts, all_map, all_mapped, all_rows}
use Rattle.roundtrips.proofs.Counted.{Counted, RowsLie, book_counted}
use Rattle.roundtrips.proofs.MarkedAtoms.{marked_rises, marked_below}

-- ── The kinds of the forms ──

pub rule_kind : (r : Rule) → of_kind FormKind.Rule (rule_form_of r) ≡ true
unfolding of_kind view_of same_kind kind_number rule_form_of
rule_kind r = refl

pub clause_kind : (c : List ℕ) → of_kind FormKind.Clause (clause_form_of c) ≡ true
unfolding of_kind view_of same_kind kind_number clause_form_of
clause_kind c = refl

pub load_kind : (l : Load) → of_kind FormKind.Load (load_form_of l) ≡ true
unfolding of_kind view_of same_kind kind_number load_form_of
load_kind l = refl

pub defined_kinds : (atoms : List ℕ) → (all (of_kind FormKind.Defined) (defined_forms atoms) ≡ true) × (length (defined_forms atoms) ≤ 1)
unfolding all of_kind view_of same_kind kind_number defined_forms
defined_kinds [] = (refl, omega arith)
defined_kinds (a ∷ atoms) = (refl, omega arith)

unfoldable pub book_sequence : (t : Tables) (values levels : List ℕ) → InSequence (book_forms t values levels)
unfolding book_forms of_kind is_state view_of same_kind kind_number
book_sequence t values levels =
    record {
      atoms = atoms_form t.atoms;
      defined = defined_forms (marked_atoms t.atoms t.marks);
      rules = map rule_form_of (rules_of t.rules t.literals);
      clauses = map clause_form_of (clauses_of t.clauses t.literals);
      loads = map load_form_of (loads_of t.loads t.load_literals t.minutes);
      state = claim_form (pairs_of t.atoms 1 values levels);
      are_atoms = refl;
      are_defined = (defined_kinds (marked_atoms t.atoms t.marks)).0;
      one_defined = (defined_kinds (marked_atoms t.atoms t.marks)).1;
      are_rules = all_mapped (of_kind FormKind.Rule) rule_form_of rule_kind (rules_of t.rules t.literals);
      are_clauses = all_mapped (of_kind FormKind.Clause) clause_form_of clause_kind (clauses_of t.clauses t.literals);
      are_loads = all_mapped (of_kind FormKind.Load) load_form_of load_kind (loads_of t.loads t.load_literals t.minutes);
      tells_state = refl;
      whole = refl;
    }

-- ── Numbers of single forms, within their limits in any state ──

atoms_within : (s : Reached) (n : ℕ) → n ≤ max_atoms → numbers_within s (atoms_form n) ≡ true
unfolding numbers_within view_of bound_within all
atoms_within s n h = rw (le-leb n max_atoms h)

defined_within :
    (s : Reached) (atoms : List ℕ) → all (λ (a : ℕ). ltb a (atom_bound s)) atoms ≡ true → all (numbers_within s) (defined_forms atoms) ≡ true
unfolding all numbers_within view_of bound_within defined_forms
defined_within s [] h = refl
defined_within s (a ∷ atoms) h = rw h

rule_within : (s : Reached) (r : Rule) → r.head < max_atoms → all literal_within (map literal_text r.body) ≡ true → numbers_within s (rule_form_of r) ≡ true
unfolding numbers_within view_of bound_within all rule_form_of
rule_within s r h l = rw (lt-ltb r.head max_atoms h, l)

clause_within : (s : Reached) (c : List ℕ) → all literal_within (map literal_text c) ≡ true → numbers_within s (clause_form_of c) ≡ true
unfolding numbers_within view_of bound_within all clause_form_of
clause_within s c l = rw l

load_within :
    (s : Reached) (l : Load) → nat_abs l.low ≤ max_bound → nat_abs l.high ≤ max_bound → all term_within (map term_text l.terms) ≡ true →
    numbers_within s (load_form_of l) ≡ true
unfolding numbers_within view_of bound_within all load_form_of
load_within s l low high ts = rw (le-leb (nat_abs l.low) max_bound low, le-leb (nat_abs l.high) max_bound high, ts)

claim_within :
    (s : Reached) (pairs : List PairText) → all pair_within pairs ≡ true → length pairs ≤ max_atoms → numbers_within s (claim_form pairs) ≡ true
unfolding numbers_within view_of bound_within all
claim_within s pairs each few = rw (each, le-leb (length pairs) max_atoms few)

-- A form without pairs is levelled, and so is a claim with a level for each group.
rule_levelled : (s : Reached) (r : Rule) → levelled s (rule_form_of r) ≡ true
unfolding levelled all view_of rule_form_of
rule_levelled s r = refl

clause_levelled : (s : Reached) (c : List ℕ) → levelled s (clause_form_of c) ≡ true
unfolding levelled all view_of clause_form_of
clause_levelled s c = refl

load_levelled : (s : Reached) (l : Load) → levelled s (load_form_of l) ≡ true
unfolding levelled all view_of load_form_of
load_levelled s l = refl

atoms_levelled : (s : Reached) (n : ℕ) → levelled s (atoms_form n) ≡ true
unfolding levelled all view_of
atoms_levelled s n = refl

defined_levelled : (s : Reached) (atoms : List ℕ) → all (levelled s) (defined_forms atoms) ≡ true
unfolding levelled all view_of defined_forms
defined_levelled s [] = refl
defined_levelled s (a ∷ atoms) = refl

claim_levelled :
    (s : Reached) (n groups : ℕ) (values levels : List ℕ) → groups_reached s ≡ groups → levelled s (claim_form (pairs_of n groups values levels)) ≡ true
unfolding levelled levels_for view_of pairs_of
claim_levelled s n groups values levels e =
    all_tabulate (levels_for (groups_reached s)) n _ (λ k l. eq-eqb _ _ (length_tabulate groups _ ∙ sym e))

-- A form without atoms and without pairs has its parts in order.
rule_ordered : (s : Reached) (r : Rule) → parts_in_order s (rule_form_of r) ≡ true
unfolding parts_in_order rises_from of_kind view_of same_kind kind_number rule_form_of
rule_ordered s r = refl

clause_ordered : (s : Reached) (c : List ℕ) → parts_in_order s (clause_form_of c) ≡ true
unfolding parts_in_order rises_from of_kind view_of same_kind kind_number clause_form_of
clause_ordered s c = refl

load_ordered : (s : Reached) (l : Load) → parts_in_order s (load_form_of l) ≡ true
unfolding parts_in_order rises_from of_kind view_of same_kind kind_number load_form_of
load_ordered s l = refl

atoms_ordered : (s : Reached) (n : ℕ) → parts_in_order s (atoms_form n) ≡ true
unfolding parts_in_order rises_from of_kind view_of same_kind kind_number
atoms_ordered s n = refl

defined_ordered : (s : Reached) (atoms : List ℕ) → rises_from 0 atoms ≡ true → all (parts_in_order s) (defined_forms atoms) ≡ true
unfolding all parts_in_order of_kind view_of same_kind kind_number defined_forms
defined_ordered s [] h = refl
defined_ordered s (a ∷ atoms) h = rw h

claim_ordered : (s : Reached) (pairs : List PairText) → length pairs ≡ s.size → parts_in_order s (claim_form pairs) ≡ true
unfolding parts_in_order rises_from of_kind view_of same_kind kind_number
claim_ordered s pairs e = eq-eqb (length pairs) s.size e

-- ── The forms of tables ──

-- Whole rows are as many entries as the table has.
whole_rules_lem : (rules : List ℕ) → length rules % rule_width ≡ 0 → rule_count rules * rule_width ≡ length rules
unfolding rule_count
whole_rules_lem rules e = omega arith

whole_clauses_lem : (clauses : List ℕ) → length clauses % clause_width ≡ 0 → clause_count clauses * clause_width ≡ length clauses
unfolding clause_count
whole_clauses_lem clauses e = omega arith

whole_loads_lem : (loads : List ℤ) → length loads % load_width ≡ 0 → load_count loads * load_width ≡ length loads
unfolding load_count
whole_loads_lem loads e = omega arith

module _ (t : Tables) (none : (test : Test) → Memᴰ test (table_tests t) → Absent test) where
  pub rows_lie : RowsLie t
  rows_lie = record { rules = (sound_rules t none).within; clauses = (sound_clauses t none).within }

  literal_small : (literal : ℕ) → atom_of literal < t.atoms → literal_within (literal_text literal) ≡ true
  unfolding literal_within literal_text
  literal_small literal h = lt-ltb (atom_of literal) max_atoms (omega (arith, (sound_sizes t none).few_atoms))

  literals_within : all (λ (l : ℕ). literal_within (literal_text l)) t.literals ≡ true
  literals_within =
      all_make (λ (l : ℕ). literal_within (literal_text l)) t.literals (λ l m.
      let k = member_entry 0 t.literals m in
      literal_small l (rw k.2 ((sound_rules t none).known k.0 k.1)))

  body_within : (from many : ℕ) → all literal_within (map literal_text (body_at t.literals from many)) ≡ true
  unfolding body_at
  body_within from many = all_map literal_within literal_text _ (all_take _ many (drop from t.literals) (all_drop _ from t.literals literals_within))

  terms_within : (row : ℕ) → row < load_count t.loads → all term_within (map term_text (terms_at t.load_literals t.minutes (load_start t.loads row) (load_size t.loads row))) ≡ true
  unfolding terms_at term_at term_within term_text
  terms_within row l =
      all_rows term_within term_text (load_size t.loads row) (λ k. term_at t.load_literals t.minutes (load_start t.loads row + k)) (λ k low.
      let place : load_start t.loads row + k < length t.load_literals = omega (arith, (sound_load_rows t none row l).within) in
      both (leb (nat_abs (get_or t.minutes (load_start t.loads row + k) (pos 0))) max_minutes) _ (le-leb _ _ (sound_minutes t none _ place))
      (literal_small _ ((sound_loads t none).known _ place)))

  module _ (s : Reached) where
    rules_within : all (numbers_within s) (map rule_form_of (rules_of t.rules t.literals)) ≡ true
    unfolding rules_of rule_at rule_body
    rules_within =
        all_rows (numbers_within s) rule_form_of (rule_count t.rules) (rule_at t.rules t.literals) (λ row l.
        rule_within s (rule_at t.rules t.literals row) (omega (arith, (sound_rules t none).heads row l, (sound_sizes t none).few_atoms)) (body_within _ _))

    clauses_within : all (numbers_within s) (map clause_form_of (clauses_of t.clauses t.literals)) ≡ true
    unfolding clauses_of clause_at
    clauses_within =
        all_rows (numbers_within s) clause_form_of (clause_count t.clauses) (clause_at t.clauses t.literals) (λ row l.
        clause_within s (clause_at t.clauses t.literals row) (body_within _ _))

    loads_within : all (numbers_within s) (map load_form_of (loads_of t.loads t.load_literals t.minutes)) ≡ true
    unfolding loads_of load_at
    loads_within =
        all_rows (numbers_within s) load_form_of (load_count t.loads) (load_at t.loads t.load_literals t.minutes) (λ row l.
        load_within s (load_at t.loads t.load_literals t.minutes row) (sound_load_rows t none row l).low (sound_load_rows t none row l).high (terms_within row l))

    module _ (values levels : List ℕ) (size : s.size ≡ t.atoms) (stood : s.phase ≡ ClaimStood) where
      bound_size : atom_bound s ≡ t.atoms
      unfolding atom_bound
      bound_size = rw (ne_eqb (rank s.phase) (rank NothingYet) (λ e. omega (arith, ap rank stood))) size

      pairs_within : Writable values levels → all pair_within (pairs_of t.atoms 1 values levels) ≡ true
      unfolding pairs_of pair_within
      pairs_within w =
          all_tabulate pair_within t.atoms _ (λ k l.
          both (leb (get_or values k 0) max_value) _ (le-leb _ _ (w.small k))
          (all_tabulate (λ level. leb level max_level) 1 _ (λ group h. le-leb _ _ (w.low (group * t.atoms + k)))))

      pairs_many : length (pairs_of t.atoms 1 values levels) ≡ t.atoms
      unfolding pairs_of
      pairs_many = length_tabulate _ _

      forms_within : Writable values levels → all (numbers_within s) (book_forms t values levels) ≡ true
      unfolding book_forms
      forms_within w =
          all_parts (numbers_within s) (atoms_form t.atoms) (defined_forms (marked_atoms t.atoms t.marks))
          (map rule_form_of (rules_of t.rules t.literals)) (map clause_form_of (clauses_of t.clauses t.literals))
          (map load_form_of (loads_of t.loads t.load_literals t.minutes)) (claim_form (pairs_of t.atoms 1 values levels))
          (atoms_within s t.atoms (sound_sizes t none).few_atoms)
          (defined_within s (marked_atoms t.atoms t.marks) (rw bound_size (marked_below t.atoms t.marks))) rules_within clauses_within loads_within
          (claim_within s (pairs_of t.atoms 1 values levels) (pairs_within w) (omega (arith, pairs_many, (sound_sizes t none).few_atoms)))

      forms_levelled : all (levelled s) (book_forms t values levels) ≡ true
      unfolding book_forms
      forms_levelled =
          all_parts (levelled s) (atoms_form t.atoms) (defined_forms (marked_atoms t.atoms t.marks))
          (map rule_form_of (rules_of t.rules t.literals)) (map clause_form_of (clauses_of t.clauses t.literals))
          (map load_form_of (loads_of t.loads t.load_literals t.minutes)) (claim_form (pairs_of t.atoms 1 values levels))
          (atoms_levelled s t.atoms) (defined_levelled s (marked_atoms t.atoms t.marks))
          (all_mapped (levelled s) rule_form_of (rule_levelled s) (rules_of t.rules t.literals))
          (all_mapped (levelled s) clause_form_of (clause_levelled s) (clauses_of t.clauses t.literals))
          (all_mapped (levelled s) load_form_of (load_levelled s) (loads_of t.loads t.load_literals t.minutes))
          (claim_levelled s t.atoms 1 values levels (one_group_read s))

      forms_ordered : all (parts_in_order s) (book_forms t values levels) ≡ true
      unfolding book_forms
      forms_ordered =
          all_parts (parts_in_order s) (atoms_form t.atoms) (defined_forms (marked_atoms t.atoms t.marks))
          (map rule_form_of (rules_of t.rules t.literals)) (map clause_form_of (clauses_of t.clauses t.literals))
          (map load_form_of (loads_of t.loads t.load_literals t.minutes)) (claim_form (pairs_of t.atoms 1 values levels))
          (atoms_ordered s t.atoms) (defined_ordered s (marked_atoms t.atoms t.marks) (marked_rises t.atoms t.marks))
          (all_mapped (parts_in_order s) rule_form_of (rule_ordered s) (rules_of t.rules t.literals))
          (all_mapped (parts_in_order s) clause_form_of (clause_ordered s) (clauses_of t.clauses t.literals))
          (all_mapped (parts_in_order s) load_form_of (load_ordered s) (loads_of t.loads t.load_literals t.minutes))
          (claim_ordered s (pairs_of t.atoms 1 values levels) (pairs_many ∙ sym size))

  -- The state at the end counts what the tables take.
  pub taken_counted : (s : Reached) → Counted t s → (table : Table) → count_in s table ≡ taken_in t table
  unfolding count_in taken_in
  taken_counted s k =
      let sizes = sound_sizes t none in
      let values : values_counted s ≡ t.atoms = values_told s (omega (arith, ap rank k.stood)) ∙ k.size in
      let levels : levels_counted s ≡ t.atoms = levels_told s (omega (arith, ap rank k.stood)) ∙ sym (one_level s) ∙ k.size in
      each_table (λ table. count_in s table ≡ taken_in t table) (k.rules ∙ whole_rules_lem t.rules sizes.whole_rules) k.literals
      (k.clauses ∙ whole_clauses_lem t.clauses sizes.whole_clauses) (k.loads ∙ whole_loads_lem t.loads sizes.whole_loads) k.terms k.terms
      values values levels

  module _
      (values levels : List ℕ) (writable : Writable values levels) (few_literals : literals_by_row t.rules t.clauses ≤ max_literals)
      (few_terms : terms_by_row t.loads ≤ max_terms) where
    pub book_is : (space : Space) → ((table : Table) → taken_in t table ≤ room_in space table) → IsBook space (book_forms t values levels)
    book_is space room =
        let s = after_all start (book_forms t values levels) in
        let k = book_counted t values levels rows_lie in
        let sizes = sound_sizes t none in
        record {
          sequence = book_sequence t values levels;
          levels = forms_levelled s values levels k.size k.stood;
          numbers = forms_within s values levels k.size k.stood writable;
          counts =
              within_counts s (record {
                rules = omega (arith, k.rules, whole_rules_lem t.rules sizes.whole_rules, sizes.few_rules);
                literals = omega (arith, k.literals);
                clauses = omega (arith, k.clauses, whole_clauses_lem t.clauses sizes.whole_clauses, sizes.few_clauses);
                loads = omega (arith, k.loads, whole_loads_lem t.loads sizes.whole_loads, sizes.few_loads);
                terms = omega (arith, k.terms);
              });
          ordered = forms_ordered s values levels k.size k.stood;
          held = each_fits space s (λ table. omega (arith, taken_counted s k table, room table));
        }
