-- A text that ends with a claim is read, and what was read is written: the same bytes come out.
-- Assumes nothing.
use Prim.Native.Nat.{ℕ, ◌≤◌}
use mathlib.Core.Path.{◌≡◌, refl, sym, ap, ◌∙◌}
use mathlib.Core.Logic.{⊎_elim}
use mathlib.Core.Bool.{Bool, true, false, false≢true}
use mathlib.Core.List.{List, [], ◌∷◌, ◌++◌, map}
use native.Mathlib.Omega.{arith}
use lib.Dec.{ltb}
use lib.ListN.{length}
use borrow.Author.Tests.{ne_eqb}
use Rattle.wellfounded.specs.Lists.{all}
use Rattle.wellfounded.proofs.Tests.{first, second, either}
use Rattle.tables.specs.Rows.{rules_of, clauses_of}
use Rattle.tables.specs.Loads.{loads_of}
use Rattle.tables.specs.Sound.{lent}
use Rattle.format.specs.declared.kinds.Kind.{Kind}
use Rattle.format.specs.declared.kinds.Kind.TheVariants as FormKind
use Rattle.format.specs.Forms.{Form, atoms_form, rule_form, clause_form, load_form, open_form, claim_form, defined_form}
use Rattle.format.specs.Views.{view_of, kind_in, of_kind, same_kind, kind_number}
use Rattle.format.proofs.ViewLaws.{of_kind_lem}
use Rattle.judging.specs.declared.reached.Reached.{Reached}
use Rattle.items.specs.Items.{level_columns}
use Rattle.items.proofs.PartLaws.{all_snoc}
use Rattle.judging.specs.LentTables.{Rules, Literals, Clauses, Loads, LoadLiterals, Minutes, Marks, Values, Levels}
use Rattle.judging.specs.declared.reached.Phase.TheVariants.{NothingYet, OpenStood, ClaimStood}
use Rattle.judging.specs.States.{rank, start, phase_after, advanced, after, groups_reached}
use Rattle.judging.specs.Judging.{atom_bound, numbers_within, rises_from, parts_in_order, levels_for, levelled}
use Rattle.judging.specs.Books.{after_all, is_state, InSequence}
use Rattle.judging.proofs.LimitLaws.{atoms_limit}
use Rattle.judging.proofs.Walking.{after_more}
use Rattle.forms.specs.Entries.{ones_at, book_entries}
use Rattle.forms.specs.Decoded.{declared_in}
use Rattle.forms.proofs.Decodes.{rules_decode, clauses_decode, loads_decode}
use Rattle.forms.proofs.Marked.{marks_decode, declared_by_form}
use Rattle.booktext.specs.GivenEntries.{ClaimEntries}
use Rattle.booktext.specs.UsedParts.{tables_of}
use Rattle.booktext.proofs.UsedLaws.{one_group_read}
use Rattle.writing.specs.BookForms.{marked_atoms, defined_forms, pairs_of, rule_form_of, clause_form_of, load_form_of, book_forms}
use Rattle.roundtrips.proofs.ListTests.{all_left, all_one}
use Rattle.roundtrips.proofs.Counted.{later_parts}
use Rattle.roundtrips.proofs.MarkedAtoms.{marked_again}
use Rattle.roundtrips.proofs.Decoding.{rules_of_book, clauses_of_book, loads_of_book, rules_written, clauses_written, loads_written}
use Rattle.roundtrips.proofs.Columns.{pairs_again}
use Rattle.roundtrips.proofs.WrittenRead.{before_state, state_last, declared_again}

-- ── Single forms, by their kinds ──

atoms_form_lem : (f : Form) → of_kind FormKind.Atoms f ≡ true → atoms_form (view_of f).size ≡ f
unfolding of_kind same_kind kind_number view_of
atoms_form_lem (atoms_form n) k = refl
atoms_form_lem (rule_form h ls) k = absurd (false≢true k)
atoms_form_lem (clause_form ls) k = absurd (false≢true k)
atoms_form_lem (load_form lo hi ts) k = absurd (false≢true k)
atoms_form_lem (open_form atoms) k = absurd (false≢true k)
atoms_form_lem (claim_form ps) k = absurd (false≢true k)
atoms_form_lem (defined_form a others) k = absurd (false≢true k)

claim_form_lem : (f : Form) → of_kind FormKind.Claim f ≡ true → claim_form (view_of f).pairs ≡ f
unfolding of_kind same_kind kind_number view_of
claim_form_lem (claim_form ps) k = refl
claim_form_lem (atoms_form n) k = absurd (false≢true k)
claim_form_lem (rule_form h ls) k = absurd (false≢true k)
claim_form_lem (clause_form ls) k = absurd (false≢true k)
claim_form_lem (load_form lo hi ts) k = absurd (false≢true k)
claim_form_lem (open_form atoms) k = absurd (false≢true k)
claim_form_lem (defined_form a others) k = absurd (false≢true k)

defined_form_lem : (f : Form) → of_kind FormKind.Defined f ≡ true → defined_forms (view_of f).atoms ≡ f ∷ []
unfolding of_kind same_kind kind_number view_of defined_forms
defined_form_lem (defined_form a others) k = refl
defined_form_lem (atoms_form n) k = absurd (false≢true k)
defined_form_lem (rule_form h ls) k = absurd (false≢true k)
defined_form_lem (clause_form ls) k = absurd (false≢true k)
defined_form_lem (load_form lo hi ts) k = absurd (false≢true k)
defined_form_lem (open_form atoms) k = absurd (false≢true k)
defined_form_lem (claim_form ps) k = absurd (false≢true k)

-- At most one defined form is told by its atoms.
defined_again : (ds : List Form) → all (of_kind FormKind.Defined) ds ≡ true → length ds ≤ 1 → defined_forms (declared_in ds) ≡ ds
unfolding all
defined_again [] h few = unfold declared_in defined_forms in refl
defined_again (d ∷ []) h few = let e = defined_form_lem d (first (of_kind FormKind.Defined d) _ h) in ap defined_forms (ap declared_in (sym e) ∙ declared_again (view_of d).atoms) ∙ e
defined_again (d ∷ e ∷ ds) h few = absurd (omega arith)

-- ── A book that was read ──

-- N is told by the atoms form.
size_kept_lem : (kind : Kind) → same_kind kind FormKind.Atoms ≡ false → (s : Reached) (fs : List Form) → all (of_kind kind) fs ≡ true → (after_all s fs).size ≡ s.size
unfolding all after_all after advanced
size_kept_lem kind other s [] h = refl
size_kept_lem kind other s (f ∷ fs) h =
    let e = of_kind_lem kind f (first (of_kind kind f) _ h) in
    size_kept_lem kind other (after s f) fs (second (of_kind kind f) _ h) ∙ rw (e, other)

after_first : (s : Reached) (f : Form) (fs : List Form) → after_all s (f ∷ fs) ≡ after_all (after s f) fs
unfolding after_all
after_first s f fs = refl

-- What at most one defined form declares rises below the bound of the state in which its numbers and parts are tested.
module _ (s : Reached) where
  declared_rises :
      (ds : List Form) → all (of_kind FormKind.Defined) ds ≡ true → length ds ≤ 1 → all (parts_in_order s) ds ≡ true → rises_from 0 (declared_in ds) ≡ true
  unfolding all parts_in_order
  declared_rises [] h few o = unfold declared_in rises_from in refl
  declared_rises (d ∷ []) h few o =
      let e = ap declared_in (sym (defined_form_lem d (first (of_kind FormKind.Defined d) _ h))) ∙ declared_again (view_of d).atoms in
      rw e (first (rises_from 0 (view_of d).atoms) _ (first (parts_in_order s d) _ o))
  declared_rises (d ∷ e ∷ ds) h few o = absurd (omega arith)

  declared_below :
      (ds : List Form) → all (of_kind FormKind.Defined) ds ≡ true → length ds ≤ 1 → all (numbers_within s) ds ≡ true →
      all (λ (a : ℕ). ltb a (atom_bound s)) (declared_in ds) ≡ true
  unfolding all
  declared_below [] h few o = unfold declared_in in refl
  declared_below (d ∷ []) h few o =
      let e = ap declared_in (sym (defined_form_lem d (first (of_kind FormKind.Defined d) _ h))) ∙ declared_again (view_of d).atoms in
      rw e (atoms_limit s d (first (numbers_within s d) _ o))
  declared_below (d ∷ e ∷ ds) h few o = absurd (omega arith)

module _ (fs : List Form) (q : InSequence fs) where
  atoms_size : (after start q.atoms).size ≡ (view_of q.atoms).size
  unfolding after advanced same_kind kind_number
  atoms_size = rw (of_kind_lem FormKind.Atoms q.atoms q.are_atoms)

  state_size : (s : Reached) → (after_all s (q.state ∷ [])).size ≡ s.size
  unfolding is_state same_kind kind_number
  state_size s =
      ⊎_elim (λ o. size_kept_lem FormKind.Open refl s (q.state ∷ []) (all_one (of_kind FormKind.Open) q.state o))
      (λ c. size_kept_lem FormKind.Claim refl s (q.state ∷ []) (all_one (of_kind FormKind.Claim) q.state c)) (either (of_kind FormKind.Open q.state) _ q.tells_state)

  size_told : (after_all start fs).size ≡ (view_of q.atoms).size
  unfolding same_kind kind_number
  size_told =
      let s0 = after start q.atoms in
      let s1 = after_all s0 q.defined in
      let s2 = after_all s1 q.rules in
      let s3 = after_all s2 q.clauses in
      let s4 = after_all s3 q.loads in
      ap (λ (gs : List Form). (after_all start gs).size) q.whole ∙
      (ap (λ (s : Reached). s.size) (after_first start q.atoms _ ∙ later_parts s0 q.defined q.rules q.clauses q.loads (q.state ∷ [])) ∙
      (state_size s4 ∙
      (size_kept_lem FormKind.Load refl s3 q.loads q.are_loads ∙
      (size_kept_lem FormKind.Clause refl s2 q.clauses q.are_clauses ∙
      (size_kept_lem FormKind.Rule refl s1 q.rules q.are_rules ∙ (size_kept_lem FormKind.Defined refl s0 q.defined q.are_defined ∙ atoms_size))))))

  -- A book that has reached the phase of a claim ends with one.
  last_phase : (after_all start fs).phase ≡ phase_after (kind_in q.state)
  unfolding after advanced
  last_phase =
      ap (λ (gs : List Form). (after_all start gs).phase) (state_last fs q) ∙ ap (λ (s : Reached). s.phase) (after_more start (before_state fs q) q.state)

  claims : (after_all start fs).phase ≡ ClaimStood → of_kind FormKind.Claim q.state ≡ true
  unfolding is_state phase_after
  claims stood =
      ⊎_elim
      (λ o.
      let e = of_kind_lem FormKind.Open q.state o in
      let p : rank (phase_after (kind_in q.state)) ≡ rank OpenStood = rw e in
      absurd (omega (arith, ap rank last_phase, ap rank stood)))
      (λ c. c) (either (of_kind FormKind.Open q.state) _ q.tells_state)

  -- The atoms that it declares defined rise below N.
  module _
      (ordered : all (parts_in_order (after_all start fs)) fs ≡ true) (numbers : all (numbers_within (after_all start fs)) fs ≡ true)
      (levels : all (levelled (after_all start fs)) fs ≡ true) where
    defined_tested :
        (p : Form → Bool) → all p fs ≡ true → all p q.defined ≡ true
    unfolding all
    defined_tested p h =
        let whole : all p (q.atoms ∷ (q.defined ++ (q.rules ++ (q.clauses ++ (q.loads ++ (q.state ∷ [])))))) ≡ true = rw q.whole at h in
        all_left p q.defined (q.rules ++ (q.clauses ++ (q.loads ++ (q.state ∷ [])))) (second (p q.atoms) _ whole)

    marks_told : (after_all start fs).phase ≡ ClaimStood → defined_forms (marked_atoms (after_all start fs).size (book_entries fs Marks)) ≡ q.defined
    unfolding atom_bound
    marks_told stood =
        let end = after_all start fs in
        let bound : atom_bound end ≡ end.size = rw (ne_eqb (rank end.phase) (rank NothingYet) (λ e. omega (arith, ap rank stood))) in
        let rises = declared_rises end q.defined q.are_defined q.one_defined (defined_tested (parts_in_order end) ordered) in
        let below = declared_below end q.defined q.are_defined q.one_defined (defined_tested (numbers_within end) numbers) in
        ap defined_forms
        (ap (marked_atoms end.size) (marks_decode fs q ∙ ap (ones_at end.size) (declared_by_form fs q))
        ∙ marked_again end.size (declared_in q.defined) rises (rw bound at below))
        ∙ defined_again q.defined q.are_defined q.one_defined

    -- The state form has a level for each group in each pair.
    state_levelled : all (levels_for (groups_reached (after_all start fs))) (view_of q.state).pairs ≡ true
    unfolding levelled
    state_levelled =
        let end = after_all start fs in
        second (all (levelled end) (before_state fs q)) (levelled end q.state)
        (sym (all_snoc (levelled end) (before_state fs q) q.state) ∙ (sym (ap (λ (gs : List Form). all (levelled end) gs) (state_last fs q)) ∙ levels))

    -- The forms of what was read are the forms that were read.
    pub forms_again :
        (after_all start fs).phase ≡ ClaimStood → ClaimEntries (after_all start fs).size (groups_reached (after_all start fs)) (view_of q.state).pairs (book_entries fs) →
        book_forms (tables_of (after_all start fs).size (book_entries fs)) (book_entries fs Values) (book_entries fs Levels) ≡ fs
    unfolding book_forms tables_of lent
    forms_again stood entered =
        let atoms : atoms_form (after_all start fs).size ≡ q.atoms = ap atoms_form size_told ∙ atoms_form_lem q.atoms q.are_atoms in
        let rules : map rule_form_of (rules_of (book_entries fs Rules) (book_entries fs Literals)) ≡ q.rules =
        ap (map rule_form_of) (rules_decode fs ∙ rules_of_book fs q) ∙ rules_written q.rules q.are_rules in
        let clauses : map clause_form_of (clauses_of (book_entries fs Clauses) (book_entries fs Literals)) ≡ q.clauses =
        ap (map clause_form_of) (clauses_decode fs ∙ clauses_of_book fs q) ∙ clauses_written q.clauses q.are_clauses in
        let loads : map load_form_of (loads_of (book_entries fs Loads) (book_entries fs LoadLiterals) (book_entries fs Minutes)) ≡ q.loads =
        ap (map load_form_of) (loads_decode fs ∙ loads_of_book fs q) ∙ loads_written q.loads q.are_loads in
        let pairs = (view_of q.state).pairs in
        let one = one_group_read (after_all start fs) in
        let told : book_entries fs Levels ≡ level_columns 1 pairs = entered.levels ∙ ap (λ (groups : ℕ). level_columns groups pairs) one in
        let full : all (levels_for 1) pairs ≡ true = ap (λ (groups : ℕ). all (levels_for groups) pairs) (sym one) ∙ state_levelled in
        let state : claim_form (pairs_of (after_all start fs).size 1 (book_entries fs Values) (book_entries fs Levels)) ≡ q.state =
        rw (← entered.many, entered.values, told) (ap claim_form (pairs_again 1 pairs full) ∙ claim_form_lem q.state (claims stood)) in
        rw (atoms, marks_told stood, rules, clauses, loads, state) (sym q.whole)

-- The claim of a book that ends with one.
pub last_claim : (fs : List Form) (q : InSequence fs) → (after_all start fs).phase ≡ ClaimStood → q.state ≡ claim_form (view_of q.state).pairs
last_claim fs q stood = sym (claim_form_lem q.state (claims fs q stood))
