-- What an accepted text puts into marks, values and levels: `mark_entries` whatever its state form is, `open_entries` and `claim_entries` by the
-- state form that it ends with.
-- Assumes nothing.
use Prim.Native.Nat.{ℕ, ◌≤◌, ◌<◌}
use mathlib.Core.Path.{◌≡◌, refl, sym, ap, subst, ◌∙◌}
use mathlib.Core.Logic.{⊎_elim}
use mathlib.Core.Bool.{Bool, true, false, cond}
use mathlib.Core.List.{List, [], ◌∷◌, ◌++◌, Memᴰ}
use native.Mathlib.Omega.{arith}
use lib.Dec.{eqb, ltb}
use lib.ListN.{length, get_or}
use borrow.Author.Tests.{eqb-true, eq-eqb, ne_eqb, ltb-true}
use Rattle.std.specs.Prelude.{Ok}
use Rattle.wellfounded.specs.Lists.{all, any}
use Rattle.wellfounded.proofs.Tests.{both, first, second}
use Rattle.wellfounded.proofs.Lists.{any_use, any_make, all_use, get_d_tabulate, get_or_tabulate_beyond, le_or_lt}
use Rattle.format.specs.declared.kinds.Kind.TheVariants.{Defined}
use Rattle.format.specs.Forms.{PairText, Form, open_form, claim_form}
use Rattle.format.specs.Views.{view_of, kind_number, same_kind, of_kind, kind_in}
use Rattle.items.specs.Items.{level_columns}
use Rattle.judging.specs.declared.reached.Reached.{Reached}
use Rattle.judging.specs.declared.reached.Space.{Space}
use Rattle.judging.specs.LentTables.{Marks, Values, Levels}
use Rattle.judging.specs.declared.reached.Phase.TheVariants.{NothingYet, OpenStood}
use Rattle.judging.specs.States.{rank, start, advanced, after, groups_reached}
use Rattle.judging.specs.Judging.{atom_bound, numbers_within, may_follow, rises_from, parts_in_order, in_order, judge_text, forms_of}
use Rattle.judging.specs.Books.{after_all, IsBook, all_pass}
use Rattle.judging.proofs.StateLaws.{groups_after}
use Rattle.judging.proofs.LimitLaws.{atoms_limit}
use Rattle.judging.proofs.Walking.{after_more}
use Rattle.judging.proofs.Accepted.{Passing, passing, accepted_book, book_passed}
use Rattle.forms.specs.Entries.{entries_of, entries_from, book_entries, ones_at, state_values, state_levels}
use Rattle.forms.specs.Decoded.{declared_by, declared_in}
use Rattle.forms.proofs.Marked.{marks_decode}
use Rattle.forms.proofs.NamedAtoms.{ones_many, named_bound}
use Rattle.forms.proofs.OpenForm.{open_numbers}
use Rattle.forms.proofs.DispatchLaws.{columns_none}
use Rattle.booktext.specs.GivenEntries.{OnesExactly, OpenEntries, ClaimEntries}
use Rattle.booktext.proofs.Filling.{last_values, last_levels, last_passes}

-- ── Ones ──

module _ (size : ℕ) (atoms : List ℕ) where
  one_named : (atom : ℕ) → atom < size → Memᴰ atom atoms → get_or (ones_at size atoms) atom 0 ≡ 1
  unfolding ones_at
  one_named atom l m = get_d_tabulate size _ atom 0 l ∙ rw (any_make (eqb atom) atoms m (eq-eqb atom atom refl))

  zero_unnamed : (atom : ℕ) → (Memᴰ atom atoms → ⊥) → get_or (ones_at size atoms) atom 0 ≡ 0
  unfolding ones_at
  zero_unnamed atom none =
      ⊎_elim (λ beyond. get_or_tabulate_beyond size _ atom 0 beyond) (λ below. get_d_tabulate size _ atom 0 below ∙ step (any (eqb atom) atoms) refl)
      (le_or_lt size atom)
    where
      step : (b : Bool) → any (eqb atom) atoms ≡ b → ◌≡◌ {A = ℕ} (cond b 1 0) 0
      step true e =
          let found = any_use (eqb atom) atoms e in
          absurd (none (subst (λ (k : ℕ). Memᴰ k atoms) (sym (eqb-true atom found.0 found.2)) found.1))
      step false e = refl

  -- Atoms below N are named exactly.
  ones_exactly : all (λ (atom : ℕ). ltb atom size) atoms ≡ true → OnesExactly size atoms (ones_at size atoms)
  ones_exactly below =
      record {
        many = ones_many size atoms;
        named = λ atom m. one_named atom (ltb-true atom size (all_use (λ (a : ℕ). ltb a size) atoms below m)) m;
        others = zero_unnamed;
      }

-- ── Marks ──

-- The atoms that forms declare defined are within their limits if the forms' numbers are.
module _ (s : Reached) where
  abbrev Below : List ℕ → Type 0
  Below atoms = all (λ (atom : ℕ). ltb atom (atom_bound s)) atoms ≡ true

  join_below_lem : (xs ys : List ℕ) → Below xs → Below ys → Below (xs ++ ys)
  unfolding all
  join_below_lem [] ys h k = k
  join_below_lem (x ∷ xs) ys h k = both _ _ (first (ltb x (atom_bound s)) _ h) (join_below_lem xs ys (second (ltb x (atom_bound s)) _ h) k)

  declared_below : (f : Form) → numbers_within s f ≡ true → Below (declared_by f)
  unfolding declared_by all
  declared_below f h = step (of_kind Defined f)
    where
      step : (b : Bool) → Below (cond b (view_of f).atoms [])
      step true = atoms_limit s f h
      step false = refl

  all_declared_below : (fs : List Form) → all (numbers_within s) fs ≡ true → Below (declared_in fs)
  unfolding all declared_in
  all_declared_below [] h = refl
  all_declared_below (f ∷ fs) h =
      join_below_lem (declared_by f) (declared_in fs) (declared_below f (first (numbers_within s f) _ h)) (all_declared_below fs (second (numbers_within s f) _ h))

book_marks : (space : Space) (fs : List Form) → IsBook space fs → OnesExactly (after_all start fs).size (declared_in fs) (book_entries fs Marks)
unfolding atom_bound
book_marks space fs book =
    let end = after_all start fs in
    let stood : rank OpenStood ≤ rank end.phase = (book_passed space fs book).1 in
    let bound : atom_bound end ≡ end.size = rw (ne_eqb (rank end.phase) (rank NothingYet) (λ z. omega arith)) in
    rw (marks_decode fs book.sequence) (ones_exactly end.size (declared_in fs) (rw bound at (all_declared_below end fs book.numbers)))

-- Every accepted text gives N marks, 1 exactly at the atoms that it declares defined.
pub mark_entries :
    (space : Space) (text : List ℕ) (s : Reached) → judge_text space text ≡ Ok s →
    OnesExactly s.size (declared_in (forms_of text)) (book_entries (forms_of text) Marks)
mark_entries space text s e = let k = accepted_book space text s e in rw (k.2, k.3) (book_marks space k.0 k.1.book)

-- ── Values and levels ──

-- An accepted text: its forms pass, and the last is its state form.
module _ (space : Space) (text : List ℕ) (s : Reached) (e : judge_text space text ≡ Ok s) (before : List Form) where
  module _ (f : Form) (ends : forms_of text ≡ before ++ (f ∷ [])) where
    forms_pass : all_pass space start (before ++ (f ∷ [])) ≡ true
    forms_pass =
        let k = accepted_book space text s e in
        rw (sym k.3 ∙ ends) at (book_passed space k.0 k.1.book).0.passed

    last : Reached
    last = after_all start before

    last_passing : Passing space last f
    unfolding last
    last_passing = passing space (after_all start before) f (last_passes space f start before forms_pass)

    last_state : s ≡ after last f
    unfolding last
    last_state = let k = accepted_book space text s e in k.2 ∙ (ap (after_all start) (sym k.3 ∙ ends) ∙ after_more start before f)

    entries_values : book_entries (forms_of text) Values ≡ state_values last f
    unfolding last book_entries entries_of
    entries_values = ap (λ (forms : List Form). entries_from start forms Values) ends ∙ last_values space f start before forms_pass

    entries_levels : book_entries (forms_of text) Levels ≡ state_levels last f
    unfolding last book_entries entries_of
    entries_levels = ap (λ (forms : List Form). entries_from start forms Levels) ends ∙ last_levels space f start before forms_pass

  pub open_entries :
      (atoms : List ℕ) → forms_of text ≡ before ++ (open_form atoms ∷ []) → OpenEntries s.size atoms (book_entries (forms_of text))
  unfolding state_values state_levels after advanced in_order view_of of_kind same_kind kind_number
  open_entries atoms ends =
      let f = open_form atoms in
      let here = last f ends in
      let p = last_passing f ends in
      let size : s.size ≡ here.size = ap (λ (t : Reached). t.size) (last_state f ends) in
      let bound : atom_bound here ≡ here.size = named_bound here f refl (both (may_follow (kind_in f) here.phase) _ p.follows p.ordered) in
      record {
        values = rw (size, entries_values f ends) (ones_exactly here.size atoms (rw (open_numbers, bound) at p.numbers));
        levels = entries_levels f ends ∙ columns_none (groups_reached here);
      }

  pub claim_entries :
      (pairs : List PairText) → forms_of text ≡ before ++ (claim_form pairs ∷ []) → ClaimEntries s.size (groups_reached s) pairs (book_entries (forms_of text))
  unfolding state_values state_levels after advanced parts_in_order rises_from view_of of_kind same_kind kind_number
  claim_entries pairs ends =
      let f = claim_form pairs in
      let groups : groups_reached s ≡ groups_reached (last f ends) = ap groups_reached (last_state f ends) ∙ groups_after (last f ends) f refl in
      let size : s.size ≡ (last f ends).size = ap (λ (t : Reached). t.size) (last_state f ends) in
      record {
        many = eqb-true (length pairs) (last f ends).size (last_passing f ends).ordered ∙ sym size;
        values = entries_values f ends;
        levels = entries_levels f ends ∙ ap (λ (groups : ℕ). level_columns groups pairs) (sym groups);
      }
