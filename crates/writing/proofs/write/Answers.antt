-- `writing::write` meets its contract: tables without a fault leave the verdict to the slices, these to the marks, and these to the text.
use mathlib.Core.Path.{◌≡◌, refl, sym, ap, ◌∙◌}
use mathlib.Core.List.Memᴰ
use mathlib.Core.List.{[], ◌∷◌}
use lib.ListN.{length}
use Rattle.tables.specs.Faults.{first_fault}
use Rattle.tables.specs.Sound.{Tables, lent, claim_slices, table_tests, slice_test, mark_count_test, mark_test}
use Rattle.tables.proofs.Faults.{accepted_absent, verdict_refuses, verdict_leaves, same_required, required_other}
use Rattle.tables.proofs.SoundTables.{lent_order, slice_refuses, slice_leaves, sized_none, sized_more, marks_refuse, marks_leave}
use Rattle.writing.specs.Writing.{text_test, write_tests, write_of}
use Rattle.writing.specs.internal.Lent.{Lent}
use Rattle.writing.proofs.WriteLaws.{one_sized, refused_writes, as_promised}
use Rattle.writing.proofs.write.Goals as goal

pub returns-in_err-table_fault : goal.returns-in_err-table_fault
unfolding write_of write_tests
returns-in_err-table_fault c =
    let given : Tables =
    lent c.args.atoms c.args.rules.now c.args.literals.now c.args.clauses.now c.args.loads.now c.args.load_literals.now c.args.minutes.now c.args.marks.now in
    let told = c.in_err-table_fault.was in
    let is = verdict_refuses _ (table_tests (given)) _ _ _ _ (ap first_fault (lent_order (given) _ _)) (c.table_fault.ensures c.args.marks.now) told in
    as_promised (refused_writes _ _ _ (sym is ∙ told) c.from_residual.ensures.1)

pub returns-in_err-require : goal.returns-in_err-require
unfolding lent write_of write_tests
returns-in_err-require c =
    let given : Tables =
    lent c.args.atoms c.args.rules.now c.args.literals.now c.args.clauses.now c.args.loads.now c.args.load_literals.now c.args.minutes.now c.args.marks.now in
    let tables-fit : let t = given in write_of t c.args.values.now c.args.levels.now (length c.args.text.now) ≡ first_fault (slice_test (claim_slices t c.args.values.now c.args.levels.now) ∷ mark_count_test t ∷ mark_test t ∷ text_test t c.args.values.now c.args.levels.now (length c.args.text.now) ∷ []) =
    verdict_leaves _ (table_tests (given)) _ _ (ap first_fault (lent_order (given) _ _)) (c.table_fault.ensures c.args.marks.now) c.in_ok-table_fault.was in
    let other = required_other _ _ _ _ c.require.ensures c.in_err-require.was in
    as_promised (refused_writes _ _ _ (tables-fit ∙ slice_refuses _ _ _ (Memᴰ.head refl) other.0 ∙ other.1) c.from_residual-in_err-require.ensures.1)

pub returns-in_err-require-2 : goal.returns-in_err-require-2
unfolding lent write_of write_tests
returns-in_err-require-2 c =
    let given : Tables =
    lent c.args.atoms c.args.rules.now c.args.literals.now c.args.clauses.now c.args.loads.now c.args.load_literals.now c.args.minutes.now c.args.marks.now in
    let tables-fit : let t = given in write_of t c.args.values.now c.args.levels.now (length c.args.text.now) ≡ first_fault (slice_test (claim_slices t c.args.values.now c.args.levels.now) ∷ mark_count_test t ∷ mark_test t ∷ text_test t c.args.values.now c.args.levels.now (length c.args.text.now) ∷ []) =
    verdict_leaves _ (table_tests (given)) _ _ (ap first_fault (lent_order (given) _ _)) (c.table_fault.ensures c.args.marks.now) c.in_ok-table_fault.was in
    let other = required_other _ _ _ _ c.require-2.ensures c.in_err-require-2.was in
    as_promised (refused_writes _ _ _ (tables-fit ∙ slice_refuses _ _ _ (Memᴰ.tail (Memᴰ.head refl)) (λ e. other.0 (e ∙ one_sized _ _)) ∙ other.1) c.from_residual-in_err-require-2.ensures.1)

pub returns-in_err-require-3 : goal.returns-in_err-require-3
unfolding lent write_of write_tests
returns-in_err-require-3 c =
    let given : Tables =
    lent c.args.atoms c.args.rules.now c.args.literals.now c.args.clauses.now c.args.loads.now c.args.load_literals.now c.args.minutes.now c.args.marks.now in
    let tables-fit : let t = given in write_of t c.args.values.now c.args.levels.now (length c.args.text.now) ≡ first_fault (slice_test (claim_slices t c.args.values.now c.args.levels.now) ∷ mark_count_test t ∷ mark_test t ∷ text_test t c.args.values.now c.args.levels.now (length c.args.text.now) ∷ []) =
    verdict_leaves _ (table_tests (given)) _ _ (ap first_fault (lent_order (given) _ _)) (c.table_fault.ensures c.args.marks.now) c.in_ok-table_fault.was in
    let slices_fit : let t = given in write_of t c.args.values.now c.args.levels.now (length c.args.text.now) ≡ first_fault (mark_count_test t ∷ mark_test t ∷ text_test t c.args.values.now c.args.levels.now (length c.args.text.now) ∷ []) =
    tables-fit ∙ slice_leaves _ _ (sized_more (same_required _ _ _ _ c.require.ensures c.in_ok-require.was) (sized_more (same_required _ _ _ _ c.require-2.ensures c.in_ok-require-2.was ∙ sym (one_sized _ _)) sized_none)) in
    let other = required_other _ _ _ _ c.require-3.ensures c.in_err-require-3.was in
    as_promised (refused_writes _ _ _ (slices_fit ∙ marks_refuse _ _ other.0 ∙ other.1) c.from_residual-in_err-require-3.ensures.1)

pub write_lent-requires : goal.write_lent-requires
unfolding lent
write_lent-requires c =
    let given : Tables =
    lent c.args.atoms c.args.rules.now c.args.literals.now c.args.clauses.now c.args.loads.now c.args.load_literals.now c.args.minutes.now c.args.marks.now in
    let values-many = same_required _ _ _ _ c.require.ensures c.in_ok-require.was in
    let fit : Lent (given) c.args.values.now c.args.levels.now =
    record {
      none = accepted_absent (table_tests (given)) (sym (c.table_fault.ensures c.args.marks.now) ∙ c.in_ok-table_fault.was);
      marked = same_required _ _ _ _ c.require-3.ensures c.in_ok-require-3.was;
      valued = values-many;
      levelled = same_required _ _ _ _ c.require-2.ensures c.in_ok-require-2.was;
    } in
    rw values-many (fit)

pub returns : goal.returns
unfolding lent write_of write_tests
returns c =
    let given : Tables =
    lent c.args.atoms c.args.rules.now c.args.literals.now c.args.clauses.now c.args.loads.now c.args.load_literals.now c.args.minutes.now c.args.marks.now in
    let tables-fit : let t = given in write_of t c.args.values.now c.args.levels.now (length c.args.text.now) ≡ first_fault (slice_test (claim_slices t c.args.values.now c.args.levels.now) ∷ mark_count_test t ∷ mark_test t ∷ text_test t c.args.values.now c.args.levels.now (length c.args.text.now) ∷ []) =
    verdict_leaves _ (table_tests (given)) _ _ (ap first_fault (lent_order (given) _ _)) (c.table_fault.ensures c.args.marks.now) c.in_ok-table_fault.was in
    let slices_fit : let t = given in write_of t c.args.values.now c.args.levels.now (length c.args.text.now) ≡ first_fault (mark_count_test t ∷ mark_test t ∷ text_test t c.args.values.now c.args.levels.now (length c.args.text.now) ∷ []) =
    tables-fit ∙ slice_leaves _ _ (sized_more (same_required _ _ _ _ c.require.ensures c.in_ok-require.was) (sized_more (same_required _ _ _ _ c.require-2.ensures c.in_ok-require-2.was ∙ sym (one_sized _ _)) sized_none)) in
    as_promised (rw (slices_fit ∙ marks_leave _ _ (same_required _ _ _ _ c.require-3.ensures c.in_ok-require-3.was)) (rw (same_required _ _ _ _ c.require.ensures c.in_ok-require.was) at c.write_lent.ensures))
