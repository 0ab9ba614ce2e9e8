-- `writing::write_lent` meets its contract: a refusal for a mark or for too many literals or terms, and a text without room, stop it with
-- nothing written; else the text is put at the front of the buffer.
use mathlib.Core.Path.{◌≡◌, sym, ◌∙◌}
use mathlib.Core.Bool.{true}
use mathlib.Core.List.{[], ◌∷◌}
use native.Mathlib.Omega.{arith}
use lib.ListN.{length}
use Rattle.tables.specs.Faults.{first_fault}
use Rattle.tables.specs.Sound.{Tables, lent, mark_test}
use Rattle.tables.proofs.SoundTables.{sound_sizes}
use Rattle.tables.proofs.Faults.{required_held, required_unmet}
use Rattle.tables.proofs.RefusalLaws.{early_refuses, early_leaves}
use Rattle.writing.specs.BookForms.{text_of}
use Rattle.writing.specs.Writing.{rows_fit, bytes_fit, text_test}
use Rattle.writing.proofs.Ready.{puttable, short}
use Rattle.writing.proofs.WriteLaws.{refused_writes, accepted_writes, rows_refuse, bytes_refuse, text_accepts, bytes_within}
use Rattle.writing.proofs.write_lent.Goals as goal

pub rows_fit-fit-requires : goal.rows_fit-fit-requires
unfolding lent
rows_fit-fit-requires c =
    let given : Tables =
    lent (length c.args.values.now) c.args.rules.now c.args.literals.now c.args.clauses.now c.args.loads.now c.args.load_literals.now c.args.minutes.now c.args.marks.now in
    let sizes = sound_sizes (given) c.requires.none in
    (omega (arith, sizes.few_rules), omega (arith, sizes.few_clauses), omega (arith, sizes.few_loads))

pub returns-in_err-first_refusal : goal.returns-in_err-first_refusal
unfolding lent
returns-in_err-first_refusal c =
    let given : Tables =
    lent (length c.args.values.now) c.args.rules.now c.args.literals.now c.args.clauses.now c.args.loads.now c.args.load_literals.now c.args.minutes.now c.args.marks.now in
    refused_writes _ _ _
    (early_refuses (given) (text_test (given) c.args.values.now c.args.levels.now (length c.args.text.now)) c.requires.marked _ _ _ _ _ c.not_held_atom.ensures (λ unfit. rows_refuse (given) _ _ _ (sym c.rows_fit-fit.ensures ∙ unfit)) (sym c.first_refusal.ensures ∙ c.in_err-first_refusal.was))
    c.from_residual.ensures.1

pub book_length-length-requires : goal.book_length-length-requires
unfolding lent
book_length-length-requires c =
    let given : Tables =
    lent (length c.args.values.now) c.args.rules.now c.args.literals.now c.args.clauses.now c.args.loads.now c.args.load_literals.now c.args.minutes.now c.args.marks.now in
    record { puttable = puttable (given) _ _ c.requires; short = short (given) _ _ c.requires }

pub returns-in_err-require : goal.returns-in_err-require
unfolding lent
returns-in_err-require c =
    let given : Tables =
    lent (length c.args.values.now) c.args.rules.now c.args.literals.now c.args.clauses.now c.args.loads.now c.args.load_literals.now c.args.minutes.now c.args.marks.now in
    let early : let text = text_test (given) c.args.values.now c.args.levels.now (length c.args.text.now) in (first_fault (mark_test (given) ∷ text ∷ []) ≡ first_fault (text ∷ [])) × (rows_fit c.args.rules.now c.args.clauses.now c.args.loads.now ≡ true) =
    let left = early_leaves (given) (text_test (given) c.args.values.now c.args.levels.now (length c.args.text.now)) c.requires.marked _ _ _ c.not_held_atom.ensures (sym c.first_refusal.ensures ∙ c.in_ok-first_refusal.was) in
    (left.0, sym c.rows_fit-fit.ensures ∙ left.1) in
    let unmet = required_unmet _ _ _ c.require.ensures c.in_err-require.was in
    refused_writes _ _ _ (early.0 ∙ bytes_refuse (given) _ _ _ (rw c.book_length-length.ensures at (sym c.bytes_fit.ensures) ∙ unmet.0) ∙ unmet.1) c.from_residual-in_err-require.ensures.1

pub put_book-requires : goal.put_book-requires
unfolding lent
put_book-requires c =
    let given : Tables =
    lent (length c.args.values.now) c.args.rules.now c.args.literals.now c.args.clauses.now c.args.loads.now c.args.load_literals.now c.args.minutes.now c.args.marks.now in
    let fit : bytes_fit (length (text_of (given) c.args.values.now c.args.levels.now)) (length c.args.text.now) ≡ true =
    rw c.book_length-length.ensures at (sym c.bytes_fit.ensures) ∙ required_held _ _ _ c.require.ensures c.in_ok-require.was in
    record { puttable = puttable (given) _ _ c.requires; levels_in_bounds = bytes_within (given) _ _ _ fit }

pub returns : goal.returns
unfolding lent
returns c =
    let given : Tables =
    lent (length c.args.values.now) c.args.rules.now c.args.literals.now c.args.clauses.now c.args.loads.now c.args.load_literals.now c.args.minutes.now c.args.marks.now in
    let early : let text = text_test (given) c.args.values.now c.args.levels.now (length c.args.text.now) in (first_fault (mark_test (given) ∷ text ∷ []) ≡ first_fault (text ∷ [])) × (rows_fit c.args.rules.now c.args.clauses.now c.args.loads.now ≡ true) =
    let left = early_leaves (given) (text_test (given) c.args.values.now c.args.levels.now (length c.args.text.now)) c.requires.marked _ _ _ c.not_held_atom.ensures (sym c.first_refusal.ensures ∙ c.in_ok-first_refusal.was) in
    (left.0, sym c.rows_fit-fit.ensures ∙ left.1) in
    let fit : bytes_fit (length (text_of (given) c.args.values.now c.args.levels.now)) (length c.args.text.now) ≡ true =
    rw c.book_length-length.ensures at (sym c.bytes_fit.ensures) ∙ required_held _ _ _ c.require.ensures c.in_ok-require.was in
    accepted_writes (early.0 ∙ text_accepts (given) _ _ _ early.1 fit) c.book_length-length.ensures (bytes_within (given) _ _ _ fit) c.put_book.ensures
