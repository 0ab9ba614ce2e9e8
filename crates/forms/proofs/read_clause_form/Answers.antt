-- `forms::read_clause_form` meets its contract: the literals, then the row.
use mathlib.Core.Path.{refl}
use native.Mathlib.Omega.{arith}
use Rattle.format.specs.Forms.{literal_bytes}
use Rattle.format.specs.Parse.{read_literal}
use Rattle.format.proofs.Pieces.{literal_inverse}
use Rattle.judging.proofs.Counts.{counts_within_lem}
use Rattle.format.specs.Views.{view_of, of_kind, same_kind, kind_number}
use Rattle.forms.specs.Entries.{clause_row, literals_in}
use Rattle.forms.proofs.Gathered.{count_small}
use Rattle.forms.proofs.ClauseForm.{clause_listless, clause_formed}
use Rattle.forms.proofs.read_clause_form.Goals as goal

pub read_literals-requires : goal.read_literals-requires
read_literals-requires c = record { inside = c.requires.inside; from_le_max_literals = (counts_within_lem _ c.requires.reached_value).literals }

pub returns-in_err-parts : goal.returns-in_err-parts
returns-in_err-parts c = rw c.from_residual.ensures (clause_listless c.args.at c.in_err-parts.ensures refl)

pub store_clause-requires : goal.store_clause-requires
store_clause-requires c = let bounds = counts_within_lem _ c.requires.reached_value in
    let small = count_small literal_bytes read_literal literal_inverse c.args.at c.requires.inside c.in_ok-parts.ensures refl in
    (bounds.clauses, omega (arith, bounds.literals), small)

pub returns : goal.returns
unfolding clause_row kind_number literals_in of_kind same_kind view_of
returns c = clause_formed c.args.at c.in_ok-parts.ensures refl
    (λ ls n w. (rw (← n) c.store_clause.ensures, w))
