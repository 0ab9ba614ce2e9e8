-- `lines::line::read_form` meets its contract: each kind is read on from after its word, and adds to its own tables.
use Rattle.format.specs.declared.kinds.Kind.TheVariants.{Atoms, Rule, Clause, Load, Open, Claim, Defined}
use Rattle.format.specs.Words.{word_of}
use Rattle.forms.specs.Contents.{lent_tables}
use Rattle.forms.proofs.DispatchLaws.{inside_after, atoms_form_lem, rule_form_lem, clause_form_lem, load_form_lem, open_form_lem, claim_form_lem, defined_form_lem, no_kind}
use Rattle.lines.proofs.line.read_form.Goals as goal

pub read_atoms_form-requires : goal.read_atoms_form-requires
unfolding word_of
read_atoms_form-requires c = inside_after c.requires.inside c.in_ok-kind.ensures Atoms c.in-Atoms.is

pub read_rule_form-requires : goal.read_rule_form-requires
unfolding word_of
read_rule_form-requires c = record { inside = inside_after c.requires.inside c.in_ok-kind.ensures Rule c.in-Rule.is; reached_value = c.requires.counts }

pub read_clause_form-requires : goal.read_clause_form-requires
unfolding word_of
read_clause_form-requires c = record { inside = inside_after c.requires.inside c.in_ok-kind.ensures Clause c.in-Clause.is; reached_value = c.requires.counts }

pub read_load_form-requires : goal.read_load_form-requires
unfolding word_of
read_load_form-requires c = record { inside = inside_after c.requires.inside c.in_ok-kind.ensures Load c.in-Load.is; reached_value = c.requires.counts }

pub read_open_form-requires : goal.read_open_form-requires
unfolding word_of
read_open_form-requires c = record { inside = inside_after c.requires.inside c.in_ok-kind.ensures Open c.in-Open.is; size_le_max_atoms = c.requires.atoms }

pub read_claim_form-requires : goal.read_claim_form-requires
unfolding word_of
read_claim_form-requires c = record { inside = inside_after c.requires.inside c.in_ok-kind.ensures Claim c.in-Claim.is; size_le_max_atoms = c.requires.atoms }

pub read_defined_form-requires : goal.read_defined_form-requires
unfolding word_of
read_defined_form-requires c = record { inside = inside_after c.requires.inside c.in_ok-kind.ensures Defined c.in-Defined.is; size_le_max_atoms = c.requires.atoms }

pub returns-in-Atoms : goal.returns-in-Atoms
unfolding lent_tables
returns-in-Atoms c = atoms_form_lem _ _ c.in_ok-kind.ensures _ c.in-Atoms.is c.read_atoms_form.ensures

pub returns-in-Rule : goal.returns-in-Rule
unfolding lent_tables
returns-in-Rule c = rule_form_lem _ _ c.in_ok-kind.ensures _ _ c.in-Rule.is c.read_rule_form.ensures

pub returns-in-Clause : goal.returns-in-Clause
unfolding lent_tables
returns-in-Clause c = clause_form_lem _ _ c.in_ok-kind.ensures _ _ c.in-Clause.is c.read_clause_form.ensures

pub returns-in-Load : goal.returns-in-Load
unfolding lent_tables
returns-in-Load c = load_form_lem _ _ c.in_ok-kind.ensures _ _ _ c.in-Load.is c.read_load_form.ensures

pub returns-in-Open : goal.returns-in-Open
unfolding lent_tables
returns-in-Open c = open_form_lem _ _ c.in_ok-kind.ensures _ c.in-Open.is c.read_open_form.ensures

pub returns-in-Claim : goal.returns-in-Claim
unfolding lent_tables
returns-in-Claim c = claim_form_lem _ _ c.in_ok-kind.ensures _ _ c.in-Claim.is c.read_claim_form.ensures

pub returns-in-Defined : goal.returns-in-Defined
unfolding lent_tables
returns-in-Defined c = defined_form_lem _ _ c.in_ok-kind.ensures _ c.in-Defined.is c.read_defined_form.ensures

pub returns-in_err-kind : goal.returns-in_err-kind
returns-in_err-kind c = rw c.from_residual.ensures (no_kind _ _ c.in_err-kind.ensures)
