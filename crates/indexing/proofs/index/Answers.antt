-- `indexing::index` meets its contract: where nothing is refused the index is built, else both slices are left alone.
use Prim.Native.Nat.{◌*◌}
use mathlib.Core.Path.{sym, ◌∙◌}
use Rattle.tables.specs.Sound.{Tables, lent}
use Rattle.indexing.proofs.IndexLaws.{ready, refused_leaves, accepted_builds}
use Rattle.indexing.proofs.index.Goals as goal

pub returns-in_err-index_fault : goal.returns-in_err-index_fault
returns-in_err-index_fault c = refused_leaves c.index_fault.ensures c.in_err-index_fault.was c.from_residual.ensures.1

pub build-requires : goal.build-requires
unfolding lent
build-requires c =
    let given : Tables =
    lent c.args.atoms c.args.rules.now c.args.literals.now c.args.clauses.now c.args.loads.now c.args.load_literals.now c.args.minutes.now c.args.marks.now in
    (2 * c.args.atoms, ready given _ _ (sym c.index_fault.ensures ∙ c.in_ok-index_fault.was))

pub returns : goal.returns
unfolding lent
returns c =
    let given : Tables =
    lent c.args.atoms c.args.rules.now c.args.literals.now c.args.clauses.now c.args.loads.now c.args.load_literals.now c.args.minutes.now c.args.marks.now in
    let is = c.index_fault.ensures in
    let accepted = c.in_ok-index_fault.was in
    accepted_builds is accepted (c.build.ensures (2 * c.args.atoms) (ready given _ _ (sym is ∙ accepted)))
