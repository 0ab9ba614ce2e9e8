-- `advancing::fronts::advance` meets its contract: atoms are founded if that is due, the queue is propagated, and the round is closed.
use Prim.Native.Nat.{ℕ, suc}
use mathlib.Core.List.{List}
use Rattle.wellfounded.specs.Definitions.{Definition}
use Rattle.advancing.specs.internal.Fronts.{Closes, Advances}
use Rattle.advancing.proofs.FrontLaws.{advance_founds, advance_fits, advance_closes}
use Rattle.advancing.proofs.fronts.advance.Goals as goal

pub found_if-requires : goal.found_if-requires
found_if-requires c = (_, _, _, advance_founds c.requires.3)

pub propagate-next-requires : goal.propagate-next-requires
propagate-next-requires c = advance_fits c.requires.3

pub close-requires : goal.close-requires
close-requires c =
    let closes : (d : Definition) (setting : List ℕ) (k : ℕ) → Advances d c.args.rules.now c.args.literals.now c.args.starts.now c.args.entries.now setting k c.args.level c.args.from c.args.end c.args.due c.args.counts.now c.args.founded.now c.args.values.now c.args.levels.now c.args.queue.now → Closes d c.args.rules.now c.args.literals.now c.args.starts.now c.args.entries.now setting (suc k) c.args.due c.args.end c.propagate-next.result c.args.level c.found_if.new.founded c.propagate-next.new.counts c.propagate-next.new.values c.args.levels.now c.propagate-next.new.queue =
    λ d setting k v. advance_closes v c.found_if.auto.founded (c.found_if.ensures d setting (suc k) (advance_founds v)) c.propagate-next.ensures.done.many
    c.propagate-next.ensures in
    (c.requires.0, _, _, _, c.requires.1, _, suc c.requires.2, closes c.requires.0 c.requires.1 c.requires.2 c.requires.3)

pub returns : goal.returns
returns c =
    let closes : (d : Definition) (setting : List ℕ) (k : ℕ) → Advances d c.args.rules.now c.args.literals.now c.args.starts.now c.args.entries.now setting k c.args.level c.args.from c.args.end c.args.due c.args.counts.now c.args.founded.now c.args.values.now c.args.levels.now c.args.queue.now → Closes d c.args.rules.now c.args.literals.now c.args.starts.now c.args.entries.now setting (suc k) c.args.due c.args.end c.propagate-next.result c.args.level c.found_if.new.founded c.propagate-next.new.counts c.propagate-next.new.values c.args.levels.now c.propagate-next.new.queue =
    λ d setting k v. advance_closes v c.found_if.auto.founded (c.found_if.ensures d setting (suc k) (advance_founds v)) c.propagate-next.ensures.done.many
    c.propagate-next.ensures in
    λ d setting k v. c.close.ensures d _ _ _ setting _ (suc k) (closes d setting k v)
