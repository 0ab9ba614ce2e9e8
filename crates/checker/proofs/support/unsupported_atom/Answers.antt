-- `checker::support::unsupported_atom` meets its contract: an atom fails where it is defined and true without support.
use mathlib.Core.Path.{sym, ◌∙◌}
use borrow.Author.Rules.{rules}
use Rattle.checker.proofs.Supported.{unsupported_at}
use Rattle.checker.proofs.support.unsupported_atom.Goals as goal

pub returns : goal.returns
returns c = c.lowest.ensures _ (λ place told l met. search rules ∙ sym (unsupported_at _ _ _ _ l))
