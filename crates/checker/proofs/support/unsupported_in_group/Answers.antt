-- `checker::support::unsupported_in_group` meets its contract: the marks tell which true atoms are supported.
use mathlib.Core.Path.{◌∙◌}
use Rattle.checker.proofs.Supported.{support_search}
use Rattle.checker.proofs.support.unsupported_in_group.Goals as goal

pub returns : goal.returns
returns c = λ d ranged. c.unsupported_atom.ensures ∙ support_search ranged c.requires _ c.mark_supported.ensures
