-- `writing::book::put_defined` meets its contract: without a mark there is no line; else word, atoms and end of it stand one behind the other.
use mathlib.Core.Path.{sym, ◌∙◌}
use native.Mathlib.Omega.{arith}
use lib.ListN.{length-append}
use Rattle.printing.proofs.PutLaws.{puts_none, puts_then}
use Rattle.writing.proofs.PartLaws.{defined_none}
use Rattle.writing.proofs.TextLaws.{parts_length, defined_parts}
use Rattle.writing.proofs.book.put_defined.Goals as goal

pub returns-then-count_marked-eq0 : goal.returns-then-count_marked-eq0
returns-then-count_marked-eq0 c = rw (defined_none _ _ (sym c.count_marked.ensures ∙ c.if-count_marked-eq0.true)) puts_none

pub put-begun-requires : goal.put-begun-requires
put-begun-requires c = omega (arith, parts_length (defined_parts _ _ (λ e. c.if-count_marked-eq0.false (c.count_marked.ensures ∙ e))))

pub put_line-requires-clause-room : goal.put_line-requires-clause-room
put_line-requires-clause-room c =
    rw length-append (omega (arith, parts_length (defined_parts _ _ (λ e. c.if-count_marked-eq0.false (c.count_marked.ensures ∙ e))), c.requires.marks_in_bounds, c.put-begun.ensures.answered))

pub returns : goal.returns
returns c = rw (defined_parts _ _ (λ e. c.if-count_marked-eq0.false (c.count_marked.ensures ∙ e))).is (puts_then c.put-begun.ensures c.put_line.ensures)
