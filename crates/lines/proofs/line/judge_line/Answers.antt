-- `lines::line::judge_line` meets its contract: each way out is a case of the definition.
use mathlib.Core.Path.{sym, ◌∙◌}
use native.Mathlib.Omega.{arith}
use borrow.Author.Rules.{rules}
use Rattle.format.specs.Forms.{line_end}
use Rattle.items.proofs.ItemLaws.{byte_got}
use Rattle.lines.specs.internal.Walks.{line_move}
use Rattle.lines.proofs.line.judge_line.Goals as goal

pub overflow_add-next : goal.overflow_add-next
overflow_add-next c = omega (arith, (byte_got _ _ line_end (sym c.byte_at.ensures ∙ c.if-not-byte_at.false)).1)

pub returns-in_err-shape : goal.returns-in_err-shape
unfolding line_move
returns-in_err-shape c = search rules

pub returns-then-not-byte_at : goal.returns-then-not-byte_at
unfolding line_move
returns-then-not-byte_at c = search rules

pub returns : goal.returns
unfolding line_move
returns c = search rules
