-- `outcome::outcome_of` meets its contract: a text is read into tables of full size, and the used parts of these are its entries.
use mathlib.Core.Path.{refl}
use Rattle.forms.specs.Contents.{lent_tables}
use Rattle.judging.specs.LentTables.{space_with, full_size}
use Rattle.booktext.specs.Answers.{space_of}
use Rattle.outcome.specs.Outcomes.{full_space}
use Rattle.outcome.proofs.OutcomeLaws.{text_read}
use Rattle.outcome.proofs.outcome_of.Goals as goal

pub full_space-requires : goal.full_space-requires
full_space-requires c = tt

pub walk-judged-requires : goal.walk-judged-requires
walk-judged-requires c = tt

pub answer_of-requires : goal.answer_of-requires
answer_of-requires c = tt

pub book_outcome-requires : goal.book_outcome-requires
unfolding full_size full_space lent_tables space_of space_with
book_outcome-requires c = record { fits_book = (text_read _ _ refl c.full_space.ensures c.walk-judged.ensures c.answer_of.ensures).fit; hold_every_atom = c.requires }

pub shape_of-values : goal.shape_of-values
shape_of-values c = c.book_outcome.auto.values

pub shape_of-levels : goal.shape_of-levels
shape_of-levels c = c.book_outcome.auto.levels

pub returns : goal.returns
unfolding full_size full_space lent_tables space_of space_with
returns c = let read = text_read _ _ refl c.full_space.ensures c.walk-judged.ensures c.answer_of.ensures in
    rw (← read.comes) c.book_outcome.ensures
