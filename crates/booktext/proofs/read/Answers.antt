-- `booktext::read` meets its contract: a text is judged first, and one that passes is walked over once more and fills the tables.
use Rattle.judging.specs.LentTables.{space_with}
use Rattle.forms.specs.Contents.{lent_tables}
use Rattle.booktext.specs.Answers.{space_of}
use Rattle.booktext.proofs.ReadLaws.{read_refused, read_filled}
use Rattle.booktext.proofs.read.Goals as goal

pub returns-in-Err : goal.returns-in-Err
unfolding lent_tables space_of space_with
returns-in-Err c = read_refused c.judge.ensures c.in-Err.is c.refused_book.ensures

pub returns : goal.returns
unfolding lent_tables space_of space_with
returns c = read_filled c.judge.ensures c.in_default.is c.walk.ensures c.answer_of.ensures
