-- `booktext::answer_of` meets its contract: each judgement is a case of the definition.
use Rattle.booktext.specs.Answers.{answer_of}
use Rattle.booktext.proofs.answer_of.Goals as goal

pub returns-in-Err : goal.returns-in-Err
unfolding answer_of
returns-in-Err c = rw c.in-Err.is c.refused_book.ensures

pub returns-in-Ok : goal.returns-in-Ok
unfolding answer_of
returns-in-Ok c = rw (c.in-Ok.is, c.state_of.ensures)
