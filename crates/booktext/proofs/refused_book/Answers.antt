-- `booktext::refused_book` meets its contract: the answer is written as the definition has it.
use mathlib.Core.Path.{refl}
use Rattle.booktext.specs.Answers.{answer_of}
use Rattle.booktext.proofs.refused_book.Goals as goal

pub returns : goal.returns
unfolding answer_of
returns c = refl
