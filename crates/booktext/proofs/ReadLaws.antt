-- Laws of reading: how the judgement of a text and the walk over it make the answer, and what they leave in the tables.
-- Assumes nothing.
use Prim.Native.Nat.{ℕ}
use mathlib.Core.Path.{◌≡◌, sym, ap, ◌∙◌}
use mathlib.Core.List.{List}
use Rattle.std.specs.Prelude.{Result, Ok, Err}
use Rattle.tables.specs.declared.Refusal.{Refusal}
use Rattle.judging.specs.declared.reached.Reached.{Reached}
use Rattle.judging.specs.Judging.{judge_text, forms_of}
use Rattle.judging.proofs.Accepted.{accepted_book}
use Rattle.forms.specs.Contents.{Contents, filled}
use Rattle.forms.specs.Entries.{book_entries}
use Rattle.lines.specs.internal.Walks.{Walked}
use Rattle.booktext.specs.declared.Book.{Book}
use Rattle.booktext.specs.Answers.{space_of, answer_of, contents_after, Reads}
use Rattle.booktext.proofs.Filling.{stored_filled}

module _ {text : List ℕ} {before : Contents} where
  -- A walk over a text that passes fills the tables that were judged.
  pub walk_fills :
      {j : Result Reached Refusal} {after : Contents} {t : Reached} → Walked text (space_of before) before j after → j ≡ Ok t →
      after ≡ filled (book_entries (forms_of text)) before
  walk_fills w e =
      let k = accepted_book (space_of before) text _ (sym w.answered ∙ e) in
      w.laid (rw e) ∙ rw k.3 (stored_filled k.0 before k.1.book)

  -- A text is refused before anything is written,
  pub read_refused :
      {answer : Book} {j : Result Reached Refusal} {why : Refusal} → j ≡ judge_text (space_of before) text → j ≡ Err why →
      answer ≡ answer_of (Err why) → Reads text before answer before
  unfolding contents_after
  read_refused e f a =
      let told = sym e ∙ f in
      record { answered = rw told a; written = rw told }

  -- and one that was judged well fills the tables.
  pub read_filled :
      {answer : Book} {j₀ j : Result Reached Refusal} {t : Reached} {after : Contents} → j₀ ≡ judge_text (space_of before) text → j₀ ≡ Ok t →
      Walked text (space_of before) before j after → answer ≡ answer_of j → Reads text before answer after
  unfolding contents_after
  read_filled e f w a =
      let passed = sym e ∙ f in
      record { answered = a ∙ ap answer_of w.answered; written = rw passed (walk_fills w (w.answered ∙ passed)) }
