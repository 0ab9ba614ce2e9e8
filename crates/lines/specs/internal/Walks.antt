-- What the functions promise that read a line, judge it, and walk over the lines of a text.
use Rattle.std.specs.Prelude.{ℕ, ◌+◌, ◌-◌, ◌≤◌, ◌≡◌, true, cond, List, [], ◌∷◌, leb, length, Option, Some, None, Result, Err, IsOk, Ok}
use Rattle.tables.specs.Limits.{max_atoms}
use Rattle.tables.specs.declared.Fault.{Fault}
use Rattle.tables.specs.declared.Fault.TheVariants.{Malformed, OutOfOrder}
use Rattle.format.specs.Forms.{Form, line_end}
use Rattle.format.specs.Parse.{Reading, got, refused, Holds}
use Rattle.format.specs.Words.{word_at}
use Rattle.tables.specs.declared.Refusal.{Refusal}
use Rattle.judging.specs.declared.reached.Reached.{Reached}
use Rattle.judging.specs.declared.reached.Space.{Space}
use Rattle.judging.specs.declared.reached.Shape.{Shape}
use Rattle.judging.specs.declared.reached.Phase.TheVariants.{OpenStood}
use Rattle.judging.specs.States.{rank, start, counts_within}
use Rattle.judging.specs.Judging.{failed, max_bytes, judge_form, judge_text, forms_of}
use Rattle.judging.specs.internal.Shapes.{judge_shape, CountsFit, as_move}
use Rattle.lists.specs.internal.Lists.{Inside}
use Rattle.forms.specs.Contents.{Contents}
use Rattle.forms.specs.Entries.{entries_of}
use Rattle.forms.specs.internal.Stores.{store, store_forms}

-- A line may be read at an offset: the counts and the number of atoms reached so far are within their limits.
pub record Ready (text : List ℕ) (at : ℕ) (s : Reached) : Type 0 where
  pub inside : Inside text at
  pub counts : counts_within s ≡ true
  pub atoms : s.size ≤ max_atoms

-- A line may be judged: what was counted so far is within its limits and has space, and a form has no more parts than a text may have bytes.
pub record Judgeable (space : Space) (s : Reached) (line : Option (Shape × ℕ)) : Type 0 where
  pub fitted : CountsFit space s
  pub few : (shape : Shape) (next : ℕ) → line ≡ Some (shape, next) → shape.parts ≤ max_bytes

-- What a line comes to, from what was read of it: its form must be ended by a byte, and is judged by its shape.
unfoldable pub line_move : Space → Reached → List ℕ → Option (Shape × ℕ) → Result (Reached × ℕ) Fault
line_move space s text (Some (shape, next)) =
    cond (word_at text next (line_end ∷ [])) (as_move (next + 1) (judge_shape space s shape)) (Err Malformed)
line_move space s text None = Err Malformed

-- The same of the form that stands there: it is judged, with the offset after its line, or there is none.
unfoldable pub move_of : Space → Reached → List ℕ → Reading Form → Result (Reached × ℕ) Fault
move_of space s text (got f rest) = as_move (length text - length rest) (judge_form space s f)
move_of space s text refused = Err Malformed

-- A line that was read and judged: its answer, and the form's entries stored where the line is no obstacle.
pub record Moves (space : Space) (s : Reached) (text : List ℕ) (reading : Reading Form) (answer : Result (Reached × ℕ) Fault)
    (before afterwards : Contents) : Type 0 where
  pub answered : answer ≡ move_of space s text reading
  pub laid : Holds (λ f rest. IsOk answer → afterwards ≡ store s (entries_of s f) before) reading

-- What a text has come to after its last line.
unfoldable pub ended_at : Reached → ℕ → Result Reached Refusal
ended_at s at = cond (leb (rank OpenStood) (rank s.phase)) (Ok s) (failed OutOfOrder at)

-- What the walk over a text promises: its answer, and for a text that passes the forms' entries, stored one form after the other.
pub record Walked (text : List ℕ) (space : Space) (before : Contents) (answer : Result Reached Refusal) (afterwards : Contents) : Type 0 where
  pub answered : answer ≡ judge_text space text
  pub laid : IsOk answer → afterwards ≡ store_forms start (forms_of text) before
