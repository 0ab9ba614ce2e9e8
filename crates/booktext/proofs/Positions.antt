-- How high the position of a refused text can be: within the text, or at its end.
-- Assumes nothing.
use Prim.Native.Nat.{ℕ, ◌≤◌}
use mathlib.Core.Path.{◌≡◌, refl, ap}
use mathlib.Core.List.{List, ◌∷◌, ◌++◌}
use native.Mathlib.Omega.{arith}
use lib.ListN.{length, length-append}
use Rattle.std.specs.Prelude.{Result, Ok, Err}
use Rattle.tables.specs.declared.Fault.{Fault}
use Rattle.tables.specs.Limits.{max_position}
use Rattle.tables.specs.Faults.{position_of}
use Rattle.format.specs.Forms.{line_end, render, render_all}
use Rattle.tables.specs.declared.Refusal.{Refusal}
use Rattle.judging.specs.declared.reached.Reached.{Reached}
use Rattle.judging.specs.declared.reached.Space.{Space}
use Rattle.judging.specs.Judging.{judge_text}
use Rattle.judging.specs.Books.{FirstRefused, too_long, no_form, not_passing, no_state}
use Rattle.judging.proofs.Refusals.{refused_first}
use Rattle.booktext.specs.Answers.{answer_of}

front_length : (xs ys : List ℕ) → length xs ≤ length (xs ++ ys)
front_length xs ys = rw length-append (omega arith)

first_position : (space : Space) (text : List ℕ) (fault : Fault) (at : ℕ) → FirstRefused space text fault at → at ≤ max_position
first_position space text fault at (too_long k) = omega (arith, k.position)
first_position space text fault at (no_form k) =
    omega (arith, k.position, k.short, front_length (render_all k.before) k.rest, ap length k.whole)
first_position space text fault at (not_passing k) =
    omega (arith, k.position, k.short, front_length (render_all k.before) (render k.form ++ (line_end ∷ k.rest)), ap length k.whole)
first_position space text fault at (no_state k) = omega (arith, k.position, k.short)

pub text_position : (space : Space) (text : List ℕ) → position_of (answer_of (judge_text space text)).verdict ≤ max_position
unfolding answer_of
text_position space text = step (judge_text space text) refl
  where
    step : (j : Result Reached Refusal) → judge_text space text ≡ j → position_of (answer_of j).verdict ≤ max_position
    step (Ok s) e = omega arith
    step (Err why) e = first_position space text why.fault why.position (refused_first space text why.fault why.position e)
