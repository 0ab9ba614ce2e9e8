-- A line judged: ended by its byte and judged by its shape, it comes to what its form comes to.
-- Assumes nothing.
use Prim.Native.Nat.{ℕ, ◌+◌, ◌-◌, ◌≤◌}
use mathlib.Core.Path.{◌≡◌, refl, sym, ap, ◌∙◌}
use mathlib.Core.Bool.{Bool, true, false, cond, false≢true}
use mathlib.Core.List.{List, [], ◌∷◌, ◌++◌}
use native.Mathlib.Omega.{arith}
use lib.ListN.{length, drop, length-append, length-drop}
use lib.Seq.{drop-drop, drop-append_seam}
use Rattle.std.specs.Prelude.{Option, Some, Result, Ok, Err, is_ok}
use Rattle.wellfounded.proofs.Tests.{first}
use Rattle.tables.specs.declared.Fault.{Fault}
use Rattle.tables.specs.declared.Fault.TheVariants.{Malformed}
use Rattle.format.specs.Forms.{Form, line_end, render}
use Rattle.format.specs.Parse.{Reading, got, refused, and_then, skip, read_form, read_line}
use Rattle.format.specs.Words.{word_at}
use Rattle.format.proofs.Readings.{holds_use}
use Rattle.format.proofs.Lines.{form_written}
use Rattle.items.proofs.ItemLaws.{byte_got, byte_none}
use Rattle.judging.specs.declared.reached.Reached.{Reached}
use Rattle.judging.specs.declared.reached.Space.{Space}
use Rattle.judging.specs.declared.reached.Shape.{Shape}
use Rattle.judging.specs.States.{fits}
use Rattle.judging.specs.Judging.{max_bytes, numbers_within, within_limits, judge_form, levelled, if_levelled}
use Rattle.judging.specs.internal.Shapes.{shape_of, judge_shape, as_move}
use Rattle.judging.proofs.ShapeLaws.{shape_judged, parts_few}
use Rattle.judging.proofs.StateLaws.{judge_on}
use Rattle.judging.proofs.LineLaws.{levelled_got}
use Rattle.forms.specs.Contents.{Contents}
use Rattle.numerals.specs.internal.Offsets.{answered}
use Rattle.numerals.proofs.OffsetLaws.{answer_some}
use Rattle.forms.specs.internal.Readers.{WellPlaced, Forms}
use Rattle.forms.proofs.DispatchLaws.{Stored}
use Rattle.lines.specs.internal.Walks.{Ready, Judgeable, line_move, move_of, Moves}

-- What is left after some bytes at an offset begins at the next one.
pub rest_at :
    (text bytes rest : List ℕ) {at : ℕ} → at ≤ length text → drop at text ≡ bytes ++ rest →
    (length text - length rest ≡ at + length bytes) × (drop (length text - length rest) text ≡ rest)
rest_at text bytes rest {at} l e =
    let sum : length text - at ≡ length bytes + length rest = sym (length-drop at text) ∙ ap length e ∙ length-append bytes rest in
    let next : length text - length rest ≡ at + length bytes = omega arith in
    (next, rw (next, ← drop-drop (length bytes) at text, e) (drop-append_seam bytes rest))

-- A form that goes on is fine.
goes_on_lem : (n : ℕ) (m : Result Reached Fault) → is_ok (as_move n m) ≡ true → (t : Reached) × (m ≡ Ok t)
unfolding as_move
goes_on_lem n (Ok t) e = (t, refl)
goes_on_lem n (Err fault) e = absurd (false≢true e)

judged_fine : (space : Space) (s : Reached) (f : Form) (n : ℕ) → is_ok (as_move n (judge_form space s f)) ≡ true → WellPlaced s f
unfolding within_limits
judged_fine space s f n g =
    let t = goes_on_lem n (judge_form space s f) g in
    let k = judge_on space s f t.0 t.1 in
    record { within = first (numbers_within s f) _ k.0; ordered = k.1 }

-- A line's form is levelled exactly if the form at the front is.
end_levelled :
    {A : Type 0} (s : Reached) (f : Form) (r : Reading A) →
    if_levelled s (and_then r (λ e after. got f after)) ≡ cond (levelled s f) (and_then r (λ e after. got f after)) refused
unfolding if_levelled and_then
end_levelled s f (got e after) = refl
end_levelled s f refused = step (levelled s f)
  where
    step : (b : Bool) → ◌≡◌ {A = Reading Form} refused (cond b refused refused)
    step true = refl
    step false = refl

line_levelled :
    (s : Reached) (bytes : List ℕ) →
    if_levelled s (read_line bytes) ≡ and_then (if_levelled s (read_form bytes)) (λ f rest. and_then (skip (line_end ∷ []) rest) (λ e after. got f after))
unfolding read_line and_then if_levelled
line_levelled s bytes = step (read_form bytes)
  where
    ended : Form → List ℕ → Reading Form
    ended f rest = and_then (skip (line_end ∷ []) rest) (λ e after. got f after)

    choose : (b : Bool) (f : Form) (rest : List ℕ) → cond b (ended f rest) refused ≡ and_then (cond b (got f rest) refused) ended
    choose true f rest = refl
    choose false f rest = refl

    step : (r : Reading Form) → if_levelled s (and_then r ended) ≡ and_then (if_levelled s r) ended
    step (got f rest) = end_levelled s f (skip (line_end ∷ []) rest) ∙ choose (levelled s f) f rest
    step refused = refl

-- A form was read at an offset.
module _ {s : Reached} {text : List ℕ} {at : ℕ} {line : Option (Shape × ℕ)} {written : Form → Type 0} (ready : Ready text at s)
    (read : Forms s text (if_levelled s (read_form (drop at text))) line written) where
  written_there : {f : Form} {rest : List ℕ} → if_levelled s (read_form (drop at text)) ≡ got f rest → drop at text ≡ render f ++ rest
  written_there {f} {rest} e =
      holds_use (λ g end. drop at text ≡ render g ++ end) (form_written (drop at text)) (levelled_got s (read_form (drop at text)) f rest e).0

  -- So that it may be judged.
  pub judgeable : {space : Space} → fits space s ≡ true → Judgeable space s line
  unfolding shape_of
  judgeable fitting = record { fitted = record { limits = ready.counts; fitting = fitting }; few = few }
    where
      few : (shape : Shape) (next : ℕ) → line ≡ Some (shape, next) → shape.parts ≤ max_bytes
      few shape next e =
          let g = answer_some (shape_of s) text (if_levelled s (read_form (drop at text))) (sym read.answered ∙ e) in
          let whole : length text - at ≡ length (render g.0) + length g.1 =
          sym (length-drop at text) ∙ (ap length (written_there g.2) ∙ length-append (render g.0) g.1) in
          rw g.3 (omega (arith, parts_few g.0, ready.inside.short))

-- The line that was read comes to what its form comes to.
module _ (space : Space) {s : Reached} {text : List ℕ} {at : ℕ} (ready : Ready text at s) {before afterwards : Contents} where
  ended :
      (f : Form) (next : ℕ) (b : Bool) → if_levelled s (read_form (drop at text)) ≡ got f (drop next text) → word_at text next (line_end ∷ []) ≡ b →
      (WellPlaced s f → Stored s before afterwards f) →
      Moves space s text (if_levelled s (read_line (drop at text))) (cond b (as_move (next + 1) (judge_shape space s (shape_of s f))) (Err Malformed)) before
      afterwards
  unfolding and_then move_of
  ended f next true d w laid =
      let g = byte_got text next line_end w in
      let end : length text - length (drop (next + 1) text) ≡ next + 1 = rw length-drop (omega (arith, g.1)) in
      rw (line_levelled s (drop at text), d, g.0, shape_judged space s f ready.atoms) record { answered = rw end; laid = λ on. laid (judged_fine space s f (next + 1) on) }
  ended f next false d w laid = rw (line_levelled s (drop at text), d, byte_none text next line_end w) record { answered = refl; laid = tt }

  unread : if_levelled s (read_form (drop at text)) ≡ refused → Moves space s text (if_levelled s (read_line (drop at text))) (Err Malformed) before afterwards
  unfolding and_then move_of
  unread d = rw (line_levelled s (drop at text), d) record { answered = refl; laid = tt }

  pub line_moves :
      {line : Option (Shape × ℕ)} {answer : Result (Reached × ℕ) Fault} → Forms s text (if_levelled s (read_form (drop at text))) line (Stored s before afterwards) →
      answer ≡ line_move space s text line →
      Moves space s text (if_levelled s (read_line (drop at text))) answer before afterwards
  unfolding answered line_move
  line_moves {line} {answer} read a = step (if_levelled s (read_form (drop at text))) refl read
    where
      step :
          (r : Reading Form) → if_levelled s (read_form (drop at text)) ≡ r → Forms s text r line (Stored s before afterwards) →
          Moves space s text (if_levelled s (read_line (drop at text))) answer before afterwards
      step (got f rest) d k =
          let next = length text - length rest in
          let there = rest_at text (render f) rest ready.inside.reached (written_there ready read d) in
          rw (a, k.answered) (ended f next (word_at text next (line_end ∷ [])) (rw there.1 d) refl k.laid)
      step refused d k = rw (a, k.answered) (unread d)
