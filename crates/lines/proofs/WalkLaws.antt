-- Laws of the walk over a text: what holds at each line that it comes to, and what it answers where it ends.
-- Assumes nothing.
use Prim.Native.Nat.{ℕ, suc, ◌+◌, ◌-◌, ◌≤◌, ◌<◌}
use mathlib.Core.Path.{◌≡◌, refl, sym, ap, ◌∙◌}
use mathlib.Core.Bool.{true, false≢true}
use mathlib.Core.List.{List, [], ◌∷◌, ◌++◌, append_assoc}
use native.Mathlib.Omega.{arith}
use lib.ListN.{length, drop, length-append, drop_of_length-le}
use lib.Seq.{drop-cons, length-sets}
use borrow.Author.Tests.{le-leb, lt-leb}
use Rattle.std.specs.Prelude.{Result, Ok, Err}
use Rattle.tables.specs.declared.Fault.{Fault}
use Rattle.tables.specs.declared.Fault.TheVariants.{Malformed, OutsideLimits}
use Rattle.format.specs.Forms.{Form, line_end, render}
use Rattle.format.specs.Parse.{Reading, got, refused, read_line}
use Rattle.tables.specs.declared.Refusal.{Refusal}
use Rattle.judging.specs.declared.reached.Reached.{Reached}
use Rattle.judging.specs.declared.reached.Space.{Space}
use Rattle.judging.specs.LentTables.{Table}
use Rattle.judging.specs.States.{start, after, fits}
use Rattle.judging.specs.Judging.{failed, lines, judge_form, levelled, if_levelled, continued, judge_lines, judge_text, max_bytes, forms_from, forms_of}
use Rattle.judging.specs.internal.Shapes.{as_move}
use Rattle.judging.proofs.LineLaws.{levelled_got, line_formed, judge_line_lem, judge_refused, forms_line}
use Rattle.judging.proofs.Counts.{start_fits}
use Rattle.judging.proofs.StateLaws.{start_limits, after_counts, after_size, judge_on}
use Rattle.forms.specs.Contents.{Contents}
use Rattle.forms.specs.Entries.{entries_of}
use Rattle.forms.specs.internal.Stores.{store, store_forms}
use Rattle.lines.specs.internal.Walks.{move_of, Ready, Moves, ended_at, Walked}
use Rattle.lines.proofs.MoveLaws.{rest_at}

-- The walk has come to an offset in some state: what was counted has space, judging the rest from there is judging the text, and storing the
-- forms of the rest is storing all.
pub record Underway (text : List ℕ) (space : Space) (before : Contents) (s : Reached) (at : ℕ) (now : Contents) : Type 0 where
  pub ready : Ready text at s
  pub fitting : fits space s ≡ true
  pub judged : judge_lines space s at (lines (drop at text)) ≡ judge_text space text
  pub stored : store_forms s (forms_from s (lines (drop at text))) now ≡ store_forms start (forms_of text) before
  pub lengths : (table : Table) → length (now table) ≡ length (before table)

-- A text that is too long is refused, whatever stands in the tables.
pub walk_long :
    (text : List ℕ) (space : Space) (before : Contents) → max_bytes < length text → Walked text space before (failed OutsideLimits 0) before
unfolding judge_text
walk_long text space before l =
    record { answered = rw (lt-leb (length text) max_bytes l); laid = λ p. absurd (false≢true p) }

pub walk_start :
    (text : List ℕ) (space : Space) (before : Contents) (s : Reached) → length text ≤ max_bytes → s ≡ start →
    Underway text space before s 0 before
unfolding judge_text forms_of start
walk_start text space before s l e =
    rw e
    record {
      ready = record { inside = record { reached = omega arith; short = l }; counts = start_limits; atoms = omega arith };
      fitting = start_fits space;
      judged = rw (le-leb (length text) max_bytes l);
      stored = refl;
      lengths = λ table. refl;
    }

-- A line goes on to the offset after it.
as_move_on : (n : ℕ) (m : Result Reached Fault) {t : Reached} {next : ℕ} → as_move n m ≡ Ok (t, next) → (m ≡ Ok t) × (next ≡ n)
unfolding as_move
as_move_on n (Ok s) {t} {next} e =
    let same : ◌≡◌ {A = Reached × ℕ} (s, n) (t, next) = cc in
    (ap (λ (p : Reached × ℕ). Ok p.0) same, sym (ap (λ (p : Reached × ℕ). p.1) same))
as_move_on n (Err fault) e = let z : ◌≡◌ {A = ℕ} 0 1 = cc in absurd (omega arith)

as_move_stop : (n : ℕ) (m : Result Reached Fault) {fault : Fault} → as_move n m ≡ Err fault → m ≡ Err fault
unfolding as_move
as_move_stop n (Ok s) e = let z : ◌≡◌ {A = ℕ} 0 1 = cc in absurd (omega arith)
as_move_stop n (Err fault) e = cc

module _ {text : List ℕ} {space : Space} {before : Contents} {s : Reached} {at : ℕ} {now : Contents} (w : Underway text space before s at now) where
  -- The line of a levelled form stands at the offset, and the form passes.
  module _ (f : Form) (rest : List ℕ) (levels : levelled s f ≡ true) (here : drop at text ≡ render f ++ (line_end ∷ rest)) where
    after_line : (length text - length rest ≡ at + suc (length (render f))) × (drop (length text - length rest) text ≡ rest)
    after_line =
        let k = rest_at text (render f ++ (line_end ∷ [])) rest w.ready.inside.reached (here ∙ sym (append_assoc (render f) (line_end ∷ []) rest)) in
        let one : length (render f ++ (line_end ∷ [])) ≡ suc (length (render f)) = rw length-append (omega arith) in
        (rw one at k.0, k.1)

    judged_on :
        {t : Reached} → judge_form space s f ≡ Ok t →
        judge_lines space s at (lines (drop at text)) ≡ judge_lines space t (at + suc (length (render f))) (lines rest)
    unfolding continued
    judged_on e = rw (here, judge_line_lem space s at f rest levels, e)

    stored_on :
        store_forms s (forms_from s (lines (drop at text))) now
        ≡ store_forms (after s f) (forms_from (after s f) (lines rest)) (store s (entries_of s f) now)
    unfolding store_forms
    stored_on = rw (here, forms_line s f rest levels)

    stored_lengths : (table : Table) → length (store s (entries_of s f) now table) ≡ length (before table)
    unfolding store
    stored_lengths table = length-sets (now table) _ (entries_of s f table) ∙ w.lengths table

    went :
        {t : Reached} {next : ℕ} {later : Contents} → judge_form space s f ≡ Ok t → next ≡ length text - length rest →
        later ≡ store s (entries_of s f) now → Underway text space before t next later × (at < next)
    went {t} {next} {later} e n d =
        let k = judge_on space s f t e in
        let reached : at + suc (length (render f)) ≤ length text = omega (arith, after_line.0, w.ready.inside.reached) in
        rw (n, d) (
          record {
            ready = rw k.3 record {
              inside = record { reached = omega arith; short = w.ready.inside.short };
              counts = after_counts s f k.0;
              atoms = after_size s f w.ready.atoms k.0;
            };
            fitting = rw k.3 k.2;
            judged = rw (after_line.1, after_line.0) (sym (judged_on e) ∙ w.judged);
            stored = rw (after_line.1, k.3) (sym stored_on ∙ w.stored);
            lengths = stored_lengths;
          },
          omega (arith, after_line.0),
        )

  -- A line that goes on.
  pub walk_on :
      {answer : Result (Reached × ℕ) Fault} {t : Reached} {next : ℕ} {later : Contents} →
      Moves space s text (if_levelled s (read_line (drop at text))) answer now later → answer ≡ Ok (t, next) → Underway text space before t next later × (at < next)
  unfolding move_of
  walk_on {answer} {t} {next} {later} m e = step (if_levelled s (read_line (drop at text))) refl m
    where
      step :
          (r : Reading Form) → if_levelled s (read_line (drop at text)) ≡ r → Moves space s text r answer now later →
          Underway text space before t next later × (at < next)
      step (got f rest) read m =
          let k = as_move_on _ (judge_form space s f) (sym m.answered ∙ e) in
          let line = levelled_got s (read_line (drop at text)) f rest read in
          went f rest line.1 (line_formed (drop at text) f rest line.0) k.0 k.1 (m.laid (rw e))
      step refused read m = let z : ◌≡◌ {A = ℕ} 0 1 = cc m.answered in absurd (omega arith)

  -- A line that is refused.
  pub walk_stop :
      {answer : Result (Reached × ℕ) Fault} {fault : Fault} {later : Contents} → at < length text →
      Moves space s text (if_levelled s (read_line (drop at text))) answer now later →
      answer ≡ Err fault → Walked text space before (failed fault at) later
  unfolding move_of continued
  walk_stop {answer} {fault} {later} l m e =
      record { answered = step (if_levelled s (read_line (drop at text))) refl (sym m.answered ∙ e) ∙ w.judged; laid = λ p. absurd (false≢true p) }
    where
      step :
          (r : Reading Form) → if_levelled s (read_line (drop at text)) ≡ r → move_of space s text r ≡ Err fault →
          failed fault at ≡ judge_lines space s at (lines (drop at text))
      step (got f rest) read a =
          let line = levelled_got s (read_line (drop at text)) f rest read in
          rw (line_formed (drop at text) f rest line.0, judge_line_lem space s at f rest line.1, as_move_stop _ (judge_form space s f) a)
      step refused read a =
          let some = drop-cons text at 0 l in
          let told : failed fault at ≡ failed Malformed at = cc in
          told ∙ rw some (sym (judge_refused space s at _ _ (rw some at read)))

  -- After the last line.
  pub walk_ended : length text ≤ at → (answer : Result Reached Refusal) → answer ≡ ended_at s at → Walked text space before answer now
  unfolding ended_at judge_lines lines forms_from store_forms
  walk_ended l answer e =
      let none : drop at text ≡ [] = drop_of_length-le text l in
      record { answered = e ∙ (rw none at w.judged); laid = λ p. rw none at w.stored }
