-- Laws of lines: the first line of a text is a form exactly if one that is levelled is read at the text's front, and how judging goes on after it.
-- Assumes nothing.
use Prim.Native.Nat.{ℕ, suc, ◌+◌}
use mathlib.Core.Path.{◌≡◌, refl, ap, subst}
use mathlib.Core.Bool.{Bool, true, false, cond}
use mathlib.Core.List.{List, [], ◌∷◌, ◌++◌}
use native.Mathlib.Omega.{arith}
use lib.Dec.{eqb}
use lib.ListN.{length}
use borrow.Author.Tests.{eqb-true, not-true}
use Rattle.wellfounded.specs.Lists.{all}
use Rattle.wellfounded.proofs.Tests.{first, second}
use Rattle.tables.specs.declared.Fault.TheVariants.{Malformed}
use Rattle.format.specs.Forms.{Form, line_end, render}
use Rattle.format.specs.Parse.{Reading, got, refused, parse, read_line}
use Rattle.format.proofs.Readings.{holds_use}
use Rattle.format.proofs.Lines.{render_parse, parse_render, line_reads, line_written}
use Rattle.format.proofs.Texts.{ends_none, OneLine, render_line}
use Rattle.judging.specs.declared.reached.Reached.{Reached}
use Rattle.judging.specs.declared.reached.Space.{Space}
use Rattle.judging.specs.States.{after}
use Rattle.judging.specs.Judging.{failed, LineText, prepend, lines, levelled, if_levelled, form_in, judge_form, judge_reading, judge_line, continued, judge_lines, cons_read, forms_from}

-- Bytes that end no line are a line with the byte after them that does.
pub lines_inside :
    (bytes rest : List ℕ) → OneLine bytes → lines (bytes ++ (line_end ∷ rest)) ≡ record { bytes = bytes; ended = true } ∷ lines rest
unfolding lines prepend all
lines_inside [] rest h = refl
lines_inside (b ∷ bytes) rest h =
    rw (not-true (eqb b line_end) (first (ends_none b) _ h), lines_inside bytes rest (second (ends_none b) _ h))

pub lines_line : (f : Form) (rest : List ℕ) → lines (render f ++ (line_end ∷ rest)) ≡ record { bytes = render f; ended = true } ∷ lines rest
lines_line f rest = lines_inside (render f) rest (render_line f)

-- A reading of a form that is levelled stays, and only such a one does.
pub levelled_stays : (s : Reached) (f : Form) (rest : List ℕ) → levelled s f ≡ true → if_levelled s (got f rest) ≡ got f rest
unfolding if_levelled
levelled_stays s f rest h = rw h

pub levelled_got :
    (s : Reached) (r : Reading Form) (f : Form) (rest : List ℕ) → if_levelled s r ≡ got f rest → (r ≡ got f rest) × (levelled s f ≡ true)
unfolding if_levelled
levelled_got s (got g end) f rest e = step (levelled s g) refl e
  where
    step : (b : Bool) → levelled s g ≡ b → cond b (got g end) refused ≡ got f rest → (got g end ≡ got f rest) × (levelled s f ≡ true)
    step true h k = let same : g ≡ f = cc in (k, rw same at h)
    step false h k = let z : ◌≡◌ {A = ℕ} 0 1 = cc in absurd (omega arith)
levelled_got s refused f rest e = let z : ◌≡◌ {A = ℕ} 0 1 = cc in absurd (omega arith)

-- What is left after a form does not matter to that.
levelled_refused : (s : Reached) (f : Form) (rest end : List ℕ) → if_levelled s (got f rest) ≡ refused → if_levelled s (got f end) ≡ refused
unfolding if_levelled
levelled_refused s f rest end e = step (levelled s f) e
  where
    step : (b : Bool) → cond b (got f rest) refused ≡ refused → cond b (got f end) refused ≡ refused
    step true k = let z : ◌≡◌ {A = ℕ} 0 1 = cc in absurd (omega arith)
    step false k = refl

pub form_line : (s : Reached) (f : Form) → levelled s f ≡ true → form_in s (record { bytes = render f; ended = true }) ≡ got f []
unfolding form_in
form_line s f h = rw (parse_render f) (levelled_stays s f [] h)

-- What is read at the front is the rendering of its form.
pub line_formed : (bytes : List ℕ) (f : Form) (rest : List ℕ) → read_line bytes ≡ got f rest → bytes ≡ render f ++ (line_end ∷ rest)
line_formed bytes f rest e = holds_use (λ g end. bytes ≡ render g ++ (line_end ∷ end)) (line_written bytes) e

-- The first line of some bytes, with what comes after it if it is ended.
abbrev Front : List ℕ → List LineText → Type 0
Front bytes [] = bytes ≡ []
Front bytes (line ∷ more) = line.ended ≡ true → (rest : List ℕ) × (bytes ≡ line.bytes ++ (line_end ∷ rest)) × (more ≡ lines rest)

front_prepend : (b : ℕ) (bytes : List ℕ) (ls : List LineText) → Front bytes ls → Front (b ∷ bytes) (prepend b ls)
unfolding prepend
front_prepend b bytes [] h = λ e. let z : ◌≡◌ {A = ℕ} 0 1 = cc in absurd (omega arith)
front_prepend b bytes (line ∷ more) h = λ e. let k = h e in (k.0, ap (λ (l : List ℕ). b ∷ l) k.1, k.2)

lines_front : (bytes : List ℕ) → Front bytes (lines bytes)
unfolding lines
lines_front [] = refl
lines_front (b ∷ bytes) = step (eqb b line_end) refl (front_prepend b bytes (lines bytes) (lines_front bytes))
  where
    step :
        (t : Bool) → eqb b line_end ≡ t → Front (b ∷ bytes) (prepend b (lines bytes)) →
        Front (b ∷ bytes) (cond t (record { bytes = []; ended = true } ∷ lines bytes) (prepend b (lines bytes)))
    step true e k = λ u. (bytes, ap (λ (c : ℕ). c ∷ bytes) (eqb-true b line_end e), refl)
    step false e k = k

-- Where no levelled form is read at the front, the first line is no form.
module _ (s : Reached) (bytes : List ℕ) (none : if_levelled s (read_line bytes) ≡ refused) where
  not_parsed :
      (line : LineText) (rest : List ℕ) (r : Reading Form) → bytes ≡ line.bytes ++ (line_end ∷ rest) → parse line.bytes ≡ r →
      if_levelled s r ≡ refused
  unfolding if_levelled
  not_parsed line rest (got f end) e p =
      let whole : bytes ≡ render f ++ (line_end ∷ rest) = rw (render_parse line.bytes f end p).0 e in
      levelled_refused s f rest end (rw (whole, line_reads f rest) at none)
  not_parsed line rest refused e p = refl

  not_form :
      (line : LineText) (more : List LineText) (t : Bool) → line.ended ≡ t → Front bytes (line ∷ more) →
      cond t (if_levelled s (parse line.bytes)) refused ≡ refused
  not_form line more true e front = let k = front e in not_parsed line k.0 (parse line.bytes) k.1 refl
  not_form line more false e front = refl

  front_no_form : (line : LineText) (more : List LineText) → lines bytes ≡ line ∷ more → form_in s line ≡ refused
  unfolding form_in
  front_no_form line more e =
      not_form line more line.ended refl (subst (λ (ls : List LineText). Front bytes ls) e (lines_front bytes))

pub line_refused :
    (s : Reached) (b : ℕ) (bs : List ℕ) → if_levelled s (read_line (b ∷ bs)) ≡ refused →
    (line : LineText) × (more : List LineText) × (lines (b ∷ bs) ≡ line ∷ more) × (form_in s line ≡ refused)
line_refused s b bs none = step (lines (b ∷ bs)) refl
  where
    step :
        (ls : List LineText) → lines (b ∷ bs) ≡ ls →
        (line : LineText) × (more : List LineText) × (lines (b ∷ bs) ≡ line ∷ more) × (form_in s line ≡ refused)
    step [] e =
        let empty : b ∷ bs ≡ [] = subst (λ (ls : List LineText). Front (b ∷ bs) ls) e (lines_front (b ∷ bs)) in
        let z : ◌≡◌ {A = ℕ} 0 1 = cc in
        absurd (omega arith)
    step (line ∷ more) e = (line, more, e, front_no_form s (b ∷ bs) none line more e)

-- Judging a text whose first line is a form, and one whose first line is none.
pub judge_line_lem :
    (space : Space) (s : Reached) (at : ℕ) (f : Form) (rest : List ℕ) → levelled s f ≡ true →
    judge_lines space s at (lines (render f ++ (line_end ∷ rest)))
    ≡ continued at (judge_form space s f) (λ t. judge_lines space t (at + suc (length (render f))) (lines rest))
unfolding judge_lines judge_line judge_reading
judge_line_lem space s at f rest h = rw (lines_line f rest, form_line s f h)

pub judge_refused :
    (space : Space) (s : Reached) (at b : ℕ) (bs : List ℕ) → if_levelled s (read_line (b ∷ bs)) ≡ refused →
    judge_lines space s at (lines (b ∷ bs)) ≡ failed Malformed at
unfolding judge_lines judge_line judge_reading continued
judge_refused space s at b bs none = let k = line_refused s b bs none in rw (k.2, k.3)

-- The forms of a text whose first line is one.
pub forms_line :
    (s : Reached) (f : Form) (rest : List ℕ) → levelled s f ≡ true →
    forms_from s (lines (render f ++ (line_end ∷ rest))) ≡ f ∷ forms_from (after s f) (lines rest)
unfolding forms_from cons_read
forms_line s f rest h = rw (lines_line f rest, form_line s f h)
