-- Bytes that are no digit, no letter and none of the five that stand for themselves are malformed: no form's line holds one, no line that holds
-- one parses, and where such a line comes after lines that pass, the text is refused for it with 1.
-- Assumes nothing.
use Prim.Native.Nat.{ℕ, ◌≤◌}
use mathlib.Core.Path.{◌≡◌, refl, ap}
use mathlib.Core.Bool.{Bool, true, false, cond, ◌&&◌, ◌||◌, false≢true}
use mathlib.Core.List.{List, [], ◌∷◌, ◌++◌, Memᴰ}
use native.Mathlib.Omega.{arith}
use lib.Dec.{eqb, leb}
use lib.ListN.{length, length-append}
use borrow.Author.Tests.{eqb-false, not-true}
use Rattle.wellfounded.specs.Lists.{all}
use Rattle.wellfounded.proofs.Tests.{first, second, clash}
use Rattle.wellfounded.proofs.Lists.{all_use}
use Rattle.tables.specs.declared.Fault.TheVariants.{Malformed}
use Rattle.format.specs.Forms.{Form, space, opening, closing, minus, line_end, render, render_all}
use Rattle.format.specs.Parse.{Reading, got, refused, is_digit, parse}
use Rattle.format.proofs.Lines.{render_parse}
use Rattle.format.proofs.Rendered.{written, render_bytes}
use Rattle.format.proofs.Texts.{ends_none, OneLine, no_line_end}
use Rattle.numerals.specs.declared.bytes.Class.{Class}
use Rattle.numerals.specs.declared.bytes.Class.TheVariants.{Digit, Letter, Opening, Closing, Space as SpaceByte, Minus, LineEnd, Other}
use Rattle.numerals.specs.Bytes.{is_letter, class_of}
use Rattle.judging.specs.declared.reached.Space.{Space}
use Rattle.judging.specs.Judging.{failed, judge_text, max_bytes}
use Rattle.judging.specs.Books.{PassesUpTo, no_form}
use Rattle.judging.proofs.Refusals.{first_refused}

-- ── The bytes of a form ──

-- Whether a class is not that of other bytes.
unfoldable is_known : Class → Bool
is_known Digit = true
is_known Letter = true
is_known Opening = true
is_known Closing = true
is_known SpaceByte = true
is_known Minus = true
is_known LineEnd = true
is_known Other = false

abbrev known : ℕ → Bool
known b = is_known (class_of b)

known_tests :
    (digit letter opens closes blank signs ends : Bool) → (digit || letter || blank || opens || closes || signs) ≡ true →
    is_known (cond digit Digit (cond letter Letter (cond opens Opening (cond closes Closing (cond blank SpaceByte (cond signs Minus
    (cond ends LineEnd Other))))))) ≡ true
unfolding is_known
known_tests true l o c s m e h = refl
known_tests false true o c s m e h = refl
known_tests false false true c s m e h = refl
known_tests false false false true s m e h = refl
known_tests false false false false true m e h = refl
known_tests false false false false false true e h = refl
known_tests false false false false false false e h = absurd (false≢true h)

written_known : (b : ℕ) → written b ≡ true → known b ≡ true
unfolding written class_of is_digit is_letter
written_known b h =
    known_tests (leb 48 b && leb b 57) (leb 97 b && leb b 122) (eqb b opening) (eqb b closing) (eqb b space) (eqb b minus) (eqb b line_end) h

not_other : (b : ℕ) → known b ≡ true → class_of b ≡ Other → ⊥
unfolding is_known
not_other b h e = clash h (ap is_known e)

-- Every byte of a form's line has a class other than that of other bytes, and none ends a line.
pub rendered_classes : (f : Form) (b : ℕ) → Memᴰ b (render f) → (class_of b ≡ Other → ⊥) × (b ≡ line_end → ⊥)
rendered_classes f b m = (not_other b (all_use known (render f) (render_bytes known written_known f) m), no_line_end f b m)

-- ── Lines that hold an other byte ──

-- Such a line is not well formed.
pub other_malformed : (line : List ℕ) (b : ℕ) → Memᴰ b line → class_of b ≡ Other → parse line ≡ refused
other_malformed line b m o = step (parse line) refl
  where
    step : (r : Reading Form) → parse line ≡ r → r ≡ refused
    step (got f rest) e =
        let here : Memᴰ b (render f) = rw (render_parse line f rest e).0 m in
        absurd ((rendered_classes f b here).0 o)
    step refused e = refl

-- After forms that pass comes a line that holds an other byte: `front` is what stands before that byte on its line.
pub record OtherByte (space : Space) (text : List ℕ) (at : ℕ) : Type 0 where
  pub short : length text ≤ max_bytes
  pub before : List Form
  pub passing : PassesUpTo space before
  pub front : List ℕ
  pub one_line : OneLine front
  pub byte : ℕ
  pub other : class_of byte ≡ Other
  pub rest : List ℕ
  pub whole : text ≡ render_all before ++ (front ++ (byte ∷ rest))
  pub position : at ≡ length (render_all before)

end_known : known line_end ≡ true
unfolding class_of is_digit is_letter is_known
end_known = refl

-- No form's line begins what holds an other byte before its first line end.
no_form_lem :
    (line front : List ℕ) (b : ℕ) (rest later : List ℕ) → all known line ≡ true → OneLine front → class_of b ≡ Other →
    front ++ (b ∷ rest) ≡ line ++ (line_end ∷ later) → ⊥
unfolding all
no_form_lem [] [] b rest later h k o e =
    let same : b ≡ line_end = cc in
    not_other b (rw same end_known) o
no_form_lem (c ∷ line) [] b rest later h k o e =
    let same : b ≡ c = cc in
    not_other c (first (known c) _ h) (rw (← same) o)
no_form_lem [] (c ∷ front) b rest later h k o e =
    let same : c ≡ line_end = cc in
    eqb-false c line_end (not-true (eqb c line_end) (first (ends_none c) _ k)) same
no_form_lem (d ∷ line) (c ∷ front) b rest later h k o e =
    no_form_lem line front b rest later (second (known d) _ h) (second (ends_none c) _ k) o (cc)

-- The text is refused with 1 at that line's first byte.
pub other_refused : (space : Space) (text : List ℕ) (at : ℕ) → OtherByte space text at → judge_text space text ≡ failed Malformed at
other_refused space text at k =
    first_refused space text Malformed at (no_form (record {
      short = k.short;
      before = k.before;
      rest = k.front ++ (k.byte ∷ k.rest);
      passing = k.passing;
      whole = k.whole;
      some = rw length-append (omega arith);
      unread = λ f later h e. no_form_lem (render f) k.front k.byte k.rest later (render_bytes known written_known f) k.one_line k.other e;
      fault_is = refl;
      position = k.position;
    }))
