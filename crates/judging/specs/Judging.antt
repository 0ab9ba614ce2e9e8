-- How a text is judged: each line in the state reached so far, until one is refused.
use Rattle.std.specs.Prelude.{ℕ, suc, ◌+◌, Bool, true, false, cond, ◌&&◌, List, [], ◌∷◌, eqb, leb, ltb, length, ℤ, nat_abs, Result, Ok, Err}
use Rattle.wellfounded.specs.Lists.{all}
use Rattle.tables.specs.declared.Fault.{Fault}
use Rattle.tables.specs.declared.Fault.TheVariants.{Malformed, OutsideLimits, OutOfOrder, NoSpace}
use Rattle.tables.specs.Limits.{max_atoms, max_minutes, max_bound, max_value, max_level}
use Rattle.format.specs.declared.kinds.Kind.{Kind}
use Rattle.format.specs.declared.kinds.Kind.TheVariants.{Atoms, Rule, Clause, Load, Open, Claim, Defined}
use Rattle.format.specs.Forms.{LiteralText, TermText, PairText, Form, line_end}
use Rattle.format.specs.Views.{view_of, kind_in, of_kind}
use Rattle.format.specs.Parse.{Reading, got, refused, parse}
use Rattle.tables.specs.declared.Refusal.{Refusal}
use Rattle.judging.specs.declared.reached.Reached.{Reached}
use Rattle.judging.specs.declared.reached.Space.{Space}
use Rattle.judging.specs.declared.reached.Phase.{Phase}
use Rattle.judging.specs.declared.reached.Phase.TheVariants.{NothingYet, AtomsStood, InRules, InClauses, InLoads, OpenStood}
use Rattle.judging.specs.States.{rank, start, after, counts_within, groups_reached, fits}

-- 2: numbers and counts within their limits. Atoms of heads and literals are judged against the largest book, not against N.
unfoldable pub literal_within : LiteralText → Bool
literal_within l = ltb l.atom max_atoms

unfoldable pub term_within : TermText → Bool
term_within t = leb (nat_abs t.minutes) max_minutes && literal_within t.literal

unfoldable pub pair_within : PairText → Bool
pair_within p = leb p.value max_value && all (λ level. leb level max_level) p.levels

unfoldable pub bound_within : ℤ → Bool
bound_within bound = leb (nat_abs bound) max_bound

-- The atoms that an open or a defined form names lie below N, and before an atoms line below the most atoms that a book has.
unfoldable pub atom_bound : Reached → ℕ
atom_bound s = cond (eqb (rank s.phase) (rank NothingYet)) max_atoms s.size

-- Every number of a form, and the number of pairs of a claim. What a form does not have is 0 or empty and so within every limit.
unfoldable pub numbers_within : Reached → Form → Bool
numbers_within s f =
    let v = view_of f in
    leb v.size max_atoms && all (λ atom. ltb atom (atom_bound s)) v.atoms && ltb v.head max_atoms && bound_within v.low
    && bound_within v.high && all literal_within v.literals && all term_within v.terms && all pair_within v.pairs
    && leb (length v.pairs) max_atoms

unfoldable pub within_limits : Reached → Form → Bool
within_limits s f = numbers_within s f && counts_within (after s f)

-- 3: each kind of form may follow in some phases; the atoms that a form names rise strictly, and there is a claim pair for each atom.
unfoldable pub between : Phase → Phase → Phase → Bool
between first last phase = leb (rank first) (rank phase) && leb (rank phase) (rank last)

unfoldable pub may_follow : Kind → Phase → Bool
may_follow Atoms phase = eqb (rank phase) (rank NothingYet)
may_follow Rule phase = between AtomsStood InRules phase
may_follow Clause phase = between AtomsStood InClauses phase
may_follow Load phase = between AtomsStood InLoads phase
may_follow Open phase = between AtomsStood InLoads phase
may_follow Claim phase = between AtomsStood InLoads phase
may_follow Defined phase = eqb (rank phase) (rank AtomsStood)

unfoldable pub rises_from : ℕ → List ℕ → Bool
rises_from floor [] = true
rises_from floor (a ∷ atoms) = leb floor a && rises_from (suc a) atoms

unfoldable pub parts_in_order : Reached → Form → Bool
parts_in_order s f = rises_from 0 (view_of f).atoms && cond (of_kind Claim f) (eqb (length (view_of f).pairs) s.size) true

unfoldable pub in_order : Reached → Form → Bool
in_order s f = may_follow (kind_in f) s.phase && parts_in_order s f

-- What a line comes to: the state after it, or a fault. A form is refused for its limits before its order, and for its order before the space of
-- the lent tables.
unfoldable pub judge_form : Space → Reached → Form → Result Reached Fault
judge_form space s f =
    let then = after s f in
    cond (within_limits s f) (cond (in_order s f) (cond (fits space then) (Ok then) (Err NoSpace)) (Err OutOfOrder)) (Err OutsideLimits)

-- The lines of a text; what stands after the last line end is a line that is not ended.
pub record LineText : Type 0 where
  pub bytes : List ℕ
  pub ended : Bool

unfoldable pub prepend : ℕ → List LineText → List LineText
prepend byte [] = record { bytes = byte ∷ []; ended = false } ∷ []
prepend byte (line ∷ more) = record { bytes = byte ∷ line.bytes; ended = line.ended } ∷ more

unfoldable pub lines : List ℕ → List LineText
lines [] = []
lines (byte ∷ bytes) = let more = lines bytes in cond (eqb byte line_end) (record { bytes = []; ended = true } ∷ more) (prepend byte more)

-- 1: a line is a form if it is ended, its bytes parse, and each claim pair has a level for each group that the state reached so far has.
unfoldable pub levels_for : ℕ → PairText → Bool
levels_for groups p = eqb (length p.levels) groups

unfoldable pub levelled : Reached → Form → Bool
levelled s f = all (levels_for (groups_reached s)) (view_of f).pairs

unfoldable pub if_levelled : Reached → Reading Form → Reading Form
if_levelled s (got f rest) = cond (levelled s f) (got f rest) refused
if_levelled s refused = refused

unfoldable pub form_in : Reached → LineText → Reading Form
form_in s line = cond line.ended (if_levelled s (parse line.bytes)) refused

unfoldable pub judge_reading : Space → Reached → Reading Form → Result Reached Fault
judge_reading space s (got f rest) = judge_form space s f
judge_reading space s refused = Err Malformed

unfoldable pub judge_line : Space → Reached → LineText → Result Reached Fault
judge_line space s line = judge_reading space s (form_in s line)

-- A text that is refused, for a fault at a position.
abbrev pub failed : Fault → ℕ → Result Reached Refusal
failed fault position = Err (record { fault = fault; position = position })

-- The lines in turn: the first that is refused has its first byte's offset as position; a form that is missing after all lines, the text's
-- length.
unfoldable pub continued : ℕ → Result Reached Fault → (Reached → Result Reached Refusal) → Result Reached Refusal
continued at (Ok s) more = more s
continued at (Err fault) more = failed fault at

unfoldable pub judge_lines : Space → Reached → ℕ → List LineText → Result Reached Refusal
judge_lines space s at [] = cond (leb (rank OpenStood) (rank s.phase)) (Ok s) (failed OutOfOrder at)
judge_lines space s at (line ∷ more) = continued at (judge_line space s line) (λ t. judge_lines space t (at + suc (length line.bytes)) more)

-- A text over 65,535 bytes is refused before anything in it is read.
abbrev pub max_bytes : ℕ
max_bytes = 65535

unfoldable pub judge_text : Space → List ℕ → Result Reached Refusal
judge_text space text = cond (leb (length text) max_bytes) (judge_lines space start 0 (lines text)) (failed OutsideLimits 0)

-- The forms of a text, line by line up to one that is no form. Of an accepted text these are all its lines.
unfoldable pub cons_read : Reached → Reading Form → (Reached → List Form) → List Form
cons_read s (got f rest) later = f ∷ later (after s f)
cons_read s refused later = []

unfoldable pub forms_from : Reached → List LineText → List Form
forms_from s [] = []
forms_from s (line ∷ more) = cons_read s (form_in s line) (λ t. forms_from t more)

unfoldable pub forms_of : List ℕ → List Form
forms_of text = forms_from start (lines text)
