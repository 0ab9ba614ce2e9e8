-- Which texts are accepted, said of the whole text at once; and what a refusal says.
use Rattle.std.specs.Prelude.{ℕ, ◌≤◌, ◌<◌, ◌≡◌, Bool, true, false, ◌&&◌, ◌||◌, List, [], ◌∷◌, ◌++◌, length, Err}
use Rattle.wellfounded.specs.Lists.{all}
use Rattle.tables.specs.declared.Fault.{Fault}
use Rattle.tables.specs.declared.Fault.TheVariants.{Malformed, OutsideLimits, OutOfOrder}
use Rattle.format.specs.declared.kinds.Kind.TheVariants.{Atoms, Rule, Clause, Load, Open, Claim, Defined}
use Rattle.format.specs.Forms.{Form, line_end, render, render_all}
use Rattle.format.specs.Views.{of_kind}
use Rattle.judging.specs.declared.reached.Reached.{Reached}
use Rattle.judging.specs.declared.reached.Space.{Space}
use Rattle.judging.specs.LentTables.{Table, full_size, room_in}
use Rattle.judging.specs.declared.reached.Phase.TheVariants.{OpenStood}
use Rattle.judging.specs.States.{rank, start, after, counts_within, fits}
use Rattle.judging.specs.Judging.{numbers_within, within_limits, parts_in_order, in_order, judge_form, levelled, max_bytes}

-- The state after some forms in turn.
unfoldable pub after_all : Reached → List Form → Reached
after_all s [] = s
after_all s (f ∷ fs) = after_all (after s f) fs

-- Whether a form tells a state.
unfoldable pub is_state : Form → Bool
is_state f = of_kind Open f || of_kind Claim f

-- The sequence of a book: its atoms, then at most one defined form, then rules, clauses and load lines, any number of each, and one state form at
-- the end.
pub record InSequence (fs : List Form) : Type 0 where
  pub atoms : Form
  pub defined : List Form
  pub rules : List Form
  pub clauses : List Form
  pub loads : List Form
  pub state : Form
  pub are_atoms : of_kind Atoms atoms ≡ true
  pub are_defined : all (of_kind Defined) defined ≡ true
  pub one_defined : length defined ≤ 1
  pub are_rules : all (of_kind Rule) rules ≡ true
  pub are_clauses : all (of_kind Clause) clauses ≡ true
  pub are_loads : all (of_kind Load) loads ≡ true
  pub tells_state : is_state state ≡ true
  pub whole : fs ≡ atoms ∷ (defined ++ (rules ++ (clauses ++ (loads ++ (state ∷ [])))))

-- Forms that are a book which the lent tables hold. Levels, numbers and parts are tested in the state that is reached at the end; of it these
-- tests look only at the number of groups, at N and at whether an atoms line stood.
pub record IsBook (space : Space) (fs : List Form) : Type 0 where
  pub sequence : InSequence fs
  -- Every claim pair has a level for each group.
  pub levels : all (levelled (after_all start fs)) fs ≡ true
  -- Every number is within its limit, and named atoms lie below N.
  pub numbers : all (numbers_within (after_all start fs)) fs ≡ true
  -- Rows, literals and terms are within the limits of a book.
  pub counts : counts_within (after_all start fs) ≡ true
  -- Named atoms rise, and claim pairs are N in number.
  pub ordered : all (parts_in_order (after_all start fs)) fs ≡ true
  -- Each lent table has room for what the forms add to it.
  pub held : fits space (after_all start fs) ≡ true

-- A text that is the rendering of a book.
pub record BookText (space : Space) (text : List ℕ) (fs : List Form) : Type 0 where
  pub rendered : text ≡ render_all fs
  pub short : length text ≤ max_bytes
  pub book : IsBook space fs

-- A form passes in a state if it is levelled, within its limits, in order and held; and forms pass in turn.
unfoldable pub passes : Space → Reached → Form → Bool
passes space s f = levelled s f && (within_limits s f && (in_order s f && fits space (after s f)))

unfoldable pub all_pass : Space → Reached → List Form → Bool
all_pass space s [] = true
all_pass space s (f ∷ fs) = passes space s f && all_pass space (after s f) fs

-- Forms that pass from the start on, whether or not more must follow.
pub record PassesUpTo (space : Space) (before : List Form) : Type 0 where
  pub passed : all_pass space start before ≡ true

-- A text is refused in four ways, each with its fault and its position. It may be too long.
pub record TooLong (text : List ℕ) (fault : Fault) (at : ℕ) : Type 0 where
  pub long : max_bytes < length text
  pub fault_is : fault ≡ OutsideLimits
  pub position : at ≡ 0

-- After forms that pass there may be bytes that begin with no line of a form that is levelled there.
pub record NoForm (space : Space) (text : List ℕ) (fault : Fault) (at : ℕ) : Type 0 where
  pub short : length text ≤ max_bytes
  pub before : List Form
  pub rest : List ℕ
  pub passing : PassesUpTo space before
  pub whole : text ≡ render_all before ++ rest
  pub some : 0 < length rest
  pub unread : (f : Form) (later : List ℕ) → levelled (after_all start before) f ≡ true → rest ≡ render f ++ (line_end ∷ later) → ⊥
  pub fault_is : fault ≡ Malformed
  pub position : at ≡ length (render_all before)

-- After forms that pass there may be one that is levelled and does not pass.
pub record NotPassing (space : Space) (text : List ℕ) (fault : Fault) (at : ℕ) : Type 0 where
  pub short : length text ≤ max_bytes
  pub before : List Form
  pub form : Form
  pub rest : List ℕ
  pub passing : PassesUpTo space before
  pub whole : text ≡ render_all before ++ (render form ++ (line_end ∷ rest))
  pub levels : levelled (after_all start before) form ≡ true
  pub stopped : judge_form space (after_all start before) form ≡ Err fault
  pub position : at ≡ length (render_all before)

-- All forms may pass, and the state form be missing.
pub record NoStateForm (space : Space) (text : List ℕ) (fault : Fault) (at : ℕ) : Type 0 where
  pub short : length text ≤ max_bytes
  pub forms : List Form
  pub passing : PassesUpTo space forms
  pub whole : text ≡ render_all forms
  pub missing : rank (after_all start forms).phase < rank OpenStood
  pub fault_is : fault ≡ OutOfOrder
  pub position : at ≡ length text

-- How a text is refused, by the first thing in it that is.
pub data FirstRefused (space : Space) (text : List ℕ) (fault : Fault) (at : ℕ) : Type 0 where
  too_long : TooLong text fault at → FirstRefused space text fault at
  no_form : NoForm space text fault at → FirstRefused space text fault at
  not_passing : NotPassing space text fault at → FirstRefused space text fault at
  no_state : NoStateForm space text fault at → FirstRefused space text fault at

-- A lent table has no room for the first form that does not pass, though that form is levelled, within its limits and in order.
pub record NoRoom (space : Space) (text : List ℕ) (at : ℕ) : Type 0 where
  pub short : length text ≤ max_bytes
  pub before : List Form
  pub form : Form
  pub rest : List ℕ
  pub passing : PassesUpTo space before
  pub whole : text ≡ render_all before ++ (render form ++ (line_end ∷ rest))
  pub position : at ≡ length (render_all before)
  pub levels : levelled (after_all start before) form ≡ true
  pub within : within_limits (after_all start before) form ≡ true
  pub ordered : in_order (after_all start before) form ≡ true
  pub full : fits space (after_all start (before ++ (form ∷ []))) ≡ false

-- Lent tables that hold every book.
pub record FullSpace (space : Space) : Type 0 where
  pub each : (table : Table) → full_size table ≤ room_in space table
