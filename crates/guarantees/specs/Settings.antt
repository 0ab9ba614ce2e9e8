-- The words in which the meaning of an accepted claim is promised (demand 3 of the paper), what the maker leaves, and what a withdrawn rule leaves.
use Rattle.std.specs.Prelude.{ℕ, ◌<◌, ◌≡◌, ◌↔◌, true, List, length, replicate}
use Rattle.wellfounded.specs.Literals.{value_at}
use Rattle.wellfounded.specs.Definitions.{Definition, is_defined}
use Rattle.wellfounded.specs.Stages.{stage, closure, well_founded_model, stage_of, stages_of, TwoValued, Setting}
use Rattle.tables.specs.Faults.{Verdict}
use Rattle.tables.specs.Faults.{Test, number_of}
use Rattle.tables.specs.Rows.{group_count}
use Rattle.tables.specs.Sound.{Tables, group_of, book_of, Slice, Sound}
use Rattle.satisfaction.specs.Satisfied.{Satisfies}
use Rattle.evaluator.specs.Evaluate.{evaluation_slices, refusal_tests, Evaluation, evaluate_of, Answers}
use Rattle.checker.specs.Check.{check_of}

-- The open values that the maker is lent hold the setting, and 0 at defined atoms.
pub record LentSetting (d : Definition) (o : List ℕ) : Type 0 where
  pub setting : Setting d o
  pub zeros : (atom : ℕ) → is_defined d atom ≡ true → value_at o atom ≡ 0

-- The open values o, values v, levels l and work w, with the lengths that they must have.
abbrev pub maker_slices : Tables → List ℕ → List ℕ → List ℕ → List ℕ → List Slice
maker_slices t o v l w = evaluation_slices t.atoms (length o) (length v) (length l) (length w)

-- The faults 11 to 17, 31 and 21, which stop the maker, of the tables, the open values o, and values v, levels l and work w.
unfoldable pub stop_tests : Tables → List ℕ → List ℕ → List ℕ → List ℕ → List Test
stop_tests t o v l w = refusal_tests t o (maker_slices t o v l w)

-- The atom is false at stage 1, which is its stage, and so in the well-founded model.
pub record FalseAtOne (d : Definition) (o : List ℕ) (atom : ℕ) : Type 0 where
  pub at_stage : value_at (stage d o 1) atom ≡ 0
  pub in_model : value_at (well_founded_model d o) atom ≡ 0
  pub its_stage : stage_of d o atom ≡ 1

-- A group's well-founded model for the setting is two-valued and satisfies all clauses and load lines.
pub record GoodIn (t : Tables) (group : ℕ) (o : List ℕ) : Type 0 where
  pub two_valued : TwoValued (group_of t group) (well_founded_model (group_of t group) o)
  pub satisfied : Satisfies t (well_founded_model (group_of t group) o)

-- The same of group 0, which is the whole definition of a book that has no other group.
pub record Good (t : Tables) (o : List ℕ) : Type 0 where
  pub two_valued : TwoValued (book_of t) (well_founded_model (book_of t) o)
  pub satisfied : Satisfies t (well_founded_model (book_of t) o)

-- Values are every group's well-founded model for the group's open atoms, which is two-valued, and satisfy all clauses and load
-- lines. (All groups have the book's atoms, so that being two-valued is the same for each.)
pub record EveryModel (t : Tables) (values : List ℕ) : Type 0 where
  pub two_valued : (group : ℕ) → TwoValued (group_of t group) values
  pub is_model : (group : ℕ) → group < group_count t.rules → well_founded_model (group_of t group) values ≡ values
  pub satisfied : Satisfies t values

-- Values hold the well-founded model, levels hold the stages, work is all 0, and rounds is the closure number.
pub record Made (t : Tables) (o : List ℕ) (e : Evaluation) : Type 0 where
  pub values : e.values ≡ well_founded_model (book_of t) o
  pub levels : e.levels ≡ stages_of (book_of t) o
  pub work : e.work ≡ replicate t.atoms 0
  pub rounds : e.rounds ≡ closure (book_of t) o

-- Nothing is written to values v, levels l and work w, and rounds is 0.
pub record Unwritten (v l w : List ℕ) (e : Evaluation) : Type 0 where
  pub values : e.values ≡ v
  pub levels : e.levels ≡ l
  pub work : e.work ≡ w
  pub rounds : e.rounds ≡ 0

-- The two calls in turn: the maker answers and leaves the slices as `evaluate_of` says, the check answers as `check_of` says of
-- what it finds there, and on sound tables with a setting each accepts exactly if the model is good.
pub record MadeAndChecked
    (t : Tables) (o v l w : List ℕ) (made : Verdict) (rounds : ℕ) (checked : Verdict) (values levels work : List ℕ) : Type 0 where
  pub evaluation : Answers (evaluate_of t o v l w) made rounds values levels work
  pub check : checked ≡ check_of t values levels
  pub makes_exactly : Sound t (maker_slices t o v l w) → LentSetting (book_of t) o → (number_of made ≡ 0) ↔ Good t o
  pub accepts_exactly : Sound t (maker_slices t o v l w) → LentSetting (book_of t) o → (number_of checked ≡ 0) ↔ Good t o
