-- Verdicts, and the order in which faults are looked for.
use Rattle.std.specs.Prelude.{ℕ, zero, suc, ◌<◌, ◌≡◌, Bool, true, false, ⊤}
use mathlib.Core.List.{List, [], ◌∷◌, ◌++◌, Memᴰ}
use Rattle.std.specs.declared.option.Option.{Option}
use Rattle.std.specs.declared.option.Option.TheVariants.{Some, None}
use Rattle.tables.specs.declared.Fault.{Fault}
use Rattle.tables.specs.declared.Fault.TheVariants.{Malformed, OutsideLimits, OutOfOrder, NoSpace}
use Rattle.tables.specs.declared.Fault.TheVariants.{TableSizes, RuleRow, ClauseRow, LoadRow, Literal, LoadTerm, SliceLength}
use Rattle.tables.specs.declared.Fault.TheVariants.{Value, Level, Unsupported, Unblocked, Undecided, FailingClause, FailingLoad}
use Rattle.tables.specs.declared.Fault.TheVariants.{Mark, TextSize, IndexSize}
use Rattle.std.specs.declared.result.Result.{Result}
use Rattle.std.specs.declared.result.Result.TheVariants.{Ok, Err}
use Rattle.tables.specs.declared.Refusal.{Refusal}

-- What a call answers: it accepts, or it refuses for a fault at a position.
abbrev pub Verdict : Type 0
Verdict = Result ⊤ Refusal

abbrev pub accepted : Verdict
accepted = Ok tt

abbrev pub refused : Fault → ℕ → Verdict
refused fault position = Err (record { fault = fault; position = position })

-- The paper's number of each fault.
abbrev pub fault_number : Fault → ℕ
fault_number Malformed = 1
fault_number OutsideLimits = 2
fault_number OutOfOrder = 3
fault_number NoSpace = 4
fault_number TableSizes = 11
fault_number RuleRow = 12
fault_number ClauseRow = 13
fault_number LoadRow = 14
fault_number Literal = 15
fault_number LoadTerm = 16
fault_number SliceLength = 17
fault_number Value = 21
fault_number Level = 22
fault_number Unsupported = 23
fault_number Unblocked = 24
fault_number Undecided = 25
fault_number FailingClause = 26
fault_number FailingLoad = 27
fault_number Mark = 31
fault_number TextSize = 32
fault_number IndexSize = 33

-- A verdict's number (0 is accepted) and its position, which the paper calls its spot (0 if accepted).
abbrev pub number_of : Verdict → ℕ
number_of (Ok nothing) = 0
number_of (Err refusal) = fault_number refusal.fault

abbrev pub position_of : Verdict → ℕ
position_of (Ok nothing) = 0
position_of (Err refusal) = refusal.position

-- The lowest number below n that fails, where `bad` says which fail.
unfoldable pub or_at : Option ℕ → Bool → ℕ → Option ℕ
or_at (Some k) bad n = Some k
or_at None true n = Some n
or_at None false n = None

unfoldable pub lowest : ℕ → (ℕ → Bool) → Option ℕ
unfolding or_at
lowest zero bad = None
lowest (suc n) bad = or_at (lowest n bad) (bad n) n

-- A test for one fault: the positions 0 to positions - 1 are looked at, and `bad` says where the fault is.
pub record Test : Type 0 where
  pub fault : Fault
  pub positions : ℕ
  pub bad : ℕ → Bool

-- The first fault in the list's order wins, then its lowest position.
unfoldable pub refused_or : Fault → Option ℕ → Verdict → Verdict
refused_or fault (Some position) rest = refused fault position
refused_or fault None rest = rest

unfoldable pub first_fault : List Test → Verdict
unfolding refused_or
first_fault [] = accepted
first_fault (t ∷ ts) = let rest = first_fault ts in refused_or t.fault (lowest t.positions t.bad) rest

-- The fault occurs nowhere.
pub record Absent (t : Test) : Type 0 where
  pub nowhere : (k : ℕ) → k < t.positions → t.bad k ≡ false

-- What a refusal says: a test of the list fails at the position and at no lower one, and no fault earlier in the list occurs.
pub record RefusedBy (ts : List Test) (fault : Fault) (position : ℕ) : Type 0 where
  pub earlier : List Test
  pub test : Test
  pub later : List Test
  pub place : ts ≡ earlier ++ (test ∷ later)
  pub is_fault : test.fault ≡ fault
  pub within : position < test.positions
  pub fails : test.bad position ≡ true
  pub no_lower : (k : ℕ) → k < position → test.bad k ≡ false
  pub none_earlier : (t : Test) → Memᴰ t earlier → Absent t
