-- What the marks of the defined atoms tell, and what the claim's faults may rely on where the tables have none.
-- Assumes nothing.
use Prim.Native.Nat.{ℕ, ◌+◌, ◌*◌, ◌≤◌, ◌<◌}
use mathlib.Core.Path.{◌≡◌, refl, sym}
use mathlib.Core.List.{List, Memᴰ}
use native.Mathlib.Nat.{mul-le-mul}
use native.Mathlib.Omega.{arith}
use lib.ListN.{length, length-take, length-drop}
use Rattle.wellfounded.specs.Lists.{count}
use Rattle.wellfounded.specs.Definitions.{Definition, defined_count}
use Rattle.wellfounded.proofs.Lists.{count_same}
use Rattle.tables.specs.Faults.{Test, Absent}
use Rattle.tables.specs.Limits.{max_atoms}
use Rattle.tables.specs.Rows.{definition_of}
use Rattle.tables.specs.Sound.{Tables, group_levels, table_tests}
use Rattle.tables.specs.internal.Scans.{ClausesScannable, LoadsScannable}
use Rattle.tables.specs.internal.Marks.{is_marked}
use Rattle.tables.specs.internal.Marks.{TellsDefined}
use Rattle.tables.proofs.SoundTables.{sound_sizes, sound_rules, sound_clauses, sound_loads}
use Rattle.tables.proofs.GroupLaws.{part_within}
use Rattle.tables.proofs.RowLaws.{defined_tell}
use Rattle.checker.specs.internal.Scans.{Readable, Markable, GroupsLevelled, max_levels}

-- The marks tell who is defined in a group,
pub defined_readable :
    (rules literals marks levels defined : List ℕ) (group : ℕ) → Markable rules marks → length levels ≡ length marks →
    TellsDefined rules marks group max_atoms defined → Readable (definition_of (length marks) rules literals marks group) defined levels
unfolding definition_of
defined_readable rules literals marks levels defined group m long is =
    record {
      room = rw is.long m.few;
      tells = defined_tell (length marks) rules literals marks group refl is;
      levelled = long;
    }

-- and their number is D.
pub defined_count_lem :
    {d : Definition} {defined levels : List ℕ} → Readable d defined levels → defined_count d ≡ count d.size (is_marked defined)
unfolding defined_count
defined_count_lem {d} readable = count_same d.size _ _ (λ atom l. sym (readable.tells atom l))

-- A group's levels are a part of all levels, with one for each atom.
pub part_long :
    (atoms groups : ℕ) (levels : List ℕ) (group : ℕ) → group < groups → length levels ≡ groups * atoms → length (group_levels atoms levels group) ≡ atoms
unfolding group_levels
part_long atoms groups levels group l long =
    rw (length-take, length-drop) (omega (arith, long, part_within atoms group groups l))

-- It can be told where it lies.
pub part_lies :
    (atoms groups : ℕ) (levels : List ℕ) (group : ℕ) → atoms ≤ max_atoms → groups ≤ 65536 → length levels ≡ groups * atoms → group < groups →
    (group * atoms + atoms ≤ length levels) × (length levels ≤ max_levels)
part_lies atoms groups levels group few few_groups long l =
    (rw long (part_within atoms group groups l), rw long (omega (arith, mul-le-mul few_groups few)))

-- What the claim's faults may rely on where the tables have no fault and the slices have their lengths.
pub claim_ready :
    (t : Tables) (groups : ℕ) (values levels : List ℕ) → ((test : Test) → Memᴰ test (table_tests t) → Absent test) →
    length values ≡ t.atoms → groups ≤ 65536 → length levels ≡ groups * t.atoms →
    GroupsLevelled t.rules t.literals groups values levels × ClausesScannable t.clauses t.literals (length values)
    × LoadsScannable t.loads t.load_literals t.minutes (length values)
claim_ready t groups values levels none valued few levelled = (
  record {
    few = rw valued (sound_sizes t none).few_atoms;
    few_groups = few;
    long = rw valued levelled;
    rows = rw valued (sound_rules t none);
  },
  rw valued (sound_clauses t none),
  rw valued (sound_loads t none),
)
