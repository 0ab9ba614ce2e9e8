-- What the scans of a claim read, and what they look for in rule rows once no level has a fault.
use Rattle.std.specs.Prelude.{ℕ, ◌*◌, ◌≤◌, ◌<◌, ◌≡◌, Bool, true, not, cond, ◌&&◌, List, leb, ltb, eqb, length}
use Rattle.wellfounded.specs.Lists.{all, any, any_below}
use Rattle.wellfounded.specs.Literals.{is_true, is_false, value_at, atom_of, is_negated, literal_true, literal_false}
use Rattle.wellfounded.specs.Definitions.{Definition, is_defined, is_open}
use Rattle.wellfounded.specs.Levels.{level_at}
use Rattle.tables.specs.Rows.{rule_count, rule_head, rule_body, in_group}
use Rattle.tables.specs.Limits.{max_atoms}
use Rattle.tables.specs.Sound.{group_levels}
use Rattle.tables.specs.internal.Definitions.{HasRowsOf}
use Rattle.tables.specs.internal.Scans.{RulesScannable}
use Rattle.tables.specs.internal.Marks.{is_marked}

-- What the scan of a group's levels reads: marks that tell the defined atoms, and a level for each atom.
pub record Readable (d : Definition) (defined levels : List ℕ) : Type 0 where
  pub room : d.size ≤ length defined
  pub tells : (atom : ℕ) → atom < d.size → is_marked defined atom ≡ is_defined d atom
  pub levelled : length levels ≡ d.size

-- Levels without a fault tell the open atoms from the defined ones.
pub record Ranged (d : Definition) (values levels : List ℕ) : Type 0 where
  pub valued : length values ≡ d.size
  pub levelled : length levels ≡ d.size
  pub open_level : (atom : ℕ) → is_open d atom ≡ true → level_at levels atom ≡ 0
  pub defined_level : (atom : ℕ) → is_defined d atom ≡ true → 1 ≤ level_at levels atom

-- The atom has a value and a level.
pub record HasEntries (atom : ℕ) (values levels : List ℕ) : Type 0 where
  pub value : atom < length values
  pub level : atom < length levels

-- What marking the defined atoms may rely on where the tables have no fault: there is a mark for each head.
pub record Markable (rules marks : List ℕ) : Type 0 where
  pub few : length marks ≤ max_atoms
  pub heads : (row : ℕ) → row < rule_count rules → rule_head rules row < length marks

-- What the faults of a group's rules may rely on then: a value and a level for each atom.
pub record Levelled (rules literals values levels : List ℕ) : Type 0 where
  pub few : length values ≤ max_atoms
  pub long : length levels ≡ length values
  pub rows : RulesScannable rules literals (length values)

-- The same once no level has a fault: the level of a head of the group is 1 or more, since it is defined there.
pub record HeadsLevelled (rules literals : List ℕ) (group : ℕ) (values levels : List ℕ) : Type 0 where
  pub levelled : Levelled rules literals values levels
  pub high : (row : ℕ) → row < rule_count rules → in_group rules group row ≡ true → 1 ≤ level_at levels (rule_head rules row)

-- The definition of a group, with its rows, and levels of the group without a fault.
pub record GroupRanged (d : Definition) (rules literals : List ℕ) (group : ℕ) (values levels : List ℕ) : Type 0 where
  pub has_rows : HasRowsOf d rules literals (in_group rules group)
  pub ranged : Ranged d values levels

-- No claim has more levels: as many as there can be atoms, for each group that 16 bits can tell.
abbrev pub max_levels : ℕ
max_levels = max_atoms * 65536

-- All groups of a claim: a level for each atom in each group, and the rows lie within their tables.
pub record GroupsLevelled (rules literals : List ℕ) (groups : ℕ) (values levels : List ℕ) : Type 0 where
  pub few : length values ≤ max_atoms
  pub few_groups : groups ≤ 65536
  pub long : length levels ≡ groups * length values
  pub rows : RulesScannable rules literals (length values)

-- The same once no level has a fault: whatever the definitions are that the groups' levels are looked at with.
pub record GroupsRanged (d : ℕ → Definition) (rules literals : List ℕ) (groups : ℕ) (values levels : List ℕ) : Type 0 where
  pub each : (group : ℕ) → group < groups → GroupRanged (d group) rules literals group values (group_levels (length values) levels group)

-- The atom's level is 0 where it is not marked as defined, and from 1 to `most` where it is.
unfoldable pub level_fits : List ℕ → ℕ → List ℕ → ℕ → Bool
level_fits defined most levels atom =
    cond (is_marked defined atom) (leb 1 (level_at levels atom) && leb (level_at levels atom) most) (eqb (level_at levels atom) 0)

-- As an open atom's level is 0, comparing levels is enough for a literal that supports an atom at the level,
unfoldable pub supports_below : List ℕ → List ℕ → ℕ → ℕ → Bool
supports_below values levels level literal = literal_true values literal && ltb (level_at levels (atom_of literal)) level

-- and for one that blocks a rule for it: strictly lower if it is negated, no higher if it is positive.
unfoldable pub blocks_below : List ℕ → List ℕ → ℕ → ℕ → Bool
blocks_below values levels level literal =
    literal_false values literal
    && cond (is_negated literal) (ltb (level_at levels (atom_of literal)) level) (leb (level_at levels (atom_of literal)) level)

-- A rule row of the group whose head is true and which supports it.
unfoldable pub supports_row : List ℕ → List ℕ → ℕ → List ℕ → List ℕ → ℕ → Bool
supports_row rules literals group values levels row =
    in_group rules group row
    && (is_true (value_at values (rule_head rules row))
    && all (supports_below values levels (level_at levels (rule_head rules row))) (rule_body rules literals row))

-- One of the first n rule rows is of the group and supports the atom, which is true.
unfoldable pub supported_by : List ℕ → List ℕ → ℕ → List ℕ → List ℕ → ℕ → ℕ → Bool
supported_by rules literals group values levels n atom =
    any_below n (λ row. eqb (rule_head rules row) atom && supports_row rules literals group values levels row)

-- A rule row of the group whose head is false and of which no literal blocks.
unfoldable pub unblocked_row : List ℕ → List ℕ → ℕ → List ℕ → List ℕ → ℕ → Bool
unblocked_row rules literals group values levels row =
    in_group rules group row && is_false (value_at values (rule_head rules row))
    && not (any (blocks_below values levels (level_at levels (rule_head rules row))) (rule_body rules literals row))
