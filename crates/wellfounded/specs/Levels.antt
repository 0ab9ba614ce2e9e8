-- The level rules: when values with a level for each atom justify themselves.
use Rattle.std.specs.Prelude.{ℕ, ◌≤◌, ◌<◌, ◌≡◌, Bool, true, not, cond, ◌&&◌, ◌||◌, leb, ltb, eqb, get_or}
use mathlib.Core.List.{List, Memᴰ}
use Rattle.wellfounded.specs.Lists.{all, any, all_below}
use Rattle.wellfounded.specs.Literals.{is_true, is_false, value_at, atom_of, is_positive, is_negated, literal_true, literal_false}
use Rattle.wellfounded.specs.Definitions.{Rule, Definition, is_defined, is_open, defined_count, some_rule, every_rule}

-- Levels are listed as values are: one number an atom.
unfoldable pub level_at : List ℕ → ℕ → ℕ
level_at levels atom = get_or levels atom 0

-- A literal supports a true atom if it is true and its atom, where defined, is at a strictly lower level.
pub record Supports (d : Definition) (values levels : List ℕ) (atom literal : ℕ) : Type 0 where
  pub holds : literal_true values literal ≡ true
  pub lower : is_defined d (atom_of literal) ≡ true → level_at levels (atom_of literal) < level_at levels atom

-- A literal blocks a rule for a false atom if it is false, and open, or positive and defined at a level no higher,
-- or negated and defined at a strictly lower level.
pub data Blocks (d : Definition) (values levels : List ℕ) (atom literal : ℕ) : Type 0 where
  by_open : literal_false values literal ≡ true → is_open d (atom_of literal) ≡ true → Blocks d values levels atom literal
  by_positive :
      literal_false values literal ≡ true → is_positive literal ≡ true → is_defined d (atom_of literal) ≡ true →
      level_at levels (atom_of literal) ≤ level_at levels atom → Blocks d values levels atom literal
  by_negated :
      literal_false values literal ≡ true → is_negated literal ≡ true → is_defined d (atom_of literal) ≡ true →
      level_at levels (atom_of literal) < level_at levels atom → Blocks d values levels atom literal

-- The level rules, a field for each sentence.
pub record Obeys (d : Definition) (values levels : List ℕ) : Type 0 where
  -- An open atom has level 0,
  pub open_level : (atom : ℕ) → is_open d atom ≡ true → level_at levels atom ≡ 0
  -- a defined one a level from 1 to D.
  pub defined_level : (atom : ℕ) → is_defined d atom ≡ true → (1 ≤ level_at levels atom) × (level_at levels atom ≤ defined_count d)
  -- A true defined atom needs a rule whose body literals are all true, each defined atom among them at a strictly lower level.
  pub supported :
      (atom : ℕ) → is_defined d atom ≡ true → is_true (value_at values atom) ≡ true →
      (r : Rule) × Memᴰ r d.rules × (r.head ≡ atom) ×
      ((literal : ℕ) → Memᴰ literal r.body → Supports d values levels atom literal)
  -- For a false defined atom each of its rules needs a blocking literal.
  pub blocked :
      (atom : ℕ) → is_defined d atom ≡ true → is_false (value_at values atom) ≡ true →
      (r : Rule) → Memᴰ r d.rules → r.head ≡ atom →
      (literal : ℕ) × Memᴰ literal r.body × Blocks d values levels atom literal

-- The same rules as tests, for worked examples: `accepts` is true exactly for what `Obeys` describes (`Theorems`, `accepts_exactly_lem`).
-- The product's check runs the tests 22, 23 and 24 of the crate `checker`, made of the parts below, one fault after the other;
-- its theorem `accepted_exactly` ties them to `Obeys` too, so that the two agree.
unfoldable pub supports : Definition → List ℕ → List ℕ → ℕ → ℕ → Bool
supports d values levels atom literal =
    literal_true values literal
    && (not (is_defined d (atom_of literal)) || ltb (level_at levels (atom_of literal)) (level_at levels atom))

unfoldable pub blocks : Definition → List ℕ → List ℕ → ℕ → ℕ → Bool
blocks d values levels atom literal =
    literal_false values literal
    && (is_open d (atom_of literal)
    || is_positive literal && is_defined d (atom_of literal) && leb (level_at levels (atom_of literal)) (level_at levels atom)
    || is_negated literal && is_defined d (atom_of literal) && ltb (level_at levels (atom_of literal)) (level_at levels atom))

unfoldable pub level_in_range : Definition → List ℕ → ℕ → Bool
level_in_range d levels atom =
    cond (is_defined d atom) (leb 1 (level_at levels atom) && leb (level_at levels atom) (defined_count d))
    (eqb (level_at levels atom) 0)

unfoldable pub is_supported : Definition → List ℕ → List ℕ → ℕ → Bool
is_supported d values levels atom = some_rule d atom (all (supports d values levels atom))

unfoldable pub is_blocked : Definition → List ℕ → List ℕ → ℕ → Bool
is_blocked d values levels atom = every_rule d atom (any (blocks d values levels atom))

-- The atom obeys the level rules.
unfoldable pub obeys_at : Definition → List ℕ → List ℕ → ℕ → Bool
obeys_at d values levels atom =
    level_in_range d levels atom
    && (not (is_defined d atom && is_true (value_at values atom)) || is_supported d values levels atom)
    && (not (is_defined d atom && is_false (value_at values atom)) || is_blocked d values levels atom)

-- Every atom obeys them.
unfoldable pub accepts : Definition → List ℕ → List ℕ → Bool
accepts d values levels = all_below d.size (obeys_at d values levels)
