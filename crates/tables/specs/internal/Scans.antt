-- What the scans of rules, clauses and load lines rely on in sound tables: rows lie within their tables, and atoms have values.
use Rattle.std.specs.Prelude.{ℕ, ◌+◌, ◌≤◌, ◌<◌, ◌≡◌, List, ℤ, length, get_or}
use Rattle.wellfounded.specs.Literals.{atom_of}
use Rattle.tables.specs.Limits.{max_terms}
use Rattle.tables.specs.Rows.{rule_count, rule_head, rule_start, rule_size, clause_count, clause_start, clause_size}
use Rattle.tables.specs.Loads.{load_count, load_start, load_size}

pub record RulesScannable (rules literals : List ℕ) (atoms : ℕ) : Type 0 where
  pub heads : (row : ℕ) → row < rule_count rules → rule_head rules row < atoms
  pub within : (row : ℕ) → row < rule_count rules → rule_start rules row + rule_size rules row ≤ length literals
  pub known : (place : ℕ) → place < length literals → atom_of (get_or literals place 0) < atoms

pub record ClausesScannable (clauses literals : List ℕ) (atoms : ℕ) : Type 0 where
  pub within : (row : ℕ) → row < clause_count clauses → clause_start clauses row + clause_size clauses row ≤ length literals
  pub known : (place : ℕ) → place < length literals → atom_of (get_or literals place 0) < atoms

pub record LoadsScannable (loads : List ℤ) (load_literals : List ℕ) (minutes : List ℤ) (atoms : ℕ) : Type 0 where
  pub within : (row : ℕ) → row < load_count loads → load_start loads row + load_size loads row ≤ length load_literals
  pub known : (place : ℕ) → place < length load_literals → atom_of (get_or load_literals place 0) < atoms
  pub paired : length minutes ≡ length load_literals
  pub few : length load_literals ≤ max_terms
