-- Scans of bodies in the literal table.
use Rattle.std.specs.Prelude.{ℕ, ◌+◌, ◌≤◌, ◌<◌, List, length, get_or}
use Rattle.wellfounded.specs.Literals.{atom_of}

-- What a scan of a body (`body_at`) needs: it lies in the table, and every literal of the table has its atom below `atoms`.
pub record Scannable (literals : List ℕ) (start size atoms : ℕ) : Type 0 where
  pub within : start + size ≤ length literals
  pub known : (place : ℕ) → place < length literals → atom_of (get_or literals place 0) < atoms
