-- Literals and levels as they are stored.
use Rattle.std.specs.Prelude.{ℕ, ◌+◌, ◌*◌, cond, List, map, get_or}
use Rattle.wellfounded.specs.Lists.{join_below}
use Rattle.format.specs.Forms.{LiteralText, PairText}

-- A literal is stored as 2 × atom, plus 1 if it is negated.
unfoldable pub code_of : ℕ → LiteralText → ℕ
code_of atom l = atom * 2 + cond l.negated 1 0

unfoldable pub literal_code : LiteralText → ℕ
literal_code l = code_of l.atom l

-- The level that a claim pair has in a group, 0 if it has none there.
unfoldable pub level_in : ℕ → PairText → ℕ
level_in group p = get_or p.levels group 0

-- Levels are stored group by group, and in each group pair by pair.
unfoldable pub level_columns : ℕ → List PairText → List ℕ
level_columns groups ps = join_below groups (λ group. map (level_in group) ps)
