-- How far rounds that go from stage to stage have come.
use Rattle.std.specs.Prelude.{ℕ, cond, List}
use Rattle.wellfounded.specs.Lists.{least, tabulate}
use Rattle.wellfounded.specs.Literals.{is_held, value_at}
use Rattle.wellfounded.specs.Definitions.{Definition}
use Rattle.wellfounded.specs.Stages.{stage}

-- An atom's level after k rounds: the first stage that holds it, 0 if none up to stage k does.
unfoldable pub level_after : Definition → List ℕ → ℕ → ℕ → ℕ
level_after d setting k atom =
    cond (is_held (value_at (stage d setting k) atom)) (least k (λ j. is_held (value_at (stage d setting j) atom))) 0

unfoldable pub levels_after : Definition → List ℕ → ℕ → List ℕ
levels_after d setting k = tabulate d.size (level_after d setting k)
