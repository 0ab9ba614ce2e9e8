-- The check: its faults in order, and what an accepted claim is.
use Rattle.std.specs.Prelude.{ℕ, ◌<◌, Bool, not, ◌&&◌, List, ◌∷◌, ◌++◌}
use Rattle.wellfounded.specs.Lists.{any, tabulate}
use Rattle.wellfounded.specs.Literals.{is_true, is_false, value_at}
use Rattle.wellfounded.specs.Definitions.{Definition, is_defined}
use Rattle.wellfounded.specs.Stages.{TwoValued}
use Rattle.wellfounded.specs.Levels.{Obeys, level_in_range, is_supported, blocks}
use Rattle.tables.specs.declared.Fault.TheVariants.{Value, Level, Unsupported, Unblocked}
use Rattle.tables.specs.Faults.{Verdict}
use Rattle.tables.specs.Faults.{Test, first_fault}
use Rattle.tables.specs.Rows.{rule_count, rule_head, rule_body, in_group, group_count}
use Rattle.tables.specs.Sound.{Tables, group_of, group_levels, claim_slices, lent_tests}
use Rattle.tables.specs.Values.{not_held}
use Rattle.satisfaction.specs.Satisfied.{Satisfies, satisfaction_tests}

-- 21: a value that is not 0 or 1.
unfoldable pub value_test : ℕ → List ℕ → Test
value_test atoms values = record { fault = Value; positions = atoms; bad = not_held values }

-- 22: a level that is not 0 at an open atom, or outside 1 to D at a defined one.
unfoldable pub bad_level : Definition → List ℕ → ℕ → Bool
bad_level d levels atom = not (level_in_range d levels atom)

-- 23: a true defined atom without its rule.
unfoldable pub unsupported : Definition → List ℕ → List ℕ → ℕ → Bool
unsupported d values levels atom = is_defined d atom && is_true (value_at values atom) && not (is_supported d values levels atom)

-- 24: a rule row of the group whose head is false and that has no blocking literal.
unfoldable pub unblocked : Definition → List ℕ → List ℕ → ℕ → List ℕ → List ℕ → ℕ → Bool
unblocked d rules literals group values levels row =
    in_group rules group row && is_false (value_at values (rule_head rules row))
    && not (any (blocks d values levels (rule_head rules row)) (rule_body rules literals row))

unfoldable pub level_test : Definition → List ℕ → Test
level_test d levels = record { fault = Level; positions = d.size; bad = bad_level d levels }

unfoldable pub support_test : Definition → List ℕ → List ℕ → Test
support_test d values levels = record { fault = Unsupported; positions = d.size; bad = unsupported d values levels }

unfoldable pub blocking_test : Definition → List ℕ → List ℕ → ℕ → List ℕ → List ℕ → Test
blocking_test d rules literals group values levels =
    record { fault = Unblocked; positions = rule_count rules; bad = unblocked d rules literals group values levels }

-- The faults of levels and rules in the order in which they are looked for: each in group 0 first, and then in the groups above it.
-- `d` has the definition of each group.
unfoldable pub level_tests : (ℕ → Definition) → ℕ → ℕ → List ℕ → List ℕ → List ℕ → List ℕ → List Test
level_tests d atoms groups rules literals values levels =
    tabulate groups (λ group. level_test (d group) (group_levels atoms levels group))
    ++ (tabulate groups (λ group. support_test (d group) values (group_levels atoms levels group))
    ++ tabulate groups (λ group. blocking_test (d group) rules literals group values (group_levels atoms levels group)))

-- All faults of a claim.
unfoldable pub claim_tests : Tables → List ℕ → List ℕ → List Test
claim_tests t values levels =
    value_test t.atoms values
    ∷ (level_tests (group_of t) t.atoms (group_count t.rules) t.rules t.literals values levels ++ satisfaction_tests t values)

-- The faults of a call of the check: those of what it is lent, and of the claim.
unfoldable pub check_tests : Tables → List ℕ → List ℕ → List Test
check_tests t values levels = lent_tests t (claim_slices t values levels) ++ claim_tests t values levels

unfoldable pub check_of : Tables → List ℕ → List ℕ → Verdict
check_of t values levels = first_fault (check_tests t values levels)

-- What the check accepts on sound tables: values 0 and 1 that obey each group's level rules and satisfy every clause and load line. (All groups
-- have the book's atoms, so that being two-valued is the same for each.)
pub record RightClaim (t : Tables) (values levels : List ℕ) : Type 0 where
  pub two_valued : (group : ℕ) → TwoValued (group_of t group) values
  pub obeys : (group : ℕ) → group < group_count t.rules → Obeys (group_of t group) values (group_levels t.atoms levels group)
  pub satisfies : Satisfies t values
