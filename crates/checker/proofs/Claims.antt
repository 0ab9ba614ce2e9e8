-- On sound tables no fault of the claim occurs exactly if the claim is right.
-- Assumes nothing.
use Prim.Native.Nat.{ℕ, ◌<◌}
use mathlib.Core.Path.{◌≡◌, refl, sym, ap, ◌∙◌}
use mathlib.Core.Bool.{true, not}
use mathlib.Core.List.Memᴰ
use mathlib.Core.List.{List, Memᴰ}
use borrow.Author.Tests.{not-false}
use Rattle.wellfounded.specs.Lists.{any, tabulate}
use Rattle.wellfounded.specs.Literals.{is_false, value_at}
use Rattle.wellfounded.specs.Definitions.{Rule, is_defined}
use Rattle.wellfounded.specs.Levels.{Obeys, Blocks, level_in_range, blocks}
use Rattle.wellfounded.proofs.Tests.{both, first, second, not_lacking, none_lacking}
use Rattle.wellfounded.proofs.Lists.{any_use, any_make, member_tabulate}
use Rattle.wellfounded.proofs.Definitions.{defined_below, open_below}
use Rattle.wellfounded.proofs.Levels.{level_in_range_open, level_in_range_defined, level_in_range_make, is_supported_use, is_supported_make, blocks_use, blocks_make}
use Rattle.tables.specs.Faults.{Test, Absent}
use Rattle.tables.specs.Rows.{rule_count, rule_head, rule_body, rule_at, in_group, group_count, definition_of}
use Rattle.tables.proofs.RowLaws.{group_size, group_has}
use Rattle.tables.specs.Sound.{Tables, group_of, group_levels, claim_slices, Sound}
use Rattle.tables.proofs.Faults.{absent_more, each_both, each_turn}
use Rattle.tables.proofs.SoundTables.{sound_rules, slices_fit, lent_tables_lem, lent_slices_lem}
use Rattle.satisfaction.proofs.Satisfied.{absent_satisfies, satisfies_absent}
use Rattle.tables.specs.Values.{not_held}
use Rattle.checker.specs.Check.{bad_level, unsupported, unblocked, value_test, level_test, support_test, blocking_test, level_tests, claim_tests, RightClaim}

module _ (t : Tables) (values levels : List ℕ) where
  abbrev groups : ℕ
  groups = group_count t.rules

  -- The levels of a group.
  abbrev of : ℕ → List ℕ
  of group = group_levels t.atoms levels group

  row_defined :
      Sound t (claim_slices t values levels) → (group row : ℕ) → row < rule_count t.rules → in_group t.rules group row ≡ true →
      is_defined (group_of t group) (rule_head t.rules row) ≡ true
  row_defined sound group row l taken =
      (group_has t group).head_defined row l taken (rw group_size ((sound_rules t (lent_tables_lem t _ sound.none)).heads row l))

  -- Each test of each group is one of the claim's.
  module _ (group : ℕ) (below : group < groups) where
    level_among : Memᴰ (level_test (group_of t group) (of group)) (claim_tests t values levels)
    unfolding claim_tests level_tests
    level_among =
        Memᴰ.tail (Memᴰ.append_left _ (Memᴰ.append_left _ (member_tabulate groups (λ g. level_test (group_of t g) (of g)) group below)))

    support_among : Memᴰ (support_test (group_of t group) values (of group)) (claim_tests t values levels)
    unfolding claim_tests level_tests
    support_among =
        Memᴰ.tail
        (Memᴰ.append_left _
        (Memᴰ.append_right (tabulate groups (λ g. level_test (group_of t g) (of g)))
        (Memᴰ.append_left _ (member_tabulate groups (λ g. support_test (group_of t g) values (of g)) group below))))

    blocking_among : Memᴰ (blocking_test (group_of t group) t.rules t.literals group values (of group)) (claim_tests t values levels)
    unfolding claim_tests level_tests
    blocking_among =
        Memᴰ.tail
        (Memᴰ.append_left _
        (Memᴰ.append_right (tabulate groups (λ g. level_test (group_of t g) (of g)))
        (Memᴰ.append_right (tabulate groups (λ g. support_test (group_of t g) values (of g)))
        (member_tabulate groups (λ g. blocking_test (group_of t g) t.rules t.literals g values (of g)) group below))))

  -- Without a fault a group's level rules are obeyed.
  module _
      (sound : Sound t (claim_slices t values levels)) (none : (test : Test) → Memᴰ test (claim_tests t values levels) → Absent test)
      (group : ℕ) (below : group < groups)
    where
      in_range : (atom : ℕ) → atom < (group_of t group).size → level_in_range (group_of t group) (of group) atom ≡ true
      unfolding level_test bad_level
      in_range atom l = not-false _ ((none _ (level_among group below)).nowhere atom l)

      blocked_row :
          (row : ℕ) → row < rule_count t.rules → in_group t.rules group row ≡ true → is_false (value_at values (rule_head t.rules row)) ≡ true →
          (literal : ℕ) × Memᴰ literal (rule_body t.rules t.literals row)
          × Blocks (group_of t group) values (of group) (rule_head t.rules row) literal
      unfolding blocking_test unblocked
      blocked_row row l taken f =
          let d = group_of t group in
          let head = rule_head t.rules row in
          let found =
          any_use (blocks d values (of group) head) (rule_body t.rules t.literals row)
          (not_lacking _ _ ((none _ (blocking_among group below)).nowhere row l) (both _ _ taken f))
          in
          (found.0, found.1, blocks_use d values (of group) head found.0 found.2)

      blocked :
          (atom : ℕ) → is_defined (group_of t group) atom ≡ true → is_false (value_at values atom) ≡ true →
          (r : Rule) → Memᴰ r (group_of t group).rules → r.head ≡ atom →
          (literal : ℕ) × Memᴰ literal r.body × Blocks (group_of t group) values (of group) atom literal
      unfolding rule_at
      blocked atom d f r m e =
          let at = (group_has t group).rule_row m in
          let head : rule_head t.rules at.0 ≡ atom = ap (λ (x : Rule). x.head) (sym at.3) ∙ e in
          rw (at.3, ← head) (blocked_row at.0 at.1 at.2 (rw head f))

      group_obeys : Obeys (group_of t group) values (of group)
      unfolding support_test unsupported
      group_obeys =
          let d = group_of t group in
          record {
            open_level = λ atom o. level_in_range_open d (of group) atom (in_range atom (open_below d atom o)) o;
            defined_level = λ atom h. level_in_range_defined d (of group) atom (in_range atom (defined_below d atom h)) h;
            supported = λ atom h v.
                is_supported_use d values (of group) atom
                (not_lacking _ _ ((none _ (support_among group below)).nowhere atom (defined_below d atom h)) (both _ _ h v));
            blocked = blocked;
          }

  pub claim_right :
      Sound t (claim_slices t values levels) → ((test : Test) → Memᴰ test (claim_tests t values levels) → Absent test) →
      RightClaim t values levels
  unfolding claim_tests value_test not_held group_of definition_of
  claim_right sound none =
      record {
        two_valued = λ group. record {
          size = slices_fit _ (lent_slices_lem t _ sound.none) _ (Memᴰ.head refl);
          held = λ atom l. not-false _ ((none _ (Memᴰ.head refl)).nowhere atom l);
        };
        obeys = λ group below. group_obeys sound none group below;
        satisfies = absent_satisfies t values (λ test m.
            none test (Memᴰ.tail (Memᴰ.append_right (level_tests (group_of t) t.atoms groups t.rules t.literals values levels) m)));
      }

  -- A right claim has no fault: in each group,
  module _ (sound : Sound t (claim_slices t values levels)) (right : RightClaim t values levels) (group : ℕ) (below : group < groups) where
    no_level : Absent (level_test (group_of t group) (of group))
    unfolding level_test bad_level
    no_level =
        record {
          nowhere = λ atom l. ap not (level_in_range_make (group_of t group) (of group) atom l ((right.obeys group below).open_level atom) ((right.obeys group below).defined_level atom));
        }

    no_support : Absent (support_test (group_of t group) values (of group))
    unfolding support_test unsupported
    no_support =
        let d = group_of t group in
        record {
          nowhere = λ atom l.
              none_lacking _ _ (λ dv. is_supported_make d values (of group) atom ((right.obeys group below).supported atom (first _ _ dv) (second (is_defined d atom) _ dv)));
        }

    blocking :
        (row : ℕ) → row < rule_count t.rules → in_group t.rules group row ≡ true → is_false (value_at values (rule_head t.rules row)) ≡ true →
        any (blocks (group_of t group) values (of group) (rule_head t.rules row)) (rule_body t.rules t.literals row) ≡ true
    unfolding rule_at
    blocking row l taken f =
        let found =
        (right.obeys group below).blocked (rule_head t.rules row) (row_defined sound group row l taken) f (rule_at t.rules t.literals row)
        ((group_has t group).row_rule row l taken) refl
        in
        any_make (blocks (group_of t group) values (of group) (rule_head t.rules row)) _ found.1 (blocks_make (group_of t group) values (of group) _ found.0 found.2)

    no_blocking : Absent (blocking_test (group_of t group) t.rules t.literals group values (of group))
    unfolding blocking_test unblocked
    no_blocking =
        record {
          nowhere = λ row l. none_lacking _ _ (λ here. blocking row l (first _ _ here) (second (in_group t.rules group row) _ here));
        }

  -- and beside them.
  pub right_claim :
      Sound t (claim_slices t values levels) → RightClaim t values levels → (test : Test) → Memᴰ test (claim_tests t values levels) →
      Absent test
  unfolding claim_tests level_tests value_test not_held
  right_claim sound right =
      absent_more (record { nowhere = λ atom l. ap not ((right.two_valued 0).held atom (rw group_size l)) })
      (each_both Absent (each_both Absent (each_turn Absent groups _ (no_level sound right))
      (each_both Absent (each_turn Absent groups _ (no_support sound right)) (each_turn Absent groups _ (no_blocking sound right))))
      (satisfies_absent t values right.satisfies))
