-- What the scans of rule rows tell of the definition's rules: which true atoms are supported, and which rows are not blocked.
-- Assumes nothing.
use Prim.Native.Nat.{ℕ, ◌≤◌, ◌<◌}
use mathlib.Core.Path.{◌≡◌, refl, sym, ◌∙◌}
use mathlib.Core.Bool.{Bool, true, false, not, ◌&&◌, and-false}
use mathlib.Core.List.{List, Memᴰ}
use native.Mathlib.Omega.{arith}
use lib.Dec.{leb, eqb}
use lib.ListN.{length, get_or, replicate}
use Rattle.wellfounded.specs.Lists.{all}
use Rattle.wellfounded.specs.Literals.{is_true, value_at, atom_of}
use Rattle.wellfounded.specs.Definitions.{Definition, is_defined}
use Rattle.wellfounded.specs.Levels.{level_at, supports, is_supported}
use Rattle.wellfounded.proofs.Lists.{all_same, any_same}
use Rattle.wellfounded.proofs.Scan.{body_member, table_known}
use Rattle.tables.specs.Faults.{lowest}
use Rattle.tables.specs.Limits.{max_atoms}
use Rattle.tables.specs.Rows.{rule_count, rule_head, rule_start, rule_size, rule_body, in_group}
use Rattle.tables.specs.internal.Scans.{RulesScannable}
use Rattle.tables.specs.internal.Marks.{is_marked, mark_where}
use Rattle.tables.proofs.Faults.{lowest_same}
use Rattle.tables.proofs.MarkLaws.{true_at, fresh_marks}
use Rattle.tables.proofs.RowLaws.{taken_some}
use Rattle.checker.specs.Check.{unsupported, unblocked}
use Rattle.checker.specs.internal.Scans.{HeadsLevelled, GroupRanged, supports_below, supports_row, supported_by, unblocked_row}
use Rattle.checker.proofs.LevelReads.{level_tells, supports_below_lem, blocks_below_lem}

-- The literals of a row have values.
body_known :
    (rules literals : List ℕ) (atoms : ℕ) → RulesScannable rules literals atoms → (row literal : ℕ) →
    Memᴰ literal (rule_body rules literals row) → atom_of literal < atoms
unfolding rule_body
body_known rules literals atoms scan row literal m =
    table_known literals atoms scan.known (body_member literals (rule_start rules row) (rule_size rules row) m)

-- Levels in range are 1 or more at the heads of the group, which are defined.
pub heads_levelled :
    {d : Definition} {rules literals values levels : List ℕ} {group : ℕ} → GroupRanged d rules literals group values levels →
    length values ≤ max_atoms → RulesScannable rules literals (length values) → HeadsLevelled rules literals group values levels
heads_levelled g few scan =
    let r = g.ranged in
    record {
      levelled = record { few = few; long = r.levelled ∙ sym r.valued; rows = scan };
      high = λ row l t. r.defined_level _ (g.has_rows.head_defined row l t (rw (← r.valued) (scan.heads row l)));
    }

module _
    {d : Definition} {rules literals values levels : List ℕ} {group : ℕ} (g : GroupRanged d rules literals group values levels)
    (heads : HeadsLevelled rules literals group values levels)
  where
    relying : (a b x y : Bool) → (a ≡ true → x ≡ y) → (a && b && not x) ≡ (a && b && not y)
    relying true b x y alike = rw (alike refl)
    relying false b x y alike = refl

    -- A row is unblocked by its levels exactly if it is by the definition.
    pub blocking_search :
        lowest (rule_count rules) (unblocked_row rules literals group values levels) ≡ lowest (rule_count rules)
        (unblocked d rules literals group values levels)
    unfolding unblocked unblocked_row
    blocking_search =
        lowest_same _ _ (rule_count rules)
        (λ row l.
        relying (in_group rules group row) _ _ _ (λ t.
        any_same _ _ _ (λ literal m.
        sym (blocks_below_lem g.ranged (rule_head rules row) literal (body_known rules literals _ heads.levelled.rows row literal m) (heads.high row l t)))))

    -- A true atom is supported by a row of the group exactly if it has a rule that supports it.
    supported_by_rows :
        (atom : ℕ) → is_true (value_at values atom) ≡ true →
        supported_by rules literals group values levels (rule_count rules) atom ≡ is_supported d values levels atom
    unfolding supported_by is_supported supports_row
    supported_by_rows atom holds =
        taken_some g.has_rows atom (all (supports d values levels atom)) _ alike
      where
        alike :
            (row : ℕ) → row < rule_count rules → in_group rules group row ≡ true → rule_head rules row ≡ atom →
            (is_true (value_at values (rule_head rules row))
            && all (supports_below values levels (level_at levels (rule_head rules row))) (rule_body rules literals row))
            ≡ all (supports d values levels atom) (rule_body rules literals row)
        alike row l t head =
            rw (head, holds)
            (all_same _ _ _ (λ literal m.
            sym (supports_below_lem g.ranged atom literal (body_known rules literals _ heads.levelled.rows row literal m) (rw head at (heads.high row l t)))))

    -- So where the supported atoms are marked, the lowest unsupported one is that of the definition.
    pub support_search :
        (supported : List ℕ) → supported ≡ mark_where (supported_by rules literals group values levels (rule_count rules)) (replicate max_atoms 0) →
        lowest (length values) (λ atom. leb 1 (level_at levels atom) && is_true (value_at values atom) && not (is_marked supported atom))
        ≡ lowest d.size (unsupported d values levels)
    unfolding unsupported
    support_search supported is =
        rw g.ranged.valued (lowest_same _ _ d.size (λ atom l.
        rw (level_tells g.ranged atom l, is, fresh_marks max_atoms _ atom (omega (arith, heads.levelled.few, g.ranged.valued)))
        (resting (is_defined d atom) _ _ _ (supported_by_rows atom))))
      where
        resting : (a b x y : Bool) → (b ≡ true → x ≡ y) → (a && b && not x) ≡ (a && b && not y)
        resting a true x y alike = rw (alike refl)
        resting a false x y alike = rw and-false

-- A defined true atom without support, as the code tests it.
pub unsupported_at :
    (values levels supported : List ℕ) (atom : ℕ) → atom < length values →
    (leb 1 (level_at levels atom) && is_true (value_at values atom) && not (is_marked supported atom))
    ≡ (leb 1 (get_or levels atom 0) && eqb (get_or values atom 0) 1 && not (eqb (get_or supported atom 0) 1))
unfolding is_marked level_at
unsupported_at values levels supported atom l = rw (true_at values atom l)
