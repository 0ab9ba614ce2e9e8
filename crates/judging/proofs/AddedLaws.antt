-- What a form of each kind adds: where all counts were within the limits and had space, only those that it adds to have to be compared.
-- Assumes nothing.
use Prim.Native.Nat.{ℕ, ◌+◌, ◌*◌}
use mathlib.Core.Path.{◌≡◌}
use mathlib.Core.Bool.{true, false, ◌&&◌, and-true}
use native.Mathlib.Nat.{add-zero}
use native.Mathlib.Omega.{arith}
use lib.Dec.{leb}
use borrow.Author.Tests.{le-leb}
use Rattle.tables.specs.Limits.{max_rule_rows, max_clause_rows, max_literals, max_load_rows, max_terms}
use Rattle.tables.specs.Rows.{rule_width, clause_width}
use Rattle.tables.specs.Loads.{load_width}
use Rattle.format.specs.declared.kinds.Kind.{Kind}
use Rattle.format.specs.declared.kinds.Kind.TheVariants.{Rule, Clause, Load, Open, Claim}
use Rattle.format.specs.Views.{kind_number, same_kind}
use Rattle.judging.specs.declared.reached.Reached.{Reached}
use Rattle.judging.specs.declared.reached.Space.{Space}
use Rattle.judging.specs.LentTables.{Rules, Literals, Clauses, Loads, LoadLiterals, Minutes, every_table, room_in}
use Rattle.judging.specs.declared.reached.Phase.TheVariants.{OpenStood, ClaimStood}
use Rattle.judging.specs.States.{rank, phase_after, advanced, counts_within, groups_reached, values_counted, levels_counted, count_in, fits}
use Rattle.judging.specs.internal.Shapes.{added, CountsFit}
use Rattle.judging.proofs.Counts.{CountsWithin, counts_within_lem, fits_each}
use Rattle.judging.proofs.StateLaws.{groups_claim}

-- Each count is within its limit and has space in its table.
module _ (space : Space) (s : Reached) (size parts : ℕ) (fitted : CountsFit space s) where
  few : CountsWithin s
  few = counts_within_lem s fitted.limits

  rules_few : leb s.rules (max_rule_rows * rule_width) ≡ true
  rules_few = le-leb _ _ few.rules

  literals_few : leb s.literals max_literals ≡ true
  literals_few = le-leb _ _ few.literals

  clauses_few : leb s.clauses (max_clause_rows * clause_width) ≡ true
  clauses_few = le-leb _ _ few.clauses

  loads_few : leb s.loads (max_load_rows * load_width) ≡ true
  loads_few = le-leb _ _ few.loads

  terms_few : leb s.terms max_terms ≡ true
  terms_few = le-leb _ _ few.terms

  rules_fit : leb s.rules space.rules ≡ true
  unfolding count_in room_in
  rules_fit = le-leb _ _ (fits_each space s fitted.fitting Rules)

  literals_fit : leb s.literals space.literals ≡ true
  unfolding count_in room_in
  literals_fit = le-leb _ _ (fits_each space s fitted.fitting Literals)

  clauses_fit : leb s.clauses space.clauses ≡ true
  unfolding count_in room_in
  clauses_fit = le-leb _ _ (fits_each space s fitted.fitting Clauses)

  loads_fit : leb s.loads space.loads ≡ true
  unfolding count_in room_in
  loads_fit = le-leb _ _ (fits_each space s fitted.fitting Loads)

  terms_fit : leb s.terms space.load_literals ≡ true
  unfolding count_in room_in
  terms_fit = le-leb _ _ (fits_each space s fitted.fitting LoadLiterals)

  minutes_fit : leb s.terms space.minutes ≡ true
  unfolding count_in room_in
  minutes_fit = le-leb _ _ (fits_each space s fitted.fitting Minutes)

  none_fits : (n : ℕ) → leb 0 n ≡ true
  none_fits n = le-leb 0 n (omega arith)

  -- A rule, a clause and a load line add a row, and literals or terms.
  pub rule_limits :
      (leb (s.rules + rule_width) (max_rule_rows * rule_width) && leb (s.literals + parts) max_literals)
      ≡ counts_within (added s Rule size parts)
  unfolding added advanced counts_within same_kind kind_number
  rule_limits = simp (add-zero, clauses_few, loads_few, terms_few, and-true)

  pub rule_space :
      (leb (s.rules + rule_width) space.rules && leb (s.literals + parts) space.literals)
      ≡ fits space (added s Rule size parts)
  unfolding added advanced phase_after same_kind kind_number fits every_table count_in room_in values_counted levels_counted
  rule_space = simp (add-zero, clauses_fit, loads_fit, terms_fit, minutes_fit, none_fits space.marks, none_fits space.values, none_fits space.levels, and-true)

  pub clause_limits :
      (leb (s.literals + parts) max_literals && leb (s.clauses + clause_width) (max_clause_rows * clause_width))
      ≡ counts_within (added s Clause size parts)
  unfolding added advanced counts_within same_kind kind_number
  clause_limits = simp (add-zero, rules_few, loads_few, terms_few, and-true)

  pub clause_space :
      (leb (s.literals + parts) space.literals && leb (s.clauses + clause_width) space.clauses)
      ≡ fits space (added s Clause size parts)
  unfolding added advanced phase_after same_kind kind_number fits every_table count_in room_in values_counted levels_counted
  clause_space = simp (add-zero, rules_fit, loads_fit, terms_fit, minutes_fit, none_fits space.marks, none_fits space.values, none_fits space.levels, and-true)

  pub load_limits :
      (leb (s.loads + load_width) (max_load_rows * load_width) && leb (s.terms + parts) max_terms)
      ≡ counts_within (added s Load size parts)
  unfolding added advanced counts_within same_kind kind_number
  load_limits = simp (add-zero, rules_few, literals_few, clauses_few)

  pub load_space :
      (leb (s.loads + load_width) space.loads && leb (s.terms + parts) space.load_literals && leb (s.terms + parts) space.minutes)
      ≡ fits space (added s Load size parts)
  unfolding added advanced phase_after same_kind kind_number fits every_table count_in room_in values_counted levels_counted
  load_space = simp (add-zero, rules_fit, literals_fit, clauses_fit, none_fits space.marks, none_fits space.values, none_fits space.levels, and-true)

  -- The other kinds add to no table that grows from line to line.
  module _ (kind : Kind) (noRule : same_kind kind Rule ≡ false) (noClause : same_kind kind Clause ≡ false) (noLoad : same_kind kind Load ≡ false) where
    pub other_limits : true ≡ counts_within (added s kind size parts)
    unfolding added advanced counts_within
    other_limits = simp (noRule, noClause, noLoad, add-zero, rules_few, literals_few, clauses_few, loads_few, terms_few)

    -- and need space only where they tell a state.
    pub other_space :
        leb (rank OpenStood) (rank (phase_after kind)) ≡ false → leb (rank ClaimStood) (rank (phase_after kind)) ≡ false →
        true ≡ fits space (added s kind size parts)
    unfolding added advanced fits every_table count_in room_in values_counted levels_counted
    other_space o c =
        simp (
          noRule,
          noClause,
          noLoad,
          o,
          c,
          add-zero,
          rules_fit,
          literals_fit,
          clauses_fit,
          loads_fit,
          terms_fit,
          minutes_fit,
          none_fits space.marks,
          none_fits space.values,
          none_fits space.levels,
        )

  pub open_space : (leb s.size space.marks && leb s.size space.values) ≡ fits space (added s Open size parts)
  unfolding added advanced phase_after same_kind kind_number fits every_table count_in room_in values_counted levels_counted
  open_space =
      simp (add-zero, rules_fit, literals_fit, clauses_fit, loads_fit, terms_fit, minutes_fit, none_fits space.levels, and-true)

  pub claim_space :
      {told : ℕ} → told ≡ s.size * groups_reached s →
      (leb s.size space.marks && leb s.size space.values && leb told space.levels) ≡ fits space (added s Claim size parts)
  unfolding added advanced phase_after same_kind kind_number fits every_table count_in room_in values_counted levels_counted
  claim_space e = rw (groups_claim s size 0 0, e) (simp (add-zero, rules_fit, literals_fit, clauses_fit, loads_fit, terms_fit, minutes_fit))
