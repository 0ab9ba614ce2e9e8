-- The state that the lines read so far have reached, and how a form moves it on.
use Rattle.std.specs.Prelude.{ℕ, ◌+◌, ◌*◌, Bool, cond, ◌&&◌, leb, length}
use Rattle.tables.specs.Limits.{max_rule_rows, max_clause_rows, max_literals, max_load_rows, max_terms}
use Rattle.tables.specs.Rows.{rule_width, clause_width}
use Rattle.tables.specs.Loads.{load_width}
use Rattle.format.specs.declared.kinds.Kind.{Kind}
use Rattle.format.specs.declared.kinds.Kind.TheVariants.{Atoms, Rule, Clause, Load, Open, Claim, Defined}
use Rattle.format.specs.Forms.{Form}
use Rattle.format.specs.Views.{view_of, kind_in, same_kind}
use Rattle.judging.specs.declared.reached.Phase.{Phase}
use Rattle.judging.specs.declared.reached.Phase.TheVariants.{NothingYet, AtomsStood, InRules, InClauses, InLoads, OpenStood, ClaimStood, Past}
use Rattle.judging.specs.declared.reached.Reached.{Reached}
use Rattle.judging.specs.declared.reached.Space.{Space}
use Rattle.judging.specs.LentTables.{Table, Rules, Literals, Clauses, Loads, LoadLiterals, Minutes, Marks, Values, Levels, every_table, room_in}

-- The place of a phase in the order of a text: nothing was read yet; the atoms form was read last; the defined form or a rule was, or a clause, or
-- a load line; an open form or a claim stood. `Past` is any that comes after these: no text reaches it, but a caller's state may say so.
abbrev pub rank : Phase → ℕ
rank NothingYet = 0
rank AtomsStood = 1
rank InRules = 2
rank InClauses = 3
rank InLoads = 4
rank OpenStood = 5
rank ClaimStood = 6
rank Past = 7

-- The phase, the number of atoms, and the entries counted for each table that grows from line to line. Before the first line nothing was
-- read, and all counts are 0.
unfoldable pub start : Reached
start = record { phase = NothingYet; size = 0; rules = 0; literals = 0; clauses = 0; loads = 0; terms = 0 }

-- The phase that a form of each kind leaves.
unfoldable pub phase_after : Kind → Phase
phase_after Atoms = AtomsStood
phase_after Rule = InRules
phase_after Clause = InClauses
phase_after Load = InLoads
phase_after Open = OpenStood
phase_after Claim = ClaimStood
phase_after Defined = InRules

-- The state after a form of some kind: an atoms form tells the number of atoms, rules, clauses and load lines add a row each, and the
-- literals and terms that a form lists are counted too.
unfoldable pub advanced : Reached → Kind → ℕ → ℕ → ℕ → Reached
advanced s kind atoms literals terms =
    record {
      phase = phase_after kind;
      size = cond (same_kind kind Atoms) atoms s.size;
      rules = s.rules + cond (same_kind kind Rule) rule_width 0;
      literals = s.literals + literals;
      clauses = s.clauses + cond (same_kind kind Clause) clause_width 0;
      loads = s.loads + cond (same_kind kind Load) load_width 0;
      terms = s.terms + terms;
    }

unfoldable pub after : Reached → Form → Reached
after s f = advanced s (kind_in f) (view_of f).size (length (view_of f).literals) (length (view_of f).terms)

-- Rows, literals and terms are within the limits of a book.
unfoldable pub counts_within : Reached → Bool
counts_within s =
    leb s.rules (max_rule_rows * rule_width) && leb s.literals max_literals && leb s.clauses (max_clause_rows * clause_width)
    && leb s.loads (max_load_rows * load_width) && leb s.terms max_terms

-- How many groups of rules there are, each with a level of its own for every atom: a book has one definition so far.
unfoldable pub groups_reached : Reached → ℕ
groups_reached s = 1

-- Marks and values are counted once a state form stood, one for each atom; levels once a claim did, one for each atom in each group.
unfoldable pub values_counted : Reached → ℕ
values_counted s = cond (leb (rank OpenStood) (rank s.phase)) s.size 0

unfoldable pub levels_counted : Reached → ℕ
levels_counted s = cond (leb (rank ClaimStood) (rank s.phase)) (s.size * groups_reached s) 0

-- The entries counted for each table; load literals and minutes both hold the terms.
unfoldable pub count_in : Reached → Table → ℕ
count_in s Rules = s.rules
count_in s Literals = s.literals
count_in s Clauses = s.clauses
count_in s Loads = s.loads
count_in s LoadLiterals = s.terms
count_in s Minutes = s.terms
count_in s Marks = values_counted s
count_in s Values = values_counted s
count_in s Levels = levels_counted s

-- Each lent table has room for the entries that are counted for it.
unfoldable pub fits : Space → Reached → Bool
fits space s = every_table (λ table. leb (count_in s table) (room_in space table))
