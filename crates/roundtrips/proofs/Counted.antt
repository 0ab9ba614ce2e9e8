-- The state that the forms of a book and a claim reach: it counts the rows, and the literals and the terms by row.
-- Assumes nothing.
use Prim.Native.Nat.{ℕ, ◌+◌, ◌*◌, ◌≤◌, ◌<◌}
use mathlib.Core.Path.{◌≡◌, refl, ◌∙◌}
use mathlib.Core.List.{List, [], ◌∷◌, ◌++◌, map}
use native.Mathlib.Omega.{arith}
use lib.ListN.{length, length-map}
use Rattle.wellfounded.specs.Definitions.{Rule}
use Rattle.tables.specs.Rows.{rules_of, clauses_of, rule_width, clause_width, rule_count, rule_start, rule_size, literals_by_rule, clause_count, clause_start, clause_size}
use Rattle.tables.specs.Loads.{Load, loads_of, load_width, load_count}
use Rattle.tables.specs.Sound.{Tables}
use Rattle.format.specs.Forms.{PairText, Form, atoms_form, claim_form}
use Rattle.format.specs.Views.{view_of, same_kind, kind_number}
use Rattle.judging.specs.declared.reached.Reached.{Reached}
use Rattle.judging.specs.declared.reached.Phase.TheVariants.{ClaimStood}
use Rattle.judging.specs.States.{start, phase_after, advanced, after}
use Rattle.judging.specs.Books.{after_all}
use Rattle.writing.specs.BookForms.{literal_text, term_text, rule_form_of, clause_form_of, load_form_of, marked_atoms, defined_forms, pairs_of, book_forms}
use Rattle.writing.specs.Writing.{literals_by_row, terms_by_row}
use Rattle.roundtrips.proofs.Totals.{total, rules_total, clauses_total, loads_total, rules_many, clauses_many, loads_many}

pub after_both : (s : Reached) (xs ys : List Form) → after_all s (xs ++ ys) ≡ after_all (after_all s xs) ys
unfolding after_all
after_both s [] ys = refl
after_both s (x ∷ xs) ys = after_both (after s x) xs ys

-- What forms add to the counts, where they leave N as it is.
record Adds (s t : Reached) (rules literals clauses loads terms : ℕ) : Type 0 where
  size_kept : t.size ≡ s.size
  adds_rules : t.rules ≡ s.rules + rules
  adds_literals : t.literals ≡ s.literals + literals
  adds_clauses : t.clauses ≡ s.clauses + clauses
  adds_loads : t.loads ≡ s.loads + loads
  adds_terms : t.terms ≡ s.terms + terms

adds_none : (s : Reached) → Adds s s 0 0 0 0 0
adds_none s =
    record {
      size_kept = refl;
      adds_rules = omega arith;
      adds_literals = omega arith;
      adds_clauses = omega arith;
      adds_loads = omega arith;
      adds_terms = omega arith;
    }

rules_add : (s : Reached) (rs : List Rule) → Adds s (after_all s (map rule_form_of rs)) (length rs * 3) (total (λ (r : Rule). length r.body) rs) 0 0 0
unfolding after_all after advanced view_of rule_form_of same_kind kind_number total
rules_add s [] = adds_none s
rules_add s (r ∷ rs) =
    let later = rules_add (after s (rule_form_of r)) rs in
    let many = length-map r.body literal_text in
    record {
      size_kept = later.size_kept;
      adds_rules = omega (arith, later.adds_rules);
      adds_literals = omega (arith, later.adds_literals);
      adds_clauses = omega (arith, later.adds_clauses);
      adds_loads = omega (arith, later.adds_loads);
      adds_terms = omega (arith, later.adds_terms);
    }

clauses_add : (s : Reached) (cs : List (List ℕ)) → Adds s (after_all s (map clause_form_of cs)) 0 (total length cs) (length cs * 2) 0 0
unfolding after_all after advanced view_of clause_form_of same_kind kind_number total
clauses_add s [] = adds_none s
clauses_add s (c ∷ cs) =
    let later = clauses_add (after s (clause_form_of c)) cs in
    let many = length-map c literal_text in
    record {
      size_kept = later.size_kept;
      adds_rules = omega (arith, later.adds_rules);
      adds_literals = omega (arith, later.adds_literals);
      adds_clauses = omega (arith, later.adds_clauses);
      adds_loads = omega (arith, later.adds_loads);
      adds_terms = omega (arith, later.adds_terms);
    }

loads_add : (s : Reached) (ls : List Load) → Adds s (after_all s (map load_form_of ls)) 0 0 0 (length ls * 4) (total (λ (l : Load). length l.terms) ls)
unfolding after_all after advanced view_of load_form_of same_kind kind_number total
loads_add s [] = adds_none s
loads_add s (l ∷ ls) =
    let later = loads_add (after s (load_form_of l)) ls in
    let many = length-map l.terms term_text in
    record {
      size_kept = later.size_kept;
      adds_rules = omega (arith, later.adds_rules);
      adds_literals = omega (arith, later.adds_literals);
      adds_clauses = omega (arith, later.adds_clauses);
      adds_loads = omega (arith, later.adds_loads);
      adds_terms = omega (arith, later.adds_terms);
    }

defined_add : (s : Reached) (atoms : List ℕ) → Adds s (after_all s (defined_forms atoms)) 0 0 0 0 0
unfolding after_all after advanced view_of defined_forms same_kind kind_number
defined_add s [] = adds_none s
defined_add s (a ∷ atoms) =
    record {
      size_kept = refl;
      adds_rules = omega arith;
      adds_literals = omega arith;
      adds_clauses = omega arith;
      adds_loads = omega arith;
      adds_terms = omega arith;
    }

-- The state at the end.
pub record Counted (t : Tables) (s : Reached) : Type 0 where
  pub stood : s.phase ≡ ClaimStood
  pub size : s.size ≡ t.atoms
  pub rules : s.rules ≡ rule_count t.rules * rule_width
  pub literals : s.literals ≡ literals_by_row t.rules t.clauses
  pub clauses : s.clauses ≡ clause_count t.clauses * clause_width
  pub loads : s.loads ≡ load_count t.loads * load_width
  pub terms : s.terms ≡ terms_by_row t.loads

-- Rows of rules and clauses lie within the literals.
pub record RowsLie (t : Tables) : Type 0 where
  pub rules : (row : ℕ) → row < rule_count t.rules → rule_start t.rules row + rule_size t.rules row ≤ length t.literals
  pub clauses : (row : ℕ) → row < clause_count t.clauses → clause_start t.clauses row + clause_size t.clauses row ≤ length t.literals

-- All forms but the first, and the claim among them.
abbrev later_forms : List ℕ → List Rule → List (List ℕ) → List Load → List PairText → List Form
later_forms named rs cs ls pairs =
    defined_forms named ++ (map rule_form_of rs ++ (map clause_form_of cs ++ (map load_form_of ls ++ (claim_form pairs ∷ []))))

pub later_parts :
    (s : Reached) (d r c l x : List Form) →
    after_all s (d ++ (r ++ (c ++ (l ++ x)))) ≡ after_all (after_all (after_all (after_all (after_all s d) r) c) l) x
later_parts s d r c l x =
    after_both s d _ ∙ (after_both (after_all s d) r _ ∙ (after_both (after_all (after_all s d) r) c _ ∙ after_both (after_all (after_all (after_all s d) r) c) l x))

-- A claim adds to no table that grows.
claim_adds : (s : Reached) (pairs : List PairText) → ((after_all s (claim_form pairs ∷ [])).phase ≡ ClaimStood) × Adds s (after_all s (claim_form pairs ∷ [])) 0 0 0 0 0
unfolding after_all after advanced view_of phase_after same_kind kind_number
claim_adds s pairs = (
  refl,
  record {
    size_kept = refl;
    adds_rules = omega arith;
    adds_literals = omega arith;
    adds_clauses = omega arith;
    adds_loads = omega arith;
    adds_terms = omega arith;
  },
)

later_add :
    (s : Reached) (named : List ℕ) (rs : List Rule) (cs : List (List ℕ)) (ls : List Load) (pairs : List PairText) →
    ((after_all s (later_forms named rs cs ls pairs)).phase ≡ ClaimStood)
    × Adds s (after_all s (later_forms named rs cs ls pairs)) (length rs * 3)
    (total (λ (r : Rule). length r.body) rs + total length cs) (length cs * 2) (length ls * 4) (total (λ (l : Load). length l.terms) ls)
later_add s named rs cs ls pairs =
    let d = defined_add s named in
    let r = rules_add (after_all s (defined_forms named)) rs in
    let c = clauses_add (after_all (after_all s (defined_forms named)) (map rule_form_of rs)) cs in
    let l = loads_add (after_all (after_all (after_all s (defined_forms named)) (map rule_form_of rs)) (map clause_form_of cs)) ls in
    let x = claim_adds (after_all (after_all (after_all (after_all s (defined_forms named)) (map rule_form_of rs)) (map clause_form_of cs)) (map load_form_of ls)) pairs in
    rw (later_parts s (defined_forms named) (map rule_form_of rs) (map clause_form_of cs) (map load_form_of ls) (claim_form pairs ∷ [])) (
      x.0,
      record {
        size_kept = x.1.size_kept ∙ (l.size_kept ∙ (c.size_kept ∙ (r.size_kept ∙ d.size_kept)));
        adds_rules = omega (arith, x.1.adds_rules, l.adds_rules, c.adds_rules, r.adds_rules, d.adds_rules);
        adds_literals = omega (arith, x.1.adds_literals, l.adds_literals, c.adds_literals, r.adds_literals, d.adds_literals);
        adds_clauses = omega (arith, x.1.adds_clauses, l.adds_clauses, c.adds_clauses, r.adds_clauses, d.adds_clauses);
        adds_loads = omega (arith, x.1.adds_loads, l.adds_loads, c.adds_loads, r.adds_loads, d.adds_loads);
        adds_terms = omega (arith, x.1.adds_terms, l.adds_terms, c.adds_terms, r.adds_terms, d.adds_terms);
      },
    )

-- An atoms form tells N.
atoms_stand :
    (n : ℕ) →
    let s = after start (atoms_form n) in
    (s.size ≡ n) × (s.rules ≡ 0) × (s.literals ≡ 0) × (s.clauses ≡ 0) × (s.loads ≡ 0) × (s.terms ≡ 0)
unfolding after advanced start view_of same_kind kind_number
atoms_stand n = (refl, refl, refl, refl, refl, refl)

pub book_counted : (t : Tables) (values levels : List ℕ) → RowsLie t → Counted t (after_all start (book_forms t values levels))
unfolding after_all book_forms literals_by_row literals_by_rule terms_by_row
book_counted t values levels lie =
    let s = after start (atoms_form t.atoms) in
    let begun = atoms_stand t.atoms in
    let rs = rules_of t.rules t.literals in
    let cs = clauses_of t.clauses t.literals in
    let ls = loads_of t.loads t.load_literals t.minutes in
    let k = later_add s (marked_atoms t.atoms t.marks) rs cs ls (pairs_of t.atoms 1 values levels) in
    let rules = rules_total t.rules t.literals lie.rules in
    let clauses = clauses_total t.clauses t.literals lie.clauses in
    let terms = loads_total t.loads t.load_literals t.minutes in
    record {
      stood = k.0;
      size = k.1.size_kept ∙ begun.0;
      rules = omega (arith, k.1.adds_rules, begun.1, rules_many t.rules t.literals);
      literals = omega (arith, k.1.adds_literals, begun.2, rules, clauses);
      clauses = omega (arith, k.1.adds_clauses, begun.3, clauses_many t.clauses t.literals);
      loads = omega (arith, k.1.adds_loads, begun.4, loads_many t.loads t.load_literals t.minutes);
      terms = omega (arith, k.1.adds_terms, begun.5, terms);
    }
