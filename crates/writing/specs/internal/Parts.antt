-- The bytes of single parts, each after its space, and of single lines with their ends.
use Rattle.std.specs.Prelude.{ℕ, ◌+◌, ◌*◌, cond, List, [], ◌∷◌, ◌++◌, map, ℤ, get_or}
use Rattle.wellfounded.specs.Literals.{body_at}
use Rattle.tables.specs.Rows.{is_declared, rule_at, rules_of, clause_at, clauses_of}
use Rattle.tables.specs.Loads.{term_at, terms_at, load_at, loads_of}
use Rattle.format.specs.Forms.{Form, space, closing, line_end, decimal, literal_bytes, term_bytes, pair_bytes, parts_bytes, render, render_all}
use Rattle.writing.specs.BookForms.{literal_text, term_text, rule_form_of, clause_form_of, load_form_of, claimed_pair}

-- The literal, the term, the level in a group, the pair and the marked atom at a place.
unfoldable pub literal_part : List ℕ → ℕ → List ℕ
literal_part literals place = space ∷ literal_bytes (literal_text (get_or literals place 0))

unfoldable pub term_part : List ℕ → List ℤ → ℕ → List ℕ
term_part load_literals minutes place = space ∷ term_bytes (term_text (term_at load_literals minutes place))

unfoldable pub level_part : ℕ → List ℕ → ℕ → ℕ → List ℕ
level_part atoms levels atom group = space ∷ decimal (get_or levels (group * atoms + atom) 0)

unfoldable pub pair_part : ℕ → ℕ → List ℕ → List ℕ → ℕ → List ℕ
pair_part atoms groups values levels atom = space ∷ pair_bytes (claimed_pair atoms groups values levels atom)

unfoldable pub mark_part : List ℕ → ℕ → List ℕ
mark_part marks atom = cond (is_declared marks atom) (space ∷ decimal atom) []

-- A form's line with the byte that ends it.
unfoldable pub line_of : Form → List ℕ
line_of f = render f ++ (line_end ∷ [])

-- What ends a line of parts: the closing bracket and the byte after it.
abbrev pub line_close : List ℕ
line_close = closing ∷ line_end ∷ []

-- What stands on a line from the literals or the terms on.
unfoldable pub body_bytes : List ℕ → ℕ → ℕ → List ℕ
body_bytes literals start size = parts_bytes literal_bytes (map literal_text (body_at literals start size)) ++ (line_end ∷ [])

unfoldable pub terms_bytes : List ℕ → List ℤ → ℕ → ℕ → List ℕ
terms_bytes load_literals minutes start size = parts_bytes term_bytes (map term_text (terms_at load_literals minutes start size)) ++ (line_end ∷ [])

-- The lines of all rows: rules, clauses and load lines.
unfoldable pub rows_text : List ℕ → List ℕ → List ℕ → List ℤ → List ℕ → List ℤ → List ℕ
rows_text rules literals clauses loads load_literals minutes =
    render_all (map rule_form_of (rules_of rules literals))
    ++ (render_all (map clause_form_of (clauses_of clauses literals)) ++ render_all (map load_form_of (loads_of loads load_literals minutes)))

-- The line of a row.
unfoldable pub rule_line : List ℕ → List ℕ → ℕ → List ℕ
rule_line rules literals row = line_of (rule_form_of (rule_at rules literals row))

unfoldable pub clause_line : List ℕ → List ℕ → ℕ → List ℕ
clause_line clauses literals row = line_of (clause_form_of (clause_at clauses literals row))

unfoldable pub load_line : List ℤ → List ℕ → List ℤ → ℕ → List ℕ
load_line loads load_literals minutes row = line_of (load_form_of (load_at loads load_literals minutes row))
