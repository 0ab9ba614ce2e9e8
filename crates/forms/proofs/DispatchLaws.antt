-- Laws of forms read at an offset: the word that stands there tells how a form is read on and what it adds to the tables.
-- Assumes nothing.
use Prim.Native.Nat.{ℕ, zero, suc, ◌+◌, ◌-◌}
use mathlib.Core.Path.{◌≡◌, refl, sym, ap, fun_ext, ◌∙◌}
use mathlib.Core.Bool.{Bool, true, false, cond}
use mathlib.Core.List.{List, [], ◌∷◌, ◌++◌, map}
use native.Mathlib.Omega.{arith}
use lib.IntN.{ℤ}
use lib.ListN.{length, drop, length-append, length-drop}
use lib.Seq.{sets, drop-drop}
use Rattle.std.specs.Prelude.{Option, None, Some}
use Rattle.wellfounded.specs.Lists.{all, join_below}
use Rattle.format.specs.declared.kinds.Kind.{Kind}
use Rattle.format.specs.declared.kinds.Kind.TheVariants.{Atoms, Rule, Clause, Load, Open, Claim, Defined}
use Rattle.format.specs.Forms.{LiteralText, TermText, PairText, Form, atoms_form, rule_form, clause_form, load_form, open_form, claim_form, defined_form}
use Rattle.format.specs.Forms.{space, closing}
use Rattle.format.specs.Views.{view_of, of_kind, same_kind, kind_number}
use Rattle.format.specs.Words.{word_of, kind_at}
use Rattle.format.specs.Parse.{Reading, got, refused, Holds, and_then, skip, read_number, read_signed, read_literal, read_term, read_pair, parts}
use Rattle.format.specs.Parse.{read_atoms, read_rule, read_clause, read_load, read_open, read_claim, as_defined, read_defined, read_as, read_known, read_form}
use Rattle.items.specs.Items.{literal_code, level_columns}
use Rattle.format.proofs.Lines.{kind_begins}
use Rattle.judging.specs.declared.reached.Reached.{Reached}
use Rattle.judging.specs.declared.reached.Shape.{Shape}
use Rattle.judging.specs.LentTables.{Rules, Literals, Clauses, Loads, LoadLiterals, Minutes, Marks, Values, Levels}
use Rattle.judging.specs.States.{groups_reached, count_in}
use Rattle.judging.specs.Judging.{levelled, if_levelled}
use Rattle.judging.proofs.TableLaws.{each_table}
use Rattle.lists.specs.internal.Lists.{Inside}
use Rattle.forms.specs.Contents.{Contents, lent_tables}
use Rattle.forms.specs.Entries.{entries_of, given_anew, literals_in, terms_in, rule_row, clause_row, load_row, marks_given, state_values, state_levels}
use Rattle.forms.specs.internal.Stores.{place_in, store}
use Rattle.numerals.specs.internal.Offsets.{answered}
use Rattle.forms.specs.internal.Readers.{Forms}

-- The entries of a form are stored.
abbrev pub Stored : Reached → Contents → Contents → Form → Type 0
Stored s before afterwards f = afterwards ≡ store s (entries_of s f) before

-- A form is read on from after the word of its kind.
module _ {text : List ℕ} {at : ℕ} {result : Kind} (inside : Inside text at) (is : Some result ≡ kind_at text at) where
  pub inside_after : (kind : Kind) → result ≡ kind → Inside text (at + length (word_of kind))
  unfolding kind_at
  inside_after kind e =
      let stands : word_of kind ++ drop (length (word_of kind)) (drop at text) ≡ drop at text = rw (sym is, e) at (kind_begins (drop at text)) in
      let sum : length (word_of kind) + length (drop (length (word_of kind)) (drop at text)) ≡ length text - at =
      sym (length-append (word_of kind) _) ∙ (ap length stands ∙ length-drop at text) in
      record { reached = omega (arith, inside.reached); short = inside.short }

read_as_lem :
    (text : List ℕ) (at : ℕ) {result : Kind} (kind : Kind) → Some result ≡ kind_at text at → result ≡ kind →
    read_form (drop at text) ≡ read_as kind (drop (at + length (word_of kind)) text)
unfolding read_form read_known kind_at
read_as_lem text at kind is e = rw (sym is, e, drop-drop)

-- Each kind is read as forms of that kind alone.
module _ {A : Type 0} (P : Form → Type 0) where
  then_any :
      (r : Reading A) (next : A → List ℕ → Reading Form) → ((a : A) (rest : List ℕ) → Holds (λ f end. P f) (next a rest)) →
      Holds (λ f end. P f) (and_then r next)
  unfolding and_then
  then_any (got a rest) next h = h a rest
  then_any refused next h = tt

module _ (P : Form → Type 0) (bytes : List ℕ) where
  only_atoms : ((n : ℕ) → P (atoms_form n)) → Holds (λ f end. P f) (read_atoms bytes)
  unfolding read_atoms
  only_atoms h =
      then_any P (skip (space ∷ []) bytes) _ λ s after. then_any P (read_number after) _ λ n rest. then_any P (skip (closing ∷ []) rest) _ λ c end. h n

  only_rules : ((head : ℕ) (ls : List LiteralText) → P (rule_form head ls)) → Holds (λ f end. P f) (read_rule bytes)
  unfolding read_rule
  only_rules h =
      then_any P (skip (space ∷ []) bytes) _ λ s after. then_any P (read_number after) _ λ head rest. then_any P (parts read_literal rest) _ λ ls end. h head ls

  only_clauses : ((ls : List LiteralText) → P (clause_form ls)) → Holds (λ f end. P f) (read_clause bytes)
  unfolding read_clause
  only_clauses h = then_any P (parts read_literal bytes) _ λ ls end. h ls

  only_loads : ((lo hi : ℤ) (ts : List TermText) → P (load_form lo hi ts)) → Holds (λ f end. P f) (read_load bytes)
  unfolding read_load
  only_loads h =
      then_any P (skip (space ∷ []) bytes) _ λ s after. then_any P (read_signed after) _ λ lo rest. then_any P (skip (space ∷ []) rest) _ λ t next.
      then_any P (read_signed next) _ λ hi last. then_any P (parts read_term last) _ λ ts end. h lo hi ts

  only_open : ((atoms : List ℕ) → P (open_form atoms)) → Holds (λ f end. P f) (read_open bytes)
  unfolding read_open
  only_open h = then_any P (parts read_number bytes) _ λ atoms end. h atoms

  only_claims : ((ps : List PairText) → P (claim_form ps)) → Holds (λ f end. P f) (read_claim bytes)
  unfolding read_claim
  only_claims h = then_any P (parts read_pair bytes) _ λ ps end. h ps

  only_defined : ((atom : ℕ) (others : List ℕ) → P (defined_form atom others)) → Holds (λ f end. P f) (read_defined bytes)
  unfolding read_defined as_defined
  only_defined h = then_any P (parts read_number bytes) _ step
    where
      step : (atoms end : List ℕ) → Holds (λ f rest. P f) (as_defined atoms end)
      step [] end = tt
      step (atom ∷ others) end = h atom others

-- What a form of some kind has written is what its entries ask,
lifted :
    {s : Reached} {text : List ℕ} {answer : Option (Shape × ℕ)} (bytes : List ℕ) {written : Form → Type 0} (stored : Form → Type 0) (r : Reading Form) →
    read_form bytes ≡ r → Holds (λ f rest. written f → stored f) r → Forms s text (if_levelled s r) answer written →
    Forms s text (if_levelled s (read_form bytes)) answer stored
unfolding if_levelled
lifted {s} {text} {answer} bytes {written} stored (got f rest) e h read = rw e (step (levelled s f) read)
  where
    step : (b : Bool) → Forms s text (cond b (got f rest) refused) answer written → Forms s text (cond b (got f rest) refused) answer stored
    step true k = record { answered = k.answered; laid = λ fine. h (k.laid fine) }
    step false k = record { answered = k.answered; laid = tt }
lifted bytes stored refused e h read = rw e record { answered = read.answered; laid = tt }

-- and forms without pairs are levelled.
pairless : (s : Reached) (r : Reading Form) → Holds (λ f rest. (view_of f).pairs ≡ []) r → if_levelled s r ≡ r
unfolding if_levelled levelled all
pairless s (got f rest) h = rw h
pairless s refused h = refl

lifted_plain :
    {s : Reached} {text : List ℕ} {answer : Option (Shape × ℕ)} (bytes : List ℕ) {written : Form → Type 0} (stored : Form → Type 0) (r : Reading Form) →
    read_form bytes ≡ r → Holds (λ f rest. (view_of f).pairs ≡ []) r → Holds (λ f rest. written f → stored f) r → Forms s text r answer written →
    Forms s text (if_levelled s (read_form bytes)) answer stored
lifted_plain {s} bytes stored r e none h read = lifted bytes stored r e h (rw (pairless s r none) read)

-- Without pairs there are no levels.
pub columns_none : (groups : ℕ) → level_columns groups [] ≡ []
unfolding level_columns join_below
columns_none zero = refl
columns_none (suc groups) = rw (columns_none groups)

no_levels : (s : Reached) (levels : List ℕ) → levels ≡ sets levels 0 (level_columns (groups_reached s) [])
no_levels s levels = rw (columns_none (groups_reached s))

-- A form's entries are stored where each table has them.
stored_tables :
    (s : Reached) (f : Form) (before after : Contents) → after Rules ≡ store s (entries_of s f) before Rules →
    after Literals ≡ store s (entries_of s f) before Literals → after Clauses ≡ store s (entries_of s f) before Clauses →
    after Loads ≡ store s (entries_of s f) before Loads → after LoadLiterals ≡ store s (entries_of s f) before LoadLiterals →
    after Minutes ≡ store s (entries_of s f) before Minutes → after Marks ≡ store s (entries_of s f) before Marks →
    after Values ≡ store s (entries_of s f) before Values → after Levels ≡ store s (entries_of s f) before Levels → Stored s before after f
stored_tables s f before after r l c d o m a v k =
    fun_ext (each_table (λ table. after table ≡ store s (entries_of s f) before table) r l c d o m a v k)

-- No word of a form stands at the offset.
pub no_kind :
    {s : Reached} {text : List ℕ} (at : ℕ) (before : Contents) → None ≡ kind_at text at →
    Forms s text (if_levelled s (read_form (drop at text))) None (Stored s before before)
unfolding read_form read_known kind_at answered if_levelled
no_kind at before is = rw (sym is) record { answered = refl; laid = tt }

-- A form of each kind, read after its word. It adds to the tables of its kind, and the others are left as they were.
module _ {s : Reached} {text : List ℕ} (at : ℕ) {result : Kind} {answer : Option (Shape × ℕ)} (before : Contents) (is : Some result ≡ kind_at text at) where
  -- An atoms form and a defined form give the marks.
  pub atoms_form_lem :
      (marks₁ : List ℕ) → result ≡ Atoms →
      Forms s text (read_atoms (drop (at + 6) text)) answer (λ f. marks₁ ≡ sets (before Marks) 0 (marks_given s f)) →
      Forms s text (if_levelled s (read_form (drop at text))) answer
      (Stored s before
      (lent_tables (before Rules) (before Literals) (before Clauses) (before Loads) (before LoadLiterals) (before Minutes) marks₁
      (before Values) (before Levels)))
  unfolding read_as word_of lent_tables store place_in given_anew count_in entries_of literals_in terms_in rule_row clause_row load_row marks_given state_values state_levels view_of of_kind same_kind kind_number
  atoms_form_lem marks₁ e read =
      lifted_plain (drop at text) (Stored s before _) (read_atoms (drop (at + 6) text)) (read_as_lem text at Atoms is e)
      (only_atoms _ _ λ n. refl) (only_atoms _ _ λ n w. stored_tables s (atoms_form n) before _ refl refl refl refl refl refl w refl (no_levels s (before Levels))) read

  pub defined_form_lem :
      (marks₁ : List ℕ) → result ≡ Defined →
      Forms s text (read_defined (drop (at + 8) text)) answer (λ f. marks₁ ≡ sets (before Marks) 0 (marks_given s f)) →
      Forms s text (if_levelled s (read_form (drop at text))) answer
      (Stored s before
      (lent_tables (before Rules) (before Literals) (before Clauses) (before Loads) (before LoadLiterals) (before Minutes) marks₁
      (before Values) (before Levels)))
  unfolding read_as word_of lent_tables store place_in given_anew count_in entries_of literals_in terms_in rule_row clause_row load_row marks_given state_values state_levels view_of of_kind same_kind kind_number
  defined_form_lem marks₁ e read =
      lifted_plain (drop at text) (Stored s before _) (read_defined (drop (at + 8) text)) (read_as_lem text at Defined is e)
      (only_defined _ _ λ atom others. refl) (only_defined _ _ λ atom others w. stored_tables s (defined_form atom others) before _ refl refl refl refl refl refl w refl (no_levels s (before Levels))) read

  pub rule_form_lem :
      (rules₁ literals₁ : List ℕ) → result ≡ Rule →
      Forms s text (read_rule (drop (at + 5) text)) answer (λ f.
      (rules₁ ≡ sets (before Rules) s.rules (rule_row s f)) ×
      (literals₁ ≡ sets (before Literals) s.literals (map literal_code (literals_in f)))) →
      Forms s text (if_levelled s (read_form (drop at text))) answer
      (Stored s before
      (lent_tables rules₁ literals₁ (before Clauses) (before Loads) (before LoadLiterals) (before Minutes) (before Marks) (before Values)
      (before Levels)))
  unfolding read_as word_of lent_tables store place_in given_anew count_in entries_of literals_in terms_in rule_row clause_row load_row marks_given state_values state_levels view_of of_kind same_kind kind_number
  rule_form_lem rules₁ literals₁ e read =
      lifted_plain (drop at text) (Stored s before _) (read_rule (drop (at + 5) text)) (read_as_lem text at Rule is e)
      (only_rules _ _ λ head ls. refl) (only_rules _ _ λ head ls w. stored_tables s (rule_form head ls) before _ w.0 w.1 refl refl refl refl refl refl (no_levels s (before Levels))) read

  pub clause_form_lem :
      (literals₁ clauses₁ : List ℕ) → result ≡ Clause →
      Forms s text (read_clause (drop (at + 7) text)) answer (λ f.
      (clauses₁ ≡ sets (before Clauses) s.clauses (clause_row s f)) ×
      (literals₁ ≡ sets (before Literals) s.literals (map literal_code (literals_in f)))) →
      Forms s text (if_levelled s (read_form (drop at text))) answer
      (Stored s before
      (lent_tables (before Rules) literals₁ clauses₁ (before Loads) (before LoadLiterals) (before Minutes) (before Marks) (before Values)
      (before Levels)))
  unfolding read_as word_of lent_tables store place_in given_anew count_in entries_of literals_in terms_in rule_row clause_row load_row marks_given state_values state_levels view_of of_kind same_kind kind_number
  clause_form_lem literals₁ clauses₁ e read =
      lifted_plain (drop at text) (Stored s before _) (read_clause (drop (at + 7) text)) (read_as_lem text at Clause is e)
      (only_clauses _ _ λ ls. refl) (only_clauses _ _ λ ls w. stored_tables s (clause_form ls) before _ refl w.1 w.0 refl refl refl refl refl (no_levels s (before Levels))) read

  pub load_form_lem :
      (loads₁ : List ℤ) (loadLiterals₁ : List ℕ) (minutes₁ : List ℤ) → result ≡ Load →
      Forms s text (read_load (drop (at + 5) text)) answer (λ f.
      (loads₁ ≡ sets (before Loads) s.loads (load_row s f))
      × (loadLiterals₁ ≡ sets (before LoadLiterals) s.terms (map (λ (t : TermText). literal_code t.literal) (terms_in f)))
      × (minutes₁ ≡ sets (before Minutes) s.terms (map (λ (t : TermText). t.minutes) (terms_in f)))) →
      Forms s text (if_levelled s (read_form (drop at text))) answer
      (Stored s before
      (lent_tables (before Rules) (before Literals) (before Clauses) loads₁ loadLiterals₁ minutes₁ (before Marks) (before Values)
      (before Levels)))
  unfolding read_as word_of lent_tables store place_in given_anew count_in entries_of literals_in terms_in rule_row clause_row load_row marks_given state_values state_levels view_of of_kind same_kind kind_number
  load_form_lem loads₁ loadLiterals₁ minutes₁ e read =
      lifted_plain (drop at text) (Stored s before _) (read_load (drop (at + 5) text)) (read_as_lem text at Load is e)
      (only_loads _ _ λ lo hi ts. refl) (only_loads _ _ λ lo hi ts w. stored_tables s (load_form lo hi ts) before _ refl refl refl w.0 w.1 w.2 refl refl (no_levels s (before Levels))) read

  pub open_form_lem :
      (values₁ : List ℕ) → result ≡ Open →
      Forms s text (read_open (drop (at + 5) text)) answer (λ f. values₁ ≡ sets (before Values) 0 (state_values s f)) →
      Forms s text (if_levelled s (read_form (drop at text))) answer
      (Stored s before
      (lent_tables (before Rules) (before Literals) (before Clauses) (before Loads) (before LoadLiterals) (before Minutes) (before Marks) values₁
      (before Levels)))
  unfolding read_as word_of lent_tables store place_in given_anew count_in entries_of literals_in terms_in rule_row clause_row load_row marks_given state_values state_levels view_of of_kind same_kind kind_number
  open_form_lem values₁ e read =
      lifted_plain (drop at text) (Stored s before _) (read_open (drop (at + 5) text)) (read_as_lem text at Open is e)
      (only_open _ _ λ atoms. refl) (only_open _ _ λ atoms w. stored_tables s (open_form atoms) before _ refl refl refl refl refl refl refl w (no_levels s (before Levels))) read

  pub claim_form_lem :
      (values₁ levels₁ : List ℕ) → result ≡ Claim →
      Forms s text (if_levelled s (read_claim (drop (at + 6) text))) answer (λ f.
      (values₁ ≡ sets (before Values) 0 (state_values s f)) × (levels₁ ≡ sets (before Levels) 0 (state_levels s f))) →
      Forms s text (if_levelled s (read_form (drop at text))) answer
      (Stored s before
      (lent_tables (before Rules) (before Literals) (before Clauses) (before Loads) (before LoadLiterals)
      (before Minutes) (before Marks) values₁ levels₁))
  unfolding read_as word_of lent_tables store place_in given_anew count_in entries_of literals_in terms_in rule_row clause_row load_row marks_given state_values state_levels view_of of_kind same_kind kind_number
  claim_form_lem values₁ levels₁ e read =
      lifted (drop at text) (Stored s before _) (read_claim (drop (at + 6) text)) (read_as_lem text at Claim is e)
      (only_claims _ _ λ ps w. stored_tables s (claim_form ps) before _ refl refl refl refl refl refl refl w.0 w.1) read
