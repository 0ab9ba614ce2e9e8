-- What a form says, part by part. Whatever is asked of a form but its bytes is asked of its view.
use Rattle.std.specs.Prelude.{ℕ, Bool, List, [], ◌∷◌, eqb, ℤ, pos}
use Rattle.format.specs.declared.kinds.Kind.{Kind}
use Rattle.format.specs.declared.kinds.Kind.TheVariants.{Atoms, Rule, Clause, Load, Open, Claim, Defined}
use Rattle.format.specs.Forms.{LiteralText, TermText, PairText}
use Rattle.format.specs.Forms.{Form, atoms_form, rule_form, clause_form, load_form, open_form, claim_form, defined_form}

-- The kind of a form, its numbers and what it lists; what a form does not have is 0 or empty.
pub record View : Type 0 where
  pub kind : Kind
  pub size : ℕ
  pub head : ℕ
  pub low : ℤ
  pub high : ℤ
  pub literals : List LiteralText
  pub terms : List TermText
  pub atoms : List ℕ
  pub pairs : List PairText

unfoldable pub view_of : Form → View
view_of (atoms_form n) =
    record { kind = Atoms; size = n; head = 0; low = pos 0; high = pos 0; literals = []; terms = []; atoms = []; pairs = [] }
view_of (rule_form h ls) =
    record { kind = Rule; size = 0; head = h; low = pos 0; high = pos 0; literals = ls; terms = []; atoms = []; pairs = [] }
view_of (clause_form ls) =
    record { kind = Clause; size = 0; head = 0; low = pos 0; high = pos 0; literals = ls; terms = []; atoms = []; pairs = [] }
view_of (load_form lo hi ts) =
    record { kind = Load; size = 0; head = 0; low = lo; high = hi; literals = []; terms = ts; atoms = []; pairs = [] }
view_of (open_form atoms) =
    record { kind = Open; size = 0; head = 0; low = pos 0; high = pos 0; literals = []; terms = []; atoms = atoms; pairs = [] }
view_of (claim_form ps) =
    record { kind = Claim; size = 0; head = 0; low = pos 0; high = pos 0; literals = []; terms = []; atoms = []; pairs = ps }
view_of (defined_form atom others) =
    record { kind = Defined; size = 0; head = 0; low = pos 0; high = pos 0; literals = []; terms = []; atoms = atom ∷ others; pairs = [] }

abbrev pub kind_in : Form → Kind
kind_in f = (view_of f).kind

-- Kinds are told apart by their numbers.
unfoldable pub kind_number : Kind → ℕ
kind_number Atoms = 1
kind_number Rule = 2
kind_number Clause = 3
kind_number Load = 4
kind_number Open = 5
kind_number Claim = 6
kind_number Defined = 7

unfoldable pub same_kind : Kind → Kind → Bool
same_kind k l = eqb (kind_number k) (kind_number l)

unfoldable pub of_kind : Kind → Form → Bool
of_kind k f = same_kind (kind_in f) k
