-- Fixed words at an offset of a text, and the kinds of forms that they tell.
use Rattle.std.specs.Prelude.{ℕ, Bool, true, false, cond, ◌&&◌, List, [], ◌∷◌, eqb, drop, Option, None, Some}
use Rattle.format.specs.declared.kinds.Kind.{Kind}
use Rattle.format.specs.declared.kinds.Kind.TheVariants.{Atoms, Rule, Clause, Load, Open, Claim, Defined}
use Rattle.format.specs.Forms.{atoms_word, rule_word, clause_word, load_word, open_word, claim_word, defined_word}

-- Whether bytes begin with a word.
unfoldable pub starts_with : List ℕ → List ℕ → Bool
starts_with [] bytes = true
starts_with (w ∷ ws) [] = false
starts_with (w ∷ ws) (b ∷ bs) = eqb w b && starts_with ws bs

-- Whether a word stands at an offset.
unfoldable pub word_at : List ℕ → ℕ → List ℕ → Bool
word_at text at word = starts_with word (drop at text)

-- The word that forms of a kind begin with; no word is the beginning of another.
unfoldable pub word_of : Kind → List ℕ
word_of Atoms = atoms_word
word_of Rule = rule_word
word_of Clause = clause_word
word_of Load = load_word
word_of Open = open_word
word_of Claim = claim_word
word_of Defined = defined_word

-- The kind of form that some bytes begin with, if a form's word stands there.
unfoldable pub kind_of : List ℕ → Option Kind
kind_of bytes =
    cond (starts_with atoms_word bytes) (Some Atoms)
    (cond (starts_with rule_word bytes) (Some Rule)
    (cond (starts_with clause_word bytes) (Some Clause)
    (cond (starts_with load_word bytes) (Some Load)
    (cond (starts_with open_word bytes) (Some Open)
    (cond (starts_with claim_word bytes) (Some Claim)
    (cond (starts_with defined_word bytes) (Some Defined) None))))))

unfoldable pub kind_at : List ℕ → ℕ → Option Kind
kind_at text at = kind_of (drop at text)
