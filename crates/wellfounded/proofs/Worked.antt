-- Small definitions with their stages, models and claims, all computed.
-- Assumes nothing.
use Prim.Native.Nat.{ℕ}
use mathlib.Core.Path.{◌≡◌, refl}
use mathlib.Core.Bool.{Bool, true, false}
use mathlib.Core.List.{List, [], ◌∷◌}
use lib.Dec.{eqb}
use Rattle.wellfounded.specs.Lists.{all, any, tabulate, iterate, all_below, count, least, same}
use Rattle.wellfounded.specs.Literals.{is_false, is_true, is_held, value_at, atom_of, is_positive, is_negated, literal_true, literal_false, body_true}
use Rattle.wellfounded.specs.Definitions.{Rule, Definition, is_defined, is_open, defined_count, some_rule, every_rule, fires}
use Rattle.wellfounded.specs.Unfounded.{rests_on, member, obstructed, shrink, largest}
use Rattle.wellfounded.specs.Stages.{stage_zero, next_value, next, stage, closure, well_founded_model, stage_of, stages_of}
use Rattle.wellfounded.specs.Levels.{level_at, supports, blocks, level_in_range, is_supported, is_blocked, obeys_at, accepts}

-- A rule by its head and its body, in which 2a is the atom a and 2a + 1 its negation.
unfoldable pub rule : ℕ → List ℕ → Rule
rule head body = record { head = head; body = body }

unfoldable pub heads_some : List Rule → ℕ → Bool
heads_some rules atom = any (λ r. eqb r.head atom) rules

-- The definition with these rules: it defines the atoms that head one.
unfoldable pub defining : ℕ → List Rule → Definition
unfolding heads_some
defining size rules = record { size = size; defined = heads_some rules; rules = rules }

-- `unfolding valuing` opens what every example computes with, `unfolding staging` the stages, `unfolding claiming` the level rules.
valuing : Unit {0}
unfolding all any count is_false is_true value_at atom_of is_positive is_negated literal_true literal_false is_defined defined_count some_rule every_rule
valuing = tt

staging : Unit {0}
unfolding valuing tabulate iterate least same is_held body_true fires rests_on member obstructed shrink largest stage_zero next_value next stage closure
    well_founded_model stage_of stages_of
staging = tt

claiming : Unit {0}
unfolding valuing all_below is_open level_at supports blocks level_in_range is_supported is_blocked obeys_at accepts
claiming = tt

-- Book A: 1 from 0; 1 from 2; 2 from 1; 3 from not 1. Atom 0 is open.
unfoldable pub book_a : Definition
unfolding rule defining
book_a = defining 4 (rule 1 (0 ∷ []) ∷ rule 1 (4 ∷ []) ∷ rule 2 (2 ∷ []) ∷ rule 3 (3 ∷ []) ∷ [])

-- With 0 false, stage 0 leaves 1 and 2 nothing to rest on but each other: they are unfounded, and 3 is not.
pub book_a_unfounded : largest book_a (0 ∷ 2 ∷ 2 ∷ 2 ∷ []) ≡ (false ∷ true ∷ true ∷ false ∷ [])
unfolding book_a staging
book_a_unfounded = refl

-- So stage 1 makes them false, and stage 2 makes 3 true.
pub book_a_stages :
    tabulate 3 (stage book_a (0 ∷ 0 ∷ 0 ∷ 0 ∷ [])) ≡ ((0 ∷ 2 ∷ 2 ∷ 2 ∷ []) ∷ (0 ∷ 0 ∷ 0 ∷ 2 ∷ []) ∷ (0 ∷ 0 ∷ 0 ∷ 1 ∷ []) ∷ [])
unfolding book_a staging
book_a_stages = refl

pub book_a_model :
    (closure book_a (0 ∷ 0 ∷ 0 ∷ 0 ∷ []) ≡ 2) × (well_founded_model book_a (0 ∷ 0 ∷ 0 ∷ 0 ∷ []) ≡ (0 ∷ 0 ∷ 0 ∷ 1 ∷ [])) ×
    (stages_of book_a (0 ∷ 0 ∷ 0 ∷ 0 ∷ []) ≡ (0 ∷ 1 ∷ 1 ∷ 2 ∷ []))
unfolding book_a staging
book_a_model = (refl, refl, refl)

-- With 0 true, 1 is true at stage 1; then 2 follows from it, and 3 is left without a rule that could hold.
pub book_a_model_0 :
    (closure book_a (1 ∷ 0 ∷ 0 ∷ 0 ∷ []) ≡ 2) × (well_founded_model book_a (1 ∷ 0 ∷ 0 ∷ 0 ∷ []) ≡ (1 ∷ 1 ∷ 1 ∷ 0 ∷ [])) ×
    (stages_of book_a (1 ∷ 0 ∷ 0 ∷ 0 ∷ []) ≡ (0 ∷ 1 ∷ 2 ∷ 2 ∷ []))
unfolding book_a staging
book_a_model_0 = (refl, refl, refl)

-- The model with its stages for levels is accepted. Values in which 1 and 2 hold each other up are not, whichever has the lower level.
pub book_a_claims :
    (accepts book_a (0 ∷ 0 ∷ 0 ∷ 1 ∷ []) (0 ∷ 1 ∷ 1 ∷ 2 ∷ []) ∷ accepts book_a (0 ∷ 1 ∷ 1 ∷ 0 ∷ []) (0 ∷ 1 ∷ 2 ∷ 2 ∷ []) ∷
    accepts book_a (0 ∷ 1 ∷ 1 ∷ 0 ∷ []) (0 ∷ 2 ∷ 1 ∷ 2 ∷ []) ∷ []) ≡ (true ∷ false ∷ false ∷ [])
unfolding book_a claiming
book_a_claims = refl

-- 0 from not 0: it stays undecided.
unfoldable pub book_p5 : Definition
unfolding rule defining
book_p5 = defining 1 (rule 0 (1 ∷ []) ∷ [])

pub book_p5_model : (closure book_p5 (0 ∷ []) ≡ 0) × (well_founded_model book_p5 (0 ∷ []) ≡ (2 ∷ [])) × (stages_of book_p5 (0 ∷ []) ≡ (0 ∷ []))
unfolding book_p5 staging
book_p5_model = (refl, refl, refl)

-- 0 from 0: it is false.
unfoldable pub book_p6 : Definition
unfolding rule defining
book_p6 = defining 1 (rule 0 (0 ∷ []) ∷ [])

pub book_p6_model : (closure book_p6 (0 ∷ []) ≡ 1) × (well_founded_model book_p6 (0 ∷ []) ≡ (0 ∷ [])) × (stages_of book_p6 (0 ∷ []) ≡ (1 ∷ []))
unfolding book_p6 staging
book_p6_model = (refl, refl, refl)

-- 0 from not 1; 1 from not 0: both stay undecided.
unfoldable pub book_p8 : Definition
unfolding rule defining
book_p8 = defining 2 (rule 0 (3 ∷ []) ∷ rule 1 (1 ∷ []) ∷ [])

pub book_p8_model :
    (closure book_p8 (0 ∷ 0 ∷ []) ≡ 0) × (well_founded_model book_p8 (0 ∷ 0 ∷ []) ≡ (2 ∷ 2 ∷ [])) ×
    (stages_of book_p8 (0 ∷ 0 ∷ []) ≡ (0 ∷ 0 ∷ []))
unfolding book_p8 staging
book_p8_model = (refl, refl, refl)

-- 0 true and 1 false agree with both rules. No levels justify them: each atom's would have to be below the other's.
pub book_p8_claims :
    (accepts book_p8 (1 ∷ 0 ∷ []) (1 ∷ 1 ∷ []) ∷ accepts book_p8 (1 ∷ 0 ∷ []) (1 ∷ 2 ∷ []) ∷ accepts book_p8 (1 ∷ 0 ∷ []) (2 ∷ 1 ∷ []) ∷
    accepts book_p8 (1 ∷ 0 ∷ []) (2 ∷ 2 ∷ []) ∷ []) ≡ (false ∷ false ∷ false ∷ false ∷ [])
unfolding book_p8 claiming
book_p8_claims = refl

-- 0 from not 0; 1 from nothing; 2 from not 0 and not 1.
unfoldable pub book_mixed : Definition
unfolding rule defining
book_mixed = defining 3 (rule 0 (1 ∷ []) ∷ rule 1 [] ∷ rule 2 (1 ∷ 3 ∷ []) ∷ [])

-- 0 is undecided for ever. 2 becomes false all the same, a stage after 1 becomes true.
pub book_mixed_model :
    (closure book_mixed (0 ∷ 0 ∷ 0 ∷ []) ≡ 2) × (well_founded_model book_mixed (0 ∷ 0 ∷ 0 ∷ []) ≡ (2 ∷ 1 ∷ 0 ∷ [])) ×
    (stages_of book_mixed (0 ∷ 0 ∷ 0 ∷ []) ≡ (0 ∷ 1 ∷ 2 ∷ []))
unfolding book_mixed staging
book_mixed_model = (refl, refl, refl)
