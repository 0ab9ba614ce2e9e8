-- Laws of a round: what it does with an atom, as the code tests it, and with one atom after the other.
-- Assumes nothing.
use Prim.Native.Nat.{ℕ, ◌+◌, ◌≤◌, ◌<◌}
use mathlib.Core.Path.{◌≡◌, refl, sym, ◌∙◌}
use mathlib.Core.Bool.{Bool, true, false, cond, ◌||◌}
use mathlib.Core.List.{List}
use native.Mathlib.Numerals.{add-one}
use native.Mathlib.Omega.{arith}
use lib.Dec.{eqb}
use lib.ListN.{length, get_or, set}
use lib.Seq.{set-get_or}
use borrow.Author.Tests.{lt-ltb, le-ltb, ne_eqb}
use Rattle.wellfounded.specs.Lists.{any_below, count}
use Rattle.wellfounded.specs.Literals.{is_held, value_at}
use Rattle.tables.specs.internal.Marks.{is_marked}
use Rattle.rounds.specs.internal.Deciding.{decides, negated_becomes_true, decided_value, decided_level, decided_values, decided_levels, Decidable, AtomDecided, RoundDecided}
use Rattle.wellfounded.proofs.Literals.{held_at, value_at_lem}
use Rattle.wellfounded.proofs.InPlace.{Written, written_start, written_turn, written_end}

-- An undecided atom is not held.
not_held_lem : (state : List ℕ) (atom : ℕ) → atom < length state → 2 ≤ get_or state atom 0 → is_held (value_at state atom) ≡ false
not_held_lem state atom within undecided = held_at state atom within ∙ le-ltb _ _ undecided

-- An atom as the code decides it: held, firing, not founded, or none of these.
module _
    {level : ℕ} {founded negated firing state levels : List ℕ} {atom : ℕ} (within : atom < length state)
  where
    pub atom_held : get_or state atom 0 < 2 → AtomDecided level founded negated firing state levels atom 0 false state levels
    unfolding decides negated_becomes_true
    atom_held held =
        let h : is_held (value_at state atom) ≡ true = held_at state atom within ∙ lt-ltb _ _ held in
        record { many = rw h; again = rw h; value = rw (h, value_at_lem state atom within) (sym (set-get_or state atom 0)); stage = rw h (sym (set-get_or levels atom 0)) }

    module _ (undecided : 2 ≤ get_or state atom 0) where
      pub atom_fires :
          get_or firing atom 0 ≡ 1 →
          AtomDecided level founded negated firing state levels atom 1 (eqb (get_or negated atom 0) 1) (set state atom 1)
          (set levels atom level)
      unfolding decides negated_becomes_true is_marked
      atom_fires fires = let lacks = not_held_lem state atom within undecided in record { many = rw (lacks, fires); again = rw (lacks, fires); value = rw (lacks, fires); stage = rw (lacks, fires) }

      module _ (quiet : get_or firing atom 0 ≡ 1 → ⊥) where
        pub atom_unfounded :
            (get_or founded atom 0 ≡ 1 → ⊥) →
            AtomDecided level founded negated firing state levels atom 1 false (set state atom 0) (set levels atom level)
        unfolding decides negated_becomes_true is_marked
        atom_unfounded none =
            let lacks = not_held_lem state atom within undecided in
            let f = ne_eqb _ _ quiet in
            let g = ne_eqb _ _ none in
            record { many = rw (lacks, f, g); again = rw (lacks, f); value = rw (lacks, f, g); stage = rw (lacks, f, g) }

        pub atom_left : get_or founded atom 0 ≡ 1 → AtomDecided level founded negated firing state levels atom 0 false state levels
        unfolding decides negated_becomes_true is_marked
        atom_left founds =
            let lacks = not_held_lem state atom within undecided in
            let f = ne_eqb _ _ quiet in
            record {
              many = rw (lacks, f, founds);
              again = rw (lacks, f);
              value = rw (lacks, f, founds, value_at_lem state atom within) (sym (set-get_or state atom 0));
              stage = rw (lacks, f, founds) (sym (set-get_or levels atom 0));
            }

one_small : {n : ℕ} (b : Bool) → n ≡ cond b 1 0 → n ≤ 1
one_small true e = omega arith
one_small false e = omega arith

pub atom_small :
    {level : ℕ} {founded negated firing state levels : List ℕ} {atom decided : ℕ} {renewed : Bool} {state' levels' : List ℕ} →
    AtomDecided level founded negated firing state levels atom decided renewed state' levels' → decided ≤ 1
atom_small {founded = founded} {firing = firing} {state = state} {atom = atom} a = one_small (decides state firing founded atom) a.many

-- The decisions of a round have come to an atom: those before it are made, the others are as they were.
pub record Deciding (level : ℕ) (founded negated firing values levels : List ℕ) (decided : ℕ) (renewed : Bool) (values' levels' : List ℕ) (atom : ℕ) : Type 0 where
  pub many : decided ≡ count atom (decides values firing founded)
  pub again : renewed ≡ any_below atom (negated_becomes_true values firing negated)
  pub valued : Written (decided_value values firing founded) values atom values'
  pub levelled : Written (decided_level level values firing founded levels) levels atom levels'

module _ {level : ℕ} {founded negated firing values levels : List ℕ} (room : Decidable founded negated firing values levels) where
  pub deciding_start : Deciding level founded negated firing values levels 0 false values levels 0
  unfolding count any_below
  deciding_start = record { many = refl; again = refl; valued = written_start; levelled = written_start }

  -- The slices have kept their lengths.
  pub deciding_room :
      {decided atom : ℕ} {renewed : Bool} {values' levels' : List ℕ} →
      Deciding level founded negated firing values levels decided renewed values' levels' atom →
      Decidable founded negated firing values' levels'
  deciding_room w =
      record {
        founded_room = rw w.valued.long room.founded_room;
        negated_room = rw w.valued.long room.negated_room;
        firing_room = rw w.valued.long room.firing_room;
        levels_long = w.levelled.long ∙ room.levels_long ∙ sym w.valued.long;
      }

  pub deciding_turn :
      {decided more atom : ℕ} {renewed again : Bool} {values' levels' values'' levels'' : List ℕ} → atom < length values →
      AtomDecided level founded negated firing values' levels' atom more again values'' levels'' →
      Deciding level founded negated firing values levels decided renewed values' levels' atom →
      Deciding level founded negated firing values levels (decided + more) (renewed || again) values'' levels'' (atom + 1)
  unfolding count any_below decides negated_becomes_true
  deciding_turn {decided} {more} {atom} {renewed} {again} {values'} {levels'} within here w =
      record {
        many = rw (add-one atom, ← value) (omega (arith, w.many, here.many));
        again = rw (add-one atom, ← value, ← here.again, ← w.again);
        valued = rw here.value (written_turn within (rw value) w.valued);
        levelled = rw here.stage (written_turn (omega (arith, room.levels_long)) (rw (value, level_left)) w.levelled);
      }
    where
      value : value_at values' atom ≡ value_at values atom
      value = value_at_lem values' atom (omega (arith, w.valued.long)) ∙ w.valued.left atom (omega arith) ∙ sym (value_at_lem values atom within)

      level_left : get_or levels' atom 0 ≡ get_or levels atom 0
      level_left = w.levelled.left atom (omega arith)

  pub deciding_end :
      {decided atom : ℕ} {renewed : Bool} {values' levels' : List ℕ} → length values ≤ atom →
      Deciding level founded negated firing values levels decided renewed values' levels' atom →
      RoundDecided level founded negated firing values levels decided renewed values' levels'
  unfolding decided_values decided_levels
  deciding_end {decided} {atom} end w =
      let e : atom ≡ length values = omega (arith, w.valued.low) in
      record {
        changes = record { many = rw (← e) w.many; again = rw (← e) w.again };
        values = written_end end w.valued;
        stages = written_end (omega (arith, room.levels_long)) w.levelled;
      }
