-- The sequence of a book by the phases: forms that may follow each other up to a state form are in sequence, and the other way round.
-- Assumes nothing.
use Prim.Native.Nat.{◌≤◌}
use mathlib.Core.Path.{◌≡◌, refl, ap, ◌∙◌}
use mathlib.Core.Logic.{⊎_elim}
use mathlib.Core.Bool.{Bool, true, false, ◌&&◌}
use mathlib.Core.List.{List, [], ◌∷◌, ◌++◌}
use native.Mathlib.Omega.{arith}
use lib.Dec.{leb}
use lib.ListN.{length}
use borrow.Author.Tests.{eqb-true, leb-true, le-leb}
use Rattle.wellfounded.specs.Lists.{all}
use Rattle.wellfounded.proofs.Tests.{both, first, second, either, or_left, or_right, clash}
use Rattle.format.specs.declared.kinds.Kind.{Kind}
use Rattle.format.specs.declared.kinds.Kind.TheVariants.{Atoms, Rule, Clause, Load, Open, Claim, Defined}
use Rattle.format.specs.Forms.{Form}
use Rattle.format.specs.Views.{kind_in, kind_number, same_kind, of_kind}
use Rattle.format.proofs.ViewLaws.{same_kind_lem, of_kind_lem, kind_of_lem}
use Rattle.judging.specs.declared.reached.Reached.{Reached}
use Rattle.judging.specs.declared.reached.Phase.{Phase}
use Rattle.judging.specs.declared.reached.Phase.TheVariants.{NothingYet, AtomsStood, InRules, InClauses, InLoads, OpenStood}
use Rattle.judging.specs.States.{rank, start, phase_after, advanced, after}
use Rattle.judging.specs.Judging.{between, may_follow}
use Rattle.judging.specs.Books.{is_state, InSequence}

-- Each form may follow the one before, and the last tells the state.
unfoldable pub follows : Reached → List Form → Bool
follows s [] = leb (rank OpenStood) (rank s.phase)
follows s (f ∷ fs) = may_follow (kind_in f) s.phase && follows (after s f) fs

module _ (low high p : Phase) where
  pub between_use : between low high p ≡ true → (rank low ≤ rank p) × (rank p ≤ rank high)
  unfolding between
  between_use h = (leb-true _ _ (first (leb (rank low) (rank p)) _ h), leb-true _ _ (second (leb (rank low) (rank p)) _ h))

  between_make : rank low ≤ rank p → rank p ≤ rank high → between low high p ≡ true
  unfolding between
  between_make l h = both (leb (rank low) (rank p)) _ (le-leb _ _ l) (le-leb _ _ h)

-- What it says of a phase that a form of some kind may follow in it: no state form stood; an atoms form stood before all other forms, and only
-- there may one follow; and a defined form may follow only right after it.
pub record Followed (k : Kind) (p : Phase) : Type 0 where
  pub early : rank p ≤ rank InLoads
  pub onwards : rank AtomsStood ≤ rank (phase_after k)
  pub no_atoms : rank AtomsStood ≤ rank p → same_kind k Atoms ≡ false
  pub later : same_kind k Atoms ≡ false → rank AtomsStood ≤ rank p
  pub no_defined : rank InRules ≤ rank p → same_kind k Defined ≡ false

stands_between :
    (k : Kind) (top p : Phase) → rank top ≤ rank InLoads → between AtomsStood top p ≡ true → rank AtomsStood ≤ rank (phase_after k) →
    same_kind k Atoms ≡ false → same_kind k Defined ≡ false → Followed k p
stands_between k top p l h on no_atoms no_defined =
    let k = between_use AtomsStood top p h in
    record { early = omega arith; onwards = on; no_atoms = λ b. no_atoms; later = λ e. k.0; no_defined = λ b. no_defined }

pub may_follow_lem : (k : Kind) (p : Phase) → may_follow k p ≡ true → Followed k p
unfolding may_follow phase_after same_kind kind_number
may_follow_lem Atoms p h =
    let first = eqb-true (rank p) (rank NothingYet) h in
    record {
      early = omega arith;
      onwards = omega arith;
      no_atoms = λ b. absurd (omega arith);
      later = λ e. absurd (clash refl e);
      no_defined = λ b. refl;
    }
may_follow_lem Rule p h = stands_between Rule InRules p (omega arith) h (omega arith) refl refl
may_follow_lem Clause p h = stands_between Clause InClauses p (omega arith) h (omega arith) refl refl
may_follow_lem Load p h = stands_between Load InLoads p (omega arith) h (omega arith) refl refl
may_follow_lem Open p h = stands_between Open InLoads p (omega arith) h (omega arith) refl refl
may_follow_lem Claim p h = stands_between Claim InLoads p (omega arith) h (omega arith) refl refl
may_follow_lem Defined p h =
    let right = eqb-true (rank p) (rank AtomsStood) h in
    record {
      early = omega arith;
      onwards = omega arith;
      no_atoms = λ b. refl;
      later = λ e. omega arith;
      no_defined = λ b. absurd (omega arith);
    }

-- The first form and those after it.
module _ (s : Reached) (f : Form) (fs : List Form) (h : follows s (f ∷ fs) ≡ true) where
  pub follows_here : Followed (kind_in f) s.phase
  unfolding follows
  follows_here = may_follow_lem (kind_in f) s.phase (first (may_follow (kind_in f) s.phase) _ h)

  pub follows_later : follows (after s f) fs ≡ true
  unfolding follows
  follows_later = second (may_follow (kind_in f) s.phase) _ h

  -- Once an atoms form stood, one stands.
  pub phase_on : rank AtomsStood ≤ rank (after s f).phase
  unfolding after advanced
  phase_on = follows_here.onwards

-- Nothing may follow a state form.
pub nothing_after : (s : Reached) (fs : List Form) → rank OpenStood ≤ rank s.phase → follows s fs ≡ true → fs ≡ []
nothing_after s [] l h = refl
nothing_after s (f ∷ fs) l h = let here = follows_here s f fs h in absurd (omega arith)

-- What follows the atoms form and the defined form; no rule stands after a clause, and none of both after a load line.
record Tail (phase : Phase) (fs : List Form) : Type 0 where
  rules : List Form
  clauses : List Form
  loads : List Form
  state : Form
  are_rules : all (of_kind Rule) rules ≡ true
  are_clauses : all (of_kind Clause) clauses ≡ true
  are_loads : all (of_kind Load) loads ≡ true
  tells_state : is_state state ≡ true
  whole : fs ≡ rules ++ (clauses ++ (loads ++ (state ∷ [])))
  no_rules : rank InClauses ≤ rank phase → rules ≡ []
  no_clauses : rank InLoads ≤ rank phase → clauses ≡ []

-- A form before a tail, by its kind.
module _ (f : Form) (fs : List Form) {phase : Phase} where
  rule_tail : rank phase ≤ rank InRules → kind_in f ≡ Rule → Tail InRules fs → Tail phase (f ∷ fs)
  unfolding all
  rule_tail l e k =
      record {
        rules = f ∷ k.rules;
        clauses = k.clauses;
        loads = k.loads;
        state = k.state;
        are_rules = both (of_kind Rule f) _ (kind_of_lem Rule f e) k.are_rules;
        are_clauses = k.are_clauses;
        are_loads = k.are_loads;
        tells_state = k.tells_state;
        whole = ap (λ (gs : List Form). f ∷ gs) k.whole;
        no_rules = (λ b. absurd (omega arith));
        no_clauses = (λ b. absurd (omega arith));
      }

  clause_tail : rank phase ≤ rank InClauses → kind_in f ≡ Clause → Tail InClauses fs → Tail phase (f ∷ fs)
  unfolding all
  clause_tail l e k =
      let later : fs ≡ k.clauses ++ (k.loads ++ (k.state ∷ [])) = rw (k.no_rules (omega arith)) at k.whole in
      record {
        rules = [];
        clauses = f ∷ k.clauses;
        loads = k.loads;
        state = k.state;
        are_rules = refl;
        are_clauses = both (of_kind Clause f) _ (kind_of_lem Clause f e) k.are_clauses;
        are_loads = k.are_loads;
        tells_state = k.tells_state;
        whole = ap (λ (gs : List Form). f ∷ gs) later;
        no_rules = (λ b. refl);
        no_clauses = (λ b. absurd (omega arith));
      }

  load_tail : kind_in f ≡ Load → Tail InLoads fs → Tail phase (f ∷ fs)
  unfolding all
  load_tail e k =
      let later : fs ≡ k.loads ++ (k.state ∷ []) = rw (k.no_rules (omega arith), k.no_clauses (omega arith)) at k.whole in
      record {
        rules = [];
        clauses = [];
        loads = f ∷ k.loads;
        state = k.state;
        are_rules = refl;
        are_clauses = refl;
        are_loads = both (of_kind Load f) _ (kind_of_lem Load f e) k.are_loads;
        tells_state = k.tells_state;
        whole = ap (λ (gs : List Form). f ∷ gs) later;
        no_rules = (λ b. refl);
        no_clauses = (λ b. refl);
      }

  state_tail : is_state f ≡ true → fs ≡ [] → Tail phase (f ∷ fs)
  unfolding all
  state_tail h e =
      record {
        rules = [];
        clauses = [];
        loads = [];
        state = f;
        are_rules = refl;
        are_clauses = refl;
        are_loads = refl;
        tells_state = h;
        whole = ap (λ (gs : List Form). f ∷ gs) e;
        no_rules = (λ b. refl);
        no_clauses = (λ b. refl);
      }

  -- What follows a form is a tail in the phase after it, or nothing follows.
  kind_tail :
      (k : Kind) → kind_in f ≡ k → rank AtomsStood ≤ rank phase → same_kind k Defined ≡ false → may_follow k phase ≡ true →
      (rank InRules ≤ rank (phase_after k) → rank (phase_after k) ≤ rank InLoads → Tail (phase_after k) fs) →
      (rank OpenStood ≤ rank (phase_after k) → fs ≡ []) → Tail phase (f ∷ fs)
  unfolding may_follow phase_after is_state same_kind kind_number
  kind_tail Atoms e low other h more none = absurd (omega (arith, eqb-true (rank phase) (rank NothingYet) h))
  kind_tail Rule e low other h more none = rule_tail (between_use AtomsStood InRules phase h).1 e (more (omega arith) (omega arith))
  kind_tail Clause e low other h more none = clause_tail (between_use AtomsStood InClauses phase h).1 e (more (omega arith) (omega arith))
  kind_tail Load e low other h more none = load_tail e (more (omega arith) (omega arith))
  kind_tail Open e low other h more none = state_tail (or_left (of_kind Open f) _ (kind_of_lem Open f e)) (none (omega arith))
  kind_tail Claim e low other h more none = state_tail (or_right (of_kind Open f) _ (kind_of_lem Claim f e)) (none (omega arith))
  kind_tail Defined e low other h more none = absurd (clash refl other)

form_tail :
    (s : Reached) (f : Form) (fs : List Form) → rank AtomsStood ≤ rank s.phase → same_kind (kind_in f) Defined ≡ false → follows s (f ∷ fs) ≡ true →
    (rank InRules ≤ rank (after s f).phase → rank (after s f).phase ≤ rank InLoads → Tail (after s f).phase fs) → Tail s.phase (f ∷ fs)
unfolding follows after advanced
form_tail s f fs low other h more =
    kind_tail f fs (kind_in f) refl low other (first (may_follow (kind_in f) s.phase) _ h) more
    (λ l. nothing_after (after s f) fs l (follows_later s f fs h))

tail : (s : Reached) (fs : List Form) → rank InRules ≤ rank s.phase → rank s.phase ≤ rank InLoads → follows s fs ≡ true → Tail s.phase fs
unfolding follows
tail s [] low high h = absurd (omega (arith, leb-true (rank OpenStood) (rank s.phase) h))
tail s (f ∷ fs) low high h =
    form_tail s f fs (omega arith) ((follows_here s f fs h).no_defined low) h (λ l u. tail (after s f) fs l u (follows_later s f fs h))

-- What follows the atoms form: at most one defined form, and its tail.
record Later (fs : List Form) : Type 0 where
  defined : List Form
  rest : List Form
  are_defined : all (of_kind Defined) defined ≡ true
  one_defined : length defined ≤ 1
  whole : fs ≡ defined ++ rest
  phase : Phase
  others : Tail phase rest

later : (s : Reached) (fs : List Form) → s.phase ≡ AtomsStood → follows s fs ≡ true → Later fs
unfolding follows all after advanced phase_after
later s [] begun h =
    let early : rank s.phase ≡ rank AtomsStood = rw begun in
    absurd (omega (arith, leb-true (rank OpenStood) (rank s.phase) h))
later s (f ∷ fs) begun h = step (same_kind (kind_in f) Defined) refl
  where
    early : rank s.phase ≡ rank AtomsStood
    early = rw begun

    step : (b : Bool) → same_kind (kind_in f) Defined ≡ b → Later (f ∷ fs)
    step true e =
        let kind = same_kind_lem (kind_in f) Defined e in
        let rules : rank (after s f).phase ≡ rank InRules = rw kind in
        record {
          defined = f ∷ [];
          rest = fs;
          are_defined = both (of_kind Defined f) _ (kind_of_lem Defined f kind) refl;
          one_defined = omega arith;
          whole = refl;
          phase = (after s f).phase;
          others = tail (after s f) fs (omega arith) (omega arith) (follows_later s f fs h);
        }
    step false e =
        record {
          defined = [];
          rest = f ∷ fs;
          are_defined = refl;
          one_defined = omega arith;
          whole = refl;
          phase = s.phase;
          others = form_tail s f fs (omega (arith, early)) e h (λ l u. tail (after s f) fs l u (follows_later s f fs h));
        }

-- Only an atoms form may come first.
first_atoms : (k : Kind) → may_follow k NothingYet ≡ true → k ≡ Atoms
unfolding may_follow
first_atoms k h = step (same_kind k Atoms) refl
  where
    step : (b : Bool) → same_kind k Atoms ≡ b → k ≡ Atoms
    step true e = same_kind_lem k Atoms e
    step false e = let low = (may_follow_lem k NothingYet h).later e in absurd (omega arith)

pub follows_sequence : (fs : List Form) → follows start fs ≡ true → InSequence fs
unfolding follows after advanced start phase_after
follows_sequence [] h = absurd (omega (arith, leb-true (rank OpenStood) (rank NothingYet) h))
follows_sequence (f ∷ fs) h =
    let e : kind_in f ≡ Atoms = first_atoms (kind_in f) (first (may_follow (kind_in f) NothingYet) _ h) in
    let begun : (after start f).phase ≡ AtomsStood = rw e in
    let l = later (after start f) fs begun (second (may_follow (kind_in f) NothingYet) _ h) in
    let k = l.others in
    record {
      atoms = f;
      defined = l.defined;
      rules = k.rules;
      clauses = k.clauses;
      loads = k.loads;
      state = k.state;
      are_atoms = kind_of_lem Atoms f e;
      are_defined = l.are_defined;
      one_defined = l.one_defined;
      are_rules = k.are_rules;
      are_clauses = k.are_clauses;
      are_loads = k.are_loads;
      tells_state = k.tells_state;
      whole = ap (λ (gs : List Form). f ∷ gs) (l.whole ∙ ap (λ (gs : List Form). l.defined ++ gs) k.whole);
    }

-- After an atoms form, up to some phase, forms of one kind may stand before what may follow them.
record Stands (top : Phase) (s : Reached) : Type 0 where
  low : rank AtomsStood ≤ rank s.phase
  high : rank s.phase ≤ rank top

module _ (kind : Kind) (top : Phase) (some : rank AtomsStood ≤ rank top) (leaves : phase_after kind ≡ top) where
  segment :
      ((p : Phase) → between AtomsStood top p ≡ true → may_follow kind p ≡ true) → (rest : List Form) →
      ((s : Reached) → Stands top s → follows s rest ≡ true) → (xs : List Form) → all (of_kind kind) xs ≡ true →
      (s : Reached) → Stands top s → follows s (xs ++ rest) ≡ true
  unfolding follows all after advanced
  segment may rest later [] h s stands = later s stands
  segment may rest later (f ∷ xs) h s stands =
      let e : kind_in f ≡ kind = of_kind_lem kind f (first (of_kind kind f) _ h) in
      let then : rank (after s f).phase ≡ rank top = rw (e, leaves) in
      both (may_follow (kind_in f) s.phase) _ (rw e (may s.phase (between_make AtomsStood top s.phase stands.low stands.high)))
      (segment may rest later xs (second (of_kind kind f) _ h) (after s f) (record { low = omega arith; high = omega arith }))

widened : (low high : Phase) (s : Reached) → rank low ≤ rank high → Stands low s → Stands high s
widened low high s l stands = record { low = stands.low; high = omega (arith, stands.high) }

state_follows : (f : Form) → is_state f ≡ true → (s : Reached) → Stands InLoads s → follows s (f ∷ []) ≡ true
unfolding is_state follows may_follow after advanced phase_after
state_follows f h s stands =
    let may = between_make AtomsStood InLoads s.phase stands.low stands.high in
    ⊎_elim (λ o. rw (of_kind_lem Open f o) (both (between AtomsStood InLoads s.phase) _ may refl))
    (λ c. rw (of_kind_lem Claim f c) (both (between AtomsStood InLoads s.phase) _ may refl)) (either (of_kind Open f) _ h)

atoms_follow :
    (f : Form) (fs : List Form) → of_kind Atoms f ≡ true → ((s : Reached) → s.phase ≡ AtomsStood → follows s fs ≡ true) →
    follows start (f ∷ fs) ≡ true
unfolding follows may_follow after advanced phase_after start
atoms_follow f fs h later =
    let e : kind_in f ≡ Atoms = of_kind_lem Atoms f h in
    let then : (after start f).phase ≡ AtomsStood = rw e in
    both (may_follow (kind_in f) NothingYet) _ (rw e) (later (after start f) then)

-- A defined form or none may stand between the atoms form and what may follow it.
defined_follow :
    (ds rest : List Form) → length ds ≤ 1 → all (of_kind Defined) ds ≡ true → ((s : Reached) → Stands InRules s → follows s rest ≡ true) →
    (s : Reached) → s.phase ≡ AtomsStood → follows s (ds ++ rest) ≡ true
unfolding follows all may_follow after advanced phase_after
defined_follow [] rest few h later s begun =
    let early : rank s.phase ≡ rank AtomsStood = rw begun in
    later s (record { low = omega arith; high = omega arith })
defined_follow (d ∷ []) rest few h later s begun =
    let e : kind_in d ≡ Defined = of_kind_lem Defined d (first (of_kind Defined d) _ h) in
    let then : rank (after s d).phase ≡ rank InRules = rw e in
    both (may_follow (kind_in d) s.phase) _ (rw (e, begun)) (later (after s d) (record { low = omega arith; high = omega arith }))
defined_follow (d ∷ e ∷ ds) rest few h later s begun = absurd (omega arith)

pub sequence_follows : (fs : List Form) → InSequence fs → follows start fs ≡ true
unfolding may_follow phase_after
sequence_follows fs q =
    rw q.whole (atoms_follow q.atoms _ q.are_atoms (defined_follow q.defined _ q.one_defined q.are_defined rules_follow))
  where
    loads_follow : (s : Reached) → Stands InLoads s → follows s (q.loads ++ (q.state ∷ [])) ≡ true
    loads_follow =
        segment Load InLoads (omega arith) refl (λ p b. b) (q.state ∷ []) (state_follows q.state q.tells_state) q.loads q.are_loads

    clauses_follow : (s : Reached) → Stands InClauses s → follows s (q.clauses ++ (q.loads ++ (q.state ∷ []))) ≡ true
    clauses_follow =
        segment Clause InClauses (omega arith) refl (λ p b. b) _ (λ s stands. loads_follow s (widened InClauses InLoads s (omega arith) stands))
        q.clauses q.are_clauses

    rules_follow : (s : Reached) → Stands InRules s → follows s (q.rules ++ (q.clauses ++ (q.loads ++ (q.state ∷ [])))) ≡ true
    rules_follow =
        segment Rule InRules (omega arith) refl (λ p b. b) _ (λ s stands. clauses_follow s (widened InRules InClauses s (omega arith) stands))
        q.rules q.are_rules
