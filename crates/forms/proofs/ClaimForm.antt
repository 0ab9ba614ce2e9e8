-- `(claim (V K ..) ..)`: a list that is missing refuses the form, and so does a pair without a level for each group; else the list completes it.
-- Assumes nothing.
use Prim.Native.Nat.{ℕ}
use mathlib.Core.Path.{◌≡◌, refl, sym, ◌∙◌}
use mathlib.Core.Bool.{true, false, ◌&&◌}
use mathlib.Core.List.{List}
use native.Mathlib.Omega.{arith}
use lib.Dec.{leb}
use lib.ListN.{length, drop}
use borrow.Author.Tests.{eqb-true}
use Rattle.std.specs.Prelude.{Option, None, Some}
use Rattle.wellfounded.specs.Lists.{all}
use Rattle.wellfounded.proofs.Tests.{first, second}
use Rattle.tables.specs.Limits.{max_atoms}
use Rattle.format.specs.declared.kinds.Kind.TheVariants.{Claim}
use Rattle.format.specs.Forms.{PairText, Form, claim_form}
use Rattle.format.specs.Views.{view_of, of_kind, same_kind, kind_number}
use Rattle.format.specs.Parse.{got, and_then, parts, read_pair}
use Rattle.format.specs.Parse.{read_claim}
use Rattle.numerals.proofs.CappedLaws.{capped_small}
use Rattle.judging.specs.declared.reached.Reached.{Reached}
use Rattle.judging.specs.States.{groups_reached}
use Rattle.judging.specs.Judging.{pair_within, may_follow, rises_from, parts_in_order, in_order, bound_within, numbers_within, levels_for, levelled, if_levelled}
use Rattle.judging.specs.internal.Shapes.{capped_rise, parts_in, shape_of}
use Rattle.lists.specs.declared.Parts.{Parts}
use Rattle.lists.specs.internal.Lists.{parts_of, Lists}
use Rattle.forms.specs.internal.Readers.{Forms}
use Rattle.forms.proofs.Gathered.{gathered, gathered_none}
use Rattle.forms.proofs.FormLaws.{form_none, form_got}

-- Its numbers within their limits.
claim_numbers : (s : Reached) (ps : List PairText) → numbers_within s (claim_form ps) ≡ (all pair_within ps && leb (length ps) max_atoms)
unfolding numbers_within view_of bound_within all
claim_numbers s ps = refl

claim_got : (bs : List ℕ) {ps : List PairText} {rest : List ℕ} → parts read_pair bs ≡ got ps rest → read_claim bs ≡ got (claim_form ps) rest
unfolding read_claim and_then
claim_got bs e = rw e

claim_shape :
    (s : Reached) (ps : List PairText) {told : Parts} → told ≡ parts_of pair_within (all (levels_for (groups_reached s))) ps →
    record { kind = Claim; size = 0; parts = told.count; within = told.within && leb told.count max_atoms; rising = true } ≡ shape_of s (claim_form ps)
unfolding parts_of shape_of parts_in view_of same_kind kind_number capped_rise rises_from
claim_shape s ps t = rw (t, capped_small 0 (omega arith), claim_numbers)

-- Its levels, and in order it has a pair for each atom.
claim_levelled : (s : Reached) (ps : List PairText) → levelled s (claim_form ps) ≡ all (levels_for (groups_reached s)) ps
unfolding levelled view_of
claim_levelled s ps = refl

claim_pairs : (s : Reached) (ps : List PairText) → in_order s (claim_form ps) ≡ true → length ps ≡ s.size
unfolding in_order parts_in_order rises_from view_of of_kind same_kind kind_number
claim_pairs s ps h = eqb-true (length ps) s.size (second (may_follow Claim s.phase) _ h)

module _ {s : Reached} {text : List ℕ} (at : ℕ) {answer : Option (Parts × ℕ)} {P : List PairText → Type 0} {W : Form → Type 0}
    (list : Lists text pair_within (all (levels_for (groups_reached s))) (parts read_pair (drop at text)) answer P) where
  pub claim_listless : answer ≡ None → Forms s text (if_levelled s (read_claim (drop at text))) None W
  unfolding read_claim and_then if_levelled
  claim_listless e = form_none s text (rw (gathered_none list e))

  module _ {told : Parts} {end : ℕ} (e : answer ≡ Some (told, end)) where
    pub claim_unlevelled : told.ordered ≡ false → Forms s text (if_levelled s (read_claim (drop at text))) None W
    unfolding if_levelled
    claim_unlevelled h =
        let g = gathered list e in
        form_none s text (rw (claim_got (drop at text) g.reads, claim_levelled s g.xs ∙ (sym g.rises ∙ h)))

    pub claim_formed :
        told.ordered ≡ true → ((ps : List PairText) → length ps ≡ s.size → P ps → W (claim_form ps)) →
        Forms s text (if_levelled s (read_claim (drop at text)))
        (Some (record { kind = Claim; size = 0; parts = told.count; within = told.within && leb told.count max_atoms; rising = true }, end)) W
    unfolding if_levelled
    claim_formed h w =
        let g = gathered list e in
        let read : if_levelled s (read_claim (drop at text)) ≡ got (claim_form g.xs) g.rest =
        rw (claim_got (drop at text) g.reads, claim_levelled s g.xs ∙ (sym g.rises ∙ h)) in
        form_got s text (claim_form g.xs) g.rest read (claim_shape s g.xs g.tells) g.ended
        (λ good. w g.xs (claim_pairs s g.xs good.ordered) (g.laid (first _ _ (rw claim_numbers at good.within))))
