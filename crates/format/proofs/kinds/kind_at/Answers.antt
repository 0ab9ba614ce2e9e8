-- `format::kinds::kind_at` meets its contract: each word that does not stand here leaves the later kinds.
use mathlib.Core.Path.{◌≡◌, sym, ◌∙◌}
use mathlib.Core.List.{List, [], ◌∷◌}
use Rattle.format.specs.declared.kinds.Kind.{Kind}
use Rattle.format.specs.declared.kinds.Kind.TheVariants.{Rule, Clause, Load, Open, Claim, Defined}
use Rattle.format.specs.Words.{word_of, kind_at}
use Rattle.format.proofs.KindLaws.{first_kind, kind_first, kind_here, kind_later, kind_none}
use Rattle.format.proofs.kinds.kind_at.Goals as goal

pub returns-then-word_at : goal.returns-then-word_at
unfolding word_of
returns-then-word_at c = sym (kind_first _ _ ∙ kind_here _ _ _ _ (sym c.word_at.ensures ∙ c.if-word_at.true))

pub returns-then-word_at-2 : goal.returns-then-word_at-2
unfolding word_of
returns-then-word_at-2 c =
    let Among : List Kind → Type 0 =
    λ ks. kind_at c.args.text.now c.args.at ≡ first_kind c.args.text.now c.args.at ks in
    let past-atoms : Among (Rule ∷ Clause ∷ Load ∷ Open ∷ Claim ∷ Defined ∷ []) =
    kind_first _ _ ∙ kind_later _ _ _ _ (sym c.word_at.ensures ∙ c.if-word_at.false) in
    sym (past-atoms ∙ kind_here _ _ _ _ (sym c.word_at-2.ensures ∙ c.if-word_at-2.true))

pub returns-then-word_at-3 : goal.returns-then-word_at-3
unfolding word_of
returns-then-word_at-3 c =
    let Among : List Kind → Type 0 =
    λ ks. kind_at c.args.text.now c.args.at ≡ first_kind c.args.text.now c.args.at ks in
    let past-atoms : Among (Rule ∷ Clause ∷ Load ∷ Open ∷ Claim ∷ Defined ∷ []) =
    kind_first _ _ ∙ kind_later _ _ _ _ (sym c.word_at.ensures ∙ c.if-word_at.false) in
    let past-rule : Among (Clause ∷ Load ∷ Open ∷ Claim ∷ Defined ∷ []) =
    past-atoms ∙ kind_later _ _ _ _ (sym c.word_at-2.ensures ∙ c.if-word_at-2.false) in
    sym (past-rule ∙ kind_here _ _ _ _ (sym c.word_at-3.ensures ∙ c.if-word_at-3.true))

pub returns-then-word_at-4 : goal.returns-then-word_at-4
unfolding word_of
returns-then-word_at-4 c =
    let Among : List Kind → Type 0 =
    λ ks. kind_at c.args.text.now c.args.at ≡ first_kind c.args.text.now c.args.at ks in
    let past-atoms : Among (Rule ∷ Clause ∷ Load ∷ Open ∷ Claim ∷ Defined ∷ []) =
    kind_first _ _ ∙ kind_later _ _ _ _ (sym c.word_at.ensures ∙ c.if-word_at.false) in
    let past-rule : Among (Clause ∷ Load ∷ Open ∷ Claim ∷ Defined ∷ []) =
    past-atoms ∙ kind_later _ _ _ _ (sym c.word_at-2.ensures ∙ c.if-word_at-2.false) in
    let past-clause : Among (Load ∷ Open ∷ Claim ∷ Defined ∷ []) =
    past-rule ∙ kind_later _ _ _ _ (sym c.word_at-3.ensures ∙ c.if-word_at-3.false) in
    sym (past-clause ∙ kind_here _ _ _ _ (sym c.word_at-4.ensures ∙ c.if-word_at-4.true))

pub returns-then-word_at-5 : goal.returns-then-word_at-5
unfolding word_of
returns-then-word_at-5 c =
    let Among : List Kind → Type 0 =
    λ ks. kind_at c.args.text.now c.args.at ≡ first_kind c.args.text.now c.args.at ks in
    let past-atoms : Among (Rule ∷ Clause ∷ Load ∷ Open ∷ Claim ∷ Defined ∷ []) =
    kind_first _ _ ∙ kind_later _ _ _ _ (sym c.word_at.ensures ∙ c.if-word_at.false) in
    let past-rule : Among (Clause ∷ Load ∷ Open ∷ Claim ∷ Defined ∷ []) =
    past-atoms ∙ kind_later _ _ _ _ (sym c.word_at-2.ensures ∙ c.if-word_at-2.false) in
    let past-clause : Among (Load ∷ Open ∷ Claim ∷ Defined ∷ []) =
    past-rule ∙ kind_later _ _ _ _ (sym c.word_at-3.ensures ∙ c.if-word_at-3.false) in
    let past-load : Among (Open ∷ Claim ∷ Defined ∷ []) =
    past-clause ∙ kind_later _ _ _ _ (sym c.word_at-4.ensures ∙ c.if-word_at-4.false) in
    sym (past-load ∙ kind_here _ _ _ _ (sym c.word_at-5.ensures ∙ c.if-word_at-5.true))

pub returns-then-word_at-6 : goal.returns-then-word_at-6
unfolding word_of
returns-then-word_at-6 c =
    let Among : List Kind → Type 0 =
    λ ks. kind_at c.args.text.now c.args.at ≡ first_kind c.args.text.now c.args.at ks in
    let past-atoms : Among (Rule ∷ Clause ∷ Load ∷ Open ∷ Claim ∷ Defined ∷ []) =
    kind_first _ _ ∙ kind_later _ _ _ _ (sym c.word_at.ensures ∙ c.if-word_at.false) in
    let past-rule : Among (Clause ∷ Load ∷ Open ∷ Claim ∷ Defined ∷ []) =
    past-atoms ∙ kind_later _ _ _ _ (sym c.word_at-2.ensures ∙ c.if-word_at-2.false) in
    let past-clause : Among (Load ∷ Open ∷ Claim ∷ Defined ∷ []) =
    past-rule ∙ kind_later _ _ _ _ (sym c.word_at-3.ensures ∙ c.if-word_at-3.false) in
    let past-load : Among (Open ∷ Claim ∷ Defined ∷ []) =
    past-clause ∙ kind_later _ _ _ _ (sym c.word_at-4.ensures ∙ c.if-word_at-4.false) in
    let past_open : Among (Claim ∷ Defined ∷ []) =
    past-load ∙ kind_later _ _ _ _ (sym c.word_at-5.ensures ∙ c.if-word_at-5.false) in
    sym (past_open ∙ kind_here _ _ _ _ (sym c.word_at-6.ensures ∙ c.if-word_at-6.true))

pub returns-then-word_at-7 : goal.returns-then-word_at-7
unfolding word_of
returns-then-word_at-7 c =
    let Among : List Kind → Type 0 =
    λ ks. kind_at c.args.text.now c.args.at ≡ first_kind c.args.text.now c.args.at ks in
    let past-atoms : Among (Rule ∷ Clause ∷ Load ∷ Open ∷ Claim ∷ Defined ∷ []) =
    kind_first _ _ ∙ kind_later _ _ _ _ (sym c.word_at.ensures ∙ c.if-word_at.false) in
    let past-rule : Among (Clause ∷ Load ∷ Open ∷ Claim ∷ Defined ∷ []) =
    past-atoms ∙ kind_later _ _ _ _ (sym c.word_at-2.ensures ∙ c.if-word_at-2.false) in
    let past-clause : Among (Load ∷ Open ∷ Claim ∷ Defined ∷ []) =
    past-rule ∙ kind_later _ _ _ _ (sym c.word_at-3.ensures ∙ c.if-word_at-3.false) in
    let past-load : Among (Open ∷ Claim ∷ Defined ∷ []) =
    past-clause ∙ kind_later _ _ _ _ (sym c.word_at-4.ensures ∙ c.if-word_at-4.false) in
    let past_open : Among (Claim ∷ Defined ∷ []) =
    past-load ∙ kind_later _ _ _ _ (sym c.word_at-5.ensures ∙ c.if-word_at-5.false) in
    let past-claim : Among (Defined ∷ []) =
    past_open ∙ kind_later _ _ _ _ (sym c.word_at-6.ensures ∙ c.if-word_at-6.false) in
    sym (past-claim ∙ kind_here _ _ _ _ (sym c.word_at-7.ensures ∙ c.if-word_at-7.true))

pub returns : goal.returns
unfolding word_of
returns c =
    let Among : List Kind → Type 0 =
    λ ks. kind_at c.args.text.now c.args.at ≡ first_kind c.args.text.now c.args.at ks in
    let past-atoms : Among (Rule ∷ Clause ∷ Load ∷ Open ∷ Claim ∷ Defined ∷ []) =
    kind_first _ _ ∙ kind_later _ _ _ _ (sym c.word_at.ensures ∙ c.if-word_at.false) in
    let past-rule : Among (Clause ∷ Load ∷ Open ∷ Claim ∷ Defined ∷ []) =
    past-atoms ∙ kind_later _ _ _ _ (sym c.word_at-2.ensures ∙ c.if-word_at-2.false) in
    let past-clause : Among (Load ∷ Open ∷ Claim ∷ Defined ∷ []) =
    past-rule ∙ kind_later _ _ _ _ (sym c.word_at-3.ensures ∙ c.if-word_at-3.false) in
    let past-load : Among (Open ∷ Claim ∷ Defined ∷ []) =
    past-clause ∙ kind_later _ _ _ _ (sym c.word_at-4.ensures ∙ c.if-word_at-4.false) in
    let past_open : Among (Claim ∷ Defined ∷ []) =
    past-load ∙ kind_later _ _ _ _ (sym c.word_at-5.ensures ∙ c.if-word_at-5.false) in
    let past-claim : Among (Defined ∷ []) =
    past_open ∙ kind_later _ _ _ _ (sym c.word_at-6.ensures ∙ c.if-word_at-6.false) in
    let past-defined : Among [] =
    past-claim ∙ kind_later _ _ _ _ (sym c.word_at-7.ensures ∙ c.if-word_at-7.false) in
    sym (past-defined ∙ kind_none _ _)
