-- `forms::read_load_form` meets its contract: the two bounds, each after a space, and the terms, then the row.
use mathlib.Core.Path.{refl, sym, ap, ◌∙◌}
use native.Mathlib.Omega.{arith}
use lib.Dec.{leb}
use lib.IntN.{ℤ, nat_abs}
use borrow.Author.Rules.{rules}
use Rattle.tables.specs.Limits.{max_bound}
use Rattle.format.specs.Forms.{term_bytes}
use Rattle.format.specs.Parse.{read_term}
use Rattle.format.proofs.Pieces.{term_inverse}
use Rattle.items.proofs.ItemLaws.{byte_got}
use Rattle.judging.proofs.Counts.{counts_within_lem}
use Rattle.format.specs.Views.{view_of, of_kind, same_kind, kind_number}
use Rattle.forms.specs.Entries.{load_row, terms_in}
use Rattle.forms.proofs.Gathered.{count_small}
use Rattle.forms.proofs.FormLaws.{signed_after, signed_kept}
use Rattle.forms.proofs.LoadForm.{load_unspaced, load_lowless, load_one_bound, load_highless, load_listless, load_formed}
use Rattle.forms.proofs.read_load_form.Goals as goal

pub returns-then-not-byte_at : goal.returns-then-not-byte_at
returns-then-not-byte_at c = load_unspaced _ _ (sym c.byte_at.ensures ∙ c.if-not-byte_at.true)

pub returns-in_default : goal.returns-in_default
returns-in_default c =
    load_lowless _ _ (sym c.byte_at.ensures ∙ c.if-not-byte_at.false) (sym c.in_default.ensures)

pub returns-then-not-byte_at-2 : goal.returns-then-not-byte_at-2
returns-then-not-byte_at-2 c =
    load_one_bound _ _ (sym c.byte_at.ensures ∙ c.if-not-byte_at.false) (sym c.in-Some.ensures) (sym c.byte_at-2.ensures ∙ c.if-not-byte_at-2.true)

pub overflow_add-after : goal.overflow_add-after
overflow_add-after c = let l = (byte_got _ _ _ (sym c.byte_at-2.ensures ∙ c.if-not-byte_at-2.false)).1 in search rules

pub returns-in_default-read_signed : goal.returns-in_default-read_signed
returns-in_default-read_signed c =
    let again = sym c.byte_at-2.ensures ∙ c.if-not-byte_at-2.false in
    load_highless _ _ (sym c.byte_at.ensures ∙ c.if-not-byte_at.false) (sym c.in-Some.ensures) again (sym c.in_default-read_signed.ensures)

pub read_terms-requires : goal.read_terms-requires
read_terms-requires c =
    let n = signed_after _ _ (sym c.byte_at-2.ensures ∙ c.if-not-byte_at-2.false) (sym c.in-Some-read_signed.ensures) in
    record { inside = record { reached = n.2.inside; short = c.requires.inside.short }; from_le_max_terms = (counts_within_lem _ c.requires.reached_value).terms }

pub returns-in_err-parts : goal.returns-in_err-parts
returns-in_err-parts c =
    let again = sym c.byte_at-2.ensures ∙ c.if-not-byte_at-2.false in
    rw c.from_residual.ensures
    (load_listless _ _ (sym c.byte_at.ensures ∙ c.if-not-byte_at.false) (sym c.in-Some.ensures) again (sym c.in-Some-read_signed.ensures) c.in_err-parts.ensures refl)

pub store_load-requires : goal.store_load-requires
store_load-requires c = let bounds = counts_within_lem _ c.requires.reached_value in
    let small = count_small term_bytes read_term term_inverse c.in-Some-read_signed.next c.requires.inside c.in_ok-parts.ensures refl in
    (bounds.loads, omega (arith, bounds.terms), small)

pub returns : goal.returns
unfolding kind_number load_row of_kind same_kind terms_in view_of
returns c =
    let once = sym c.byte_at.ensures ∙ c.if-not-byte_at.false in
    let again = sym c.byte_at-2.ensures ∙ c.if-not-byte_at-2.false in
    let kept = signed_kept _ _ once (sym c.in-Some.ensures) in
    let held = signed_kept _ _ again (sym c.in-Some-read_signed.ensures) in
    load_formed _ _ once (sym c.in-Some.ensures) again (sym c.in-Some-read_signed.ensures) c.in_ok-parts.ensures
    (c.bound_within.ensures ∙ ap (λ (z : ℤ). leb (nat_abs z) max_bound) kept) (c.bound_within-2.ensures ∙ ap (λ (z : ℤ). leb (nat_abs z) max_bound) held)
    refl (λ lo hi ts d e n w. (rw (← (kept ∙ d), ← (held ∙ e), ← n) c.store_load.ensures, w.0, w.1))
