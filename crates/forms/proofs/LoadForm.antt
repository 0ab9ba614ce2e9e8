-- `(load LO HI (M L) ..)`: each part that is missing refuses the form, and the last one completes it.
-- Assumes nothing.
use Prim.Native.Nat.{ℕ, ◌+◌}
use mathlib.Core.Path.{◌≡◌, ◌∙◌}
use mathlib.Core.Bool.{Bool, true, false, ◌&&◌, and-true}
use mathlib.Core.List.{List, [], ◌∷◌}
use native.Mathlib.Omega.{arith}
use lib.Dec.{leb}
use lib.IntN.{ℤ, nat_abs}
use lib.ListN.{length, drop}
use borrow.Author.Tests.{leb-true}
use Rattle.std.specs.Prelude.{Option, None, Some}
use Rattle.wellfounded.specs.Lists.{all}
use Rattle.wellfounded.proofs.Tests.{first, second}
use Rattle.tables.specs.Limits.{max_bound}
use Rattle.format.specs.declared.kinds.Kind.TheVariants.{Load}
use Rattle.format.specs.Forms.{TermText, Form, load_form, space}
use Rattle.format.specs.Views.{view_of, same_kind, kind_number}
use Rattle.format.specs.Words.{word_at}
use Rattle.format.specs.Parse.{got, and_then, skip, parts, read_signed, read_term}
use Rattle.format.specs.Parse.{read_load}
use Rattle.numerals.specs.internal.Offsets.{clamped, signed_at}
use Rattle.numerals.proofs.CappedLaws.{capped_small, clamped_small, clamped_within}
use Rattle.numerals.proofs.OffsetLaws.{read_none}
use Rattle.items.proofs.ItemLaws.{byte_got, byte_none}
use Rattle.judging.specs.declared.reached.Reached.{Reached}
use Rattle.judging.specs.Judging.{term_within, bound_within, rises_from, numbers_within}
use Rattle.judging.specs.internal.Shapes.{capped_rise, parts_in, shape_of}
use Rattle.lists.specs.declared.Parts.{Parts}
use Rattle.lists.specs.internal.Lists.{parts_of, Lists}
use Rattle.forms.specs.internal.Readers.{Forms}
use Rattle.forms.proofs.Gathered.{gathered, gathered_none}
use Rattle.forms.proofs.FormLaws.{signed_after, form_none, form_got}

-- Its numbers within their limits.
load_numbers :
    (s : Reached) (lo hi : ℤ) (ts : List TermText) →
    numbers_within s (load_form lo hi ts) ≡ ((bound_within lo && bound_within hi) && all term_within ts)
unfolding numbers_within view_of bound_within all
load_numbers s lo hi ts = simp and-true

load_got :
    (bs : List ℕ) {after middle second next rest : List ℕ} {lo hi : ℤ} {ts : List TermText} → skip (space ∷ []) bs ≡ got [] after →
    read_signed after ≡ got lo middle →
    skip (space ∷ []) middle ≡ got [] second → read_signed second ≡ got hi next → parts read_term next ≡ got ts rest →
    read_load bs ≡ got (load_form lo hi ts) rest
unfolding read_load and_then
load_got bs a b c d e = rw (a, b, c, d, e)

load_shape :
    (s : Reached) (lo hi : ℤ) (ts : List TermText) {low high : ℤ} {told : Parts} {below above : Bool} →
    low ≡ clamped lo → high ≡ clamped hi → below ≡ leb (nat_abs low) max_bound → above ≡ leb (nat_abs high) max_bound →
    told ≡ parts_of term_within (λ ts. true) ts →
    record { kind = Load; size = 0; parts = told.count; within = (below && above) && told.within; rising = told.ordered } ≡ shape_of s (load_form lo hi ts)
unfolding parts_of shape_of parts_in view_of same_kind kind_number bound_within capped_rise rises_from
load_shape s lo hi ts d e b a t =
    rw (b, a, d, e, t, load_numbers s lo hi ts, clamped_within lo max_bound (omega arith), clamped_within hi max_bound (omega arith), capped_small 0 (omega arith))

module _ {s : Reached} (text : List ℕ) (at : ℕ) {W : Form → Type 0} where
  pub load_unspaced : word_at text at (space ∷ []) ≡ false → Forms s text (read_load (drop at text)) None W
  unfolding read_load and_then
  load_unspaced f = form_none s text (rw (byte_none text at space f))

  module _ (spaced : word_at text at (space ∷ []) ≡ true) where
    pub load_lowless : signed_at text (at + 1) ≡ None → Forms s text (read_load (drop at text)) None W
    unfolding read_load and_then
    load_lowless e = form_none s text (rw ((byte_got text at space spaced).0, read_none clamped read_signed text (at + 1) e))

    module _ {low : ℤ} {after : ℕ} (lower : signed_at text (at + 1) ≡ Some (low, after)) where
      pub load_one_bound : word_at text after (space ∷ []) ≡ false → Forms s text (read_load (drop at text)) None W
      unfolding read_load and_then
      load_one_bound f = form_none s text (rw ((byte_got text at space spaced).0, (signed_after text at spaced lower).2.reads, byte_none text after space f))

      module _ (again : word_at text after (space ∷ []) ≡ true) where
        pub load_highless : signed_at text (after + 1) ≡ None → Forms s text (read_load (drop at text)) None W
        unfolding read_load and_then
        load_highless e =
            form_none s text
            (rw ((byte_got text at space spaced).0, (signed_after text at spaced lower).2.reads, (byte_got text after space again).0, read_none clamped read_signed text (after + 1) e))

        module _ {high : ℤ} {next : ℕ} (upper : signed_at text (after + 1) ≡ Some (high, next)) {answer : Option (Parts × ℕ)} {P : List TermText → Type 0}
            (list : Lists text term_within (λ ts. true) (parts read_term (drop next text)) answer P) where
          pub load_listless : answer ≡ None → Forms s text (read_load (drop at text)) None W
          unfolding read_load and_then
          load_listless e =
              form_none s text
              (rw (
                (byte_got text at space spaced).0,
                (signed_after text at spaced lower).2.reads,
                (byte_got text after space again).0,
                (signed_after text after again upper).2.reads,
                gathered_none list e,
              ))

          pub load_formed :
              {told : Parts} {end : ℕ} {below above : Bool} → below ≡ leb (nat_abs low) max_bound → above ≡ leb (nat_abs high) max_bound →
              answer ≡ Some (told, end) →
              ((lo hi : ℤ) (ts : List TermText) → low ≡ lo → high ≡ hi → told.count ≡ length ts → P ts → W (load_form lo hi ts)) →
              Forms s text (read_load (drop at text))
              (Some (record { kind = Load; size = 0; parts = told.count; within = (below && above) && told.within; rising = told.ordered }, end)) W
          unfolding bound_within
          load_formed b a e w =
              let g = gathered list e in
              let lo = signed_after text at spaced lower in
              let hi = signed_after text after again upper in
              form_got s text (load_form lo.0 hi.0 g.xs) g.rest
              (load_got (drop at text) (byte_got text at space spaced).0 lo.2.reads (byte_got text after space again).0 hi.2.reads g.reads)
              (load_shape s lo.0 hi.0 g.xs lo.1 hi.1 b a g.tells) g.ended (λ good.
              let within = rw load_numbers at good.within in
              let bounds = first _ (all term_within g.xs) within in
              let small = leb-true (nat_abs lo.0) max_bound (first _ (leb (nat_abs hi.0) max_bound) bounds) in
              let little = leb-true (nat_abs hi.0) max_bound (second (leb (nat_abs lo.0) max_bound) _ bounds) in
              w lo.0 hi.0 g.xs (lo.1 ∙ clamped_small lo.0 (omega arith)) (hi.1 ∙ clamped_small hi.0 (omega arith)) g.counted
              (g.laid (second (leb (nat_abs lo.0) max_bound && leb (nat_abs hi.0) max_bound) _ within)))
