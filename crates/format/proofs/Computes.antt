-- The definitions of this crate, and of those below it, that a sample computes through: `unfolding computes` opens them all.
-- Assumes nothing.
use Rattle.format.specs.Parse.{and_then, parts, read_parts, skip, is_digit, more_digits, starts_with_digit, read_number, as_negative}
use Rattle.format.specs.Parse.{read_signed, read_negated, read_literal, read_term, read_pair, read_atoms, read_rule, read_clause, read_load}
use Rattle.format.specs.Parse.{read_open, read_claim, as_defined, read_defined, read_as, read_known, read_form, whole, parse, read_line}
use Rattle.format.specs.Forms.{decimal_with, decimal, signed, literal_bytes, term_bytes, pair_bytes, render, render_all}
use Rattle.format.specs.Views.{view_of, kind_number, same_kind, of_kind}
use Rattle.format.specs.Words.{starts_with, word_at, word_of, kind_of, kind_at}

unfoldable opens_parse : Unit {0}
unfolding and_then parts read_parts skip is_digit more_digits starts_with_digit read_number as_negative read_signed read_negated read_literal read_term read_pair read_atoms
opens_parse = tt

unfoldable opens_parse_2 : Unit {0}
unfolding read_rule read_clause read_load read_open read_claim as_defined read_defined read_as read_known read_form whole parse read_line
opens_parse_2 = tt

unfoldable opens_forms : Unit {0}
unfolding decimal_with decimal signed literal_bytes term_bytes pair_bytes render render_all
opens_forms = tt

unfoldable opens_views : Unit {0}
unfolding view_of kind_number same_kind of_kind
opens_views = tt

unfoldable opens_words : Unit {0}
unfolding starts_with word_at word_of kind_of kind_at
opens_words = tt

unfoldable pub computes : Unit {0}
unfolding opens_parse opens_parse_2 opens_forms opens_views opens_words
computes = tt
