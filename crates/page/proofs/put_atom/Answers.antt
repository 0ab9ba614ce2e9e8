-- `page::put_atom` meets its contract: the parts of the line stand one behind the other.
use Prim.Native.Nat.{◌+◌, ◌≤◌}
use native.Mathlib.Omega.{arith}
use lib.ListN.{length}
use Rattle.format.specs.Forms.{decimal}
use Rattle.printing.proofs.PutLaws.{puts_then, puts_length}
use Rattle.page.specs.Pages.{atom_line}
use Rattle.page.proofs.Lengths.{length_atom_line}
use Rattle.page.proofs.put_atom.Goals as goal

pub put-begun-requires : goal.put-begun-requires
put-begun-requires c =
    let room : c.args.at + (10 + (length (decimal c.args.atom) + (length (decimal c.args.value) + length (decimal c.args.level)))) ≤ length c.args.page.now =
    omega (arith, length_atom_line c.args.atom c.args.value c.args.level, c.requires.level_in_bounds) in
    omega (arith, room)

pub put_decimal-named-requires : goal.put_decimal-named-requires
put_decimal-named-requires c =
    let room : c.args.at + (10 + (length (decimal c.args.atom) + (length (decimal c.args.value) + length (decimal c.args.level)))) ≤ length c.args.page.now =
    omega (arith, length_atom_line c.args.atom c.args.value c.args.level, c.requires.level_in_bounds) in
    let begun = c.put-begun.ensures in
    (omega (arith, c.requires.atom_le_max_position.0), omega (arith, room, c.put-begun.ensures.answered, puts_length begun))

pub put_spaced-valued-requires : goal.put_spaced-valued-requires
put_spaced-valued-requires c =
    let room : c.args.at + (10 + (length (decimal c.args.atom) + (length (decimal c.args.value) + length (decimal c.args.level)))) ≤ length c.args.page.now =
    omega (arith, length_atom_line c.args.atom c.args.value c.args.level, c.requires.level_in_bounds) in
    let begun = c.put-begun.ensures in
    let named = c.put_decimal-named.ensures in
    (c.requires.atom_le_max_position.1, omega (arith, room, c.put-begun.ensures.answered, puts_length begun, c.put_decimal-named.ensures.answered, puts_length named))

pub put_spaced-levelled-requires : goal.put_spaced-levelled-requires
put_spaced-levelled-requires c =
    let room : c.args.at + (10 + (length (decimal c.args.atom) + (length (decimal c.args.value) + length (decimal c.args.level)))) ≤ length c.args.page.now =
    omega (arith, length_atom_line c.args.atom c.args.value c.args.level, c.requires.level_in_bounds) in
    let begun = c.put-begun.ensures in
    let named = c.put_decimal-named.ensures in
    let valued = c.put_spaced-valued.ensures in
    (c.requires.atom_le_max_position.2, omega (arith, room, c.put-begun.ensures.answered, puts_length begun, c.put_decimal-named.ensures.answered, puts_length named, c.put_spaced-valued.ensures.answered, puts_length valued))

pub put-requires : goal.put-requires
put-requires c =
    let room : c.args.at + (10 + (length (decimal c.args.atom) + (length (decimal c.args.value) + length (decimal c.args.level)))) ≤ length c.args.page.now =
    omega (arith, length_atom_line c.args.atom c.args.value c.args.level, c.requires.level_in_bounds) in
    let begun = c.put-begun.ensures in
    let named = c.put_decimal-named.ensures in
    let valued = c.put_spaced-valued.ensures in
    let levelled = c.put_spaced-levelled.ensures in
    omega (arith, room, c.put-begun.ensures.answered, puts_length begun, c.put_decimal-named.ensures.answered, puts_length named, c.put_spaced-valued.ensures.answered, puts_length valued, c.put_spaced-levelled.ensures.answered, puts_length levelled)

pub returns : goal.returns
unfolding atom_line
returns c = puts_then c.put-begun.ensures (puts_then c.put_decimal-named.ensures
    (puts_then c.put_spaced-valued.ensures (puts_then c.put_spaced-levelled.ensures c.put.ensures)))
