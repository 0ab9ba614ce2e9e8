-- `page::put_verdict` meets its contract: the line of each kind of verdict, by its parts.
use mathlib.Core.Path.{refl}
use native.Mathlib.Omega.{arith}
use Rattle.printing.proofs.PutLaws.{puts_length}
use Rattle.tables.proofs.Numbers.{number_bounds}
use Rattle.page.proofs.Listing.{refused_position, verdict_accepted, verdict_refused}
use Rattle.page.proofs.Lengths.{length_accepted, length_refused}
use Rattle.page.proofs.put_verdict.Goals as goal

pub put-requires : goal.put-requires
put-requires c = omega (arith, length_accepted _ c.in-Ok.is, c.requires.1)

pub put-begun-requires : goal.put-begun-requires
put-begun-requires c = omega (arith, length_refused _ _ _ _ c.in-Err.is refl, c.requires.1)

pub put_decimal-numbered-requires : goal.put_decimal-numbered-requires
put_decimal-numbered-requires c = let long = length_refused _ _ _ _ c.in-Err.is c.fault_number.ensures in
    let begun = c.put-begun.ensures in (
      omega (arith, c.fault_number.ensures, (number_bounds c.in-Err.refusal.fault).1),
      omega (arith, long, c.requires.1, c.put-begun.ensures.answered, puts_length begun),
    )

pub put_spaced-placed-requires : goal.put_spaced-placed-requires
put_spaced-placed-requires c = let long = length_refused _ _ _ _ c.in-Err.is c.fault_number.ensures in
    let begun = c.put-begun.ensures in
    let numbered = c.put_decimal-numbered.ensures in (
      refused_position _ _ _ c.in-Err.is c.requires.0,
      omega (arith, long, c.requires.1, c.put-begun.ensures.answered, puts_length begun, c.put_decimal-numbered.ensures.answered, puts_length numbered),
    )

pub put-requires-in-Err : goal.put-requires-in-Err
put-requires-in-Err c = let long = length_refused _ _ _ _ c.in-Err.is c.fault_number.ensures in
    let begun = c.put-begun.ensures in
    let numbered = c.put_decimal-numbered.ensures in
    let placed = c.put_spaced-placed.ensures in
    omega (arith, long, c.requires.1, c.put-begun.ensures.answered, puts_length begun, c.put_decimal-numbered.ensures.answered, puts_length numbered, c.put_spaced-placed.ensures.answered, puts_length placed)

pub returns-in-Ok : goal.returns-in-Ok
returns-in-Ok c = verdict_accepted _ c.in-Ok.is c.put.ensures

pub returns-in-Err : goal.returns-in-Err
returns-in-Err c = verdict_refused _ _ _ _ c.in-Err.is c.fault_number.ensures c.put-begun.ensures c.put_decimal-numbered.ensures
    c.put_spaced-placed.ensures c.put-in-Err.ensures
