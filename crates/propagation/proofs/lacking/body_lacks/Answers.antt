-- `propagation::lacking::body_lacks` meets its contract: the library's sum of the table's entries is the sum place by place.
use mathlib.Core.Path.{◌∙◌}
use lib.ListN.{get_or}
use borrow.Author.Rules.{rules}
use Rattle.std.proofs.lemmas.Iterator.{YieldsList-from_slice, YieldsList-from_map}
use Rattle.std.proofs.lemmas.Iterator.Adapters.{serves_from_places}
use Rattle.std.proofs.lemmas.Iterator.Consumers.{YieldsList-at, sum_by_from_yields_List, fits_by_from_yields_list}
use Rattle.wellfounded.proofs.Sums.{sum_by_places}
use Rattle.propagation.proofs.LackingLaws.{body_entry, body_few}
use Rattle.propagation.proofs.lacking.body_lacks.Goals as goal

pub sum-requires-clause-can : goal.sum-requires-clause-can
sum-requires-clause-can c = (
  tt,
  serves_from_places (YieldsList-at c.map.ensures.source (YieldsList-from_slice _ c.iter.ensures.rest)) (λ x q r. search rules)
      (λ x k l e. let known = body_entry c.requires l e in search rules),
)

pub sum-requires-clause-fits : goal.sum-requires-clause-fits
sum-requires-clause-fits c =
    fits_by_from_yields_list (λ l. get_or c.args.table.now l 0) _ _ _
    (YieldsList-from_map _ (λ l. get_or c.args.table.now l 0) (YieldsList-at c.map.ensures.source (YieldsList-from_slice _ c.iter.ensures.rest))
    c.map.ensures.closure (λ x r q k. search rules))
    (body_few c.requires)

pub returns : goal.returns
returns c =
    sum_by_from_yields_List (λ l. get_or c.args.table.now l 0) _ _ c.sum.result c.sum.ensures.ran
    (YieldsList-from_map _ (λ l. get_or c.args.table.now l 0) (YieldsList-at c.map.ensures.source (YieldsList-from_slice _ c.iter.ensures.rest))
    c.map.ensures.closure (λ x r q k. search rules))
    ∙ sum_by_places _ _
