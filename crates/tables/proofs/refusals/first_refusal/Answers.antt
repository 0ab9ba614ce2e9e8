-- `tables::refusals::first_refusal` meets its contract: the mark that was found refuses, or else what does not fit does.
use Rattle.tables.proofs.Faults.{refused_first, accepted_first}
use Rattle.tables.proofs.refusals.first_refusal.Goals as goal

pub returns-in_err-absent : goal.returns-in_err-absent
returns-in_err-absent c = refused_first _ _ _ _ _ c.absent.ensures c.in_err-absent.was c.from_residual.ensures.1

pub returns : goal.returns
returns c = accepted_first _ _ _ _ _ c.absent.ensures c.in_ok-absent.was c.require.ensures
