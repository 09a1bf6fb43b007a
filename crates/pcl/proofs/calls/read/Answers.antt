-- Refused by its admission, or the read at the fitted unit.
use Rattle.pcl.specs.Laws.Admitted.{refused_call, goes_on}
use Rattle.pcl.proofs.calls.read.Goals as goal

pub returns-in_err-admit : goal.returns-in_err-admit
returns-in_err-admit c = refused_call c.args.cells.now c.args.unit _ _ _ c.from_residual.ensures c.in_err-admit.ensures.answer

pub returns : goal.returns
returns c = goes_on c.args.cells.now c.args.unit _ _ _ _ _ c.in_ok-admit.ensures.answer c.read_unit.ensures
