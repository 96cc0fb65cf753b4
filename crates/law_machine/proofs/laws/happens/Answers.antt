use Rattle.std.proofs.Common.{ap}
use Rattle.law_machine.proofs.History.{run-happens, run-ends}
use Rattle.law_machine.proofs.laws.happens.Goals as goal

pub returns : goal.returns
returns hold c = record {
  each = λ run. run-happens hold.M.LocalStep.machine run.start run.first run.entries run.end run.last run.legal;
  end = λ run. ap (λ z. z.network) (run-ends hold.M.LocalStep.machine run.start run.first run.entries run.end run.last run.legal);
}
