use Rattle.law_machine.proofs.Growing.{run-more, act-step}
use Rattle.law_machine.proofs.laws.grows.Goals as goal

pub returns : goal.returns
returns hold c = record {
  run = λ run entry next now h. run-more hold.M.LocalStep.machine run.start run.first run.entries run.end run.last entry h.found next now run.legal h.ready h.step;
  step = λ w t a made. act-step hold.M.LocalStep.machine w t a made.input made.outcome made.stands made.steps;
}
