use Rattle.law_phases.specs.Moments.{opening_moment}
use Rattle.law_phases.proofs.Moments.{run-begins}
use Rattle.law_phases.proofs.Whole.{begin-at}
use Rattle.law_phases.proofs.run_begins.Goals as goal

pub returns : goal.returns
returns hold c = record {
  to = λ run n. begin-at hold.M.Matching.theory run.net (opening_moment hold.M.Matching.theory run.net).state 0 run.journal run.end run.last run.legal n;
  rest = λ net before after entries rest run. (let x = run-begins hold.M.Matching.theory net before.state before.phase entries rest after.state after.phase run in record { middle = record { state = x.0; phase = x.1 }; first = x.2; goes_on = x.3 });
}
