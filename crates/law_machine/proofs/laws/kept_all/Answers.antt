use Rattle.law_machine.specs.Content.{number_content}
use Rattle.law_machine.proofs.Kept.{kept-run}
use Rattle.law_machine.proofs.laws.kept_all.Goals as goal

pub returns : goal.returns
returns hold c sent held apply laws links run kept = kept-run hold.M.LocalStep.machine (number_content hold.M.LocalStep.machine sent held apply) laws links.apart links.both run.start run.first run.entries run.end run.last run.legal kept.0 kept.1
