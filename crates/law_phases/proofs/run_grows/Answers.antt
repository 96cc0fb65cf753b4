use Rattle.law_phases.proofs.Turned.{run-grows}
use Rattle.law_phases.proofs.run_grows.Goals as goal

pub returns : goal.returns
returns hold c net before middle found after entries entry = run-grows hold.M.Matching.theory net before.state before.phase entries middle found after entry
