use Rattle.law_examples.specs.Ranges.{ranges}
use Rattle.law_examples.proofs.Lawful.{ranges-laws}
use Rattle.law_examples.proofs.Replayed.{replay-runs}
use Rattle.law_examples.proofs.replay_runs.Goals as goal

pub returns : goal.returns
returns c net laws schedules = replay-runs ranges ranges-laws net laws schedules
