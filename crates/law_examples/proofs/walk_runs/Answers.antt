use Rattle.law_routing.proofs.Walked.{walk-drains}
use Rattle.law_examples.specs.Ranges.{ranges}
use Rattle.law_examples.proofs.Lawful.{ranges-laws}
use Rattle.law_examples.proofs.Replayed.{opened}
use Rattle.law_examples.proofs.walk_runs.Goals as goal

pub returns : goal.returns
returns c net laws phases below some = walk-drains ranges ranges-laws (opened ranges ranges-laws net laws) phases below some
