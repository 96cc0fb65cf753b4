use Rattle.law_examples.specs.Ranges.{ranges}
use Rattle.law_examples.proofs.Phased.{single-laws, single-runs, single-walk, single-trace}
use Rattle.law_examples.proofs.one_tree_runs.Goals as goal

pub returns : goal.returns
returns c = record { lawful = single-laws ranges; runs = single-runs ranges; walk = single-walk ranges; trace = single-trace ranges }
