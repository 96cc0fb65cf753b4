use Rattle.law_phases.specs.Trees.{net_at}
use Rattle.net_model.specs.Real.{real}
use Rattle.net_journal.proofs.Runs.{one-merge, are-journals}
use Rattle.net_journal.proofs.law.merge_in_runs.Goals as goal

pub returns : goal.returns
returns c = record {
  may = λ net journals sofar merge. are-journals (net_at real net 0) journals sofar merge;
  is = λ net journals merged merge. merge (net_at real net 0);
  once = λ net journals merged sofar merge other. one-merge (net_at real net 0) journals merged sofar (merge (net_at real net 0)) other;
}
