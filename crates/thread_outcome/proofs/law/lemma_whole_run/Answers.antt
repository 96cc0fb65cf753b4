use Rattle.law_phases.specs.Trees.{net_at}
use Rattle.net_model.specs.Real.{real}
use Rattle.net_model.specs.Nets.{phased_net}
use Rattle.net_journal.proofs.Runs.{are-journals}
use Rattle.thread_outcome.specs.Outcome.{journals_by}
use Rattle.thread_outcome.proofs.Closing.{whole}
use Rattle.thread_outcome.proofs.law.lemma_whole_run.Goals as goal

pub returns : goal.returns
returns c = record {
  journals = λ net last next cells stood. are-journals (net_at real (phased_net net) 0) (journals_by cells) stood.sofar stood.between.merge;
  whole = λ net last next cells merged hand stood none merge. whole net last next cells hand.sound stood hand.together hand.kept merged merge none;
}
