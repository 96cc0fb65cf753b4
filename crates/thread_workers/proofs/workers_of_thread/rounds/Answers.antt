use Rattle.std.proofs.Common.{refl, ◌∙◌}
use Rattle.thread_workers.proofs.workers_of_thread.rounds.Goals as goal

pub loop-init : goal.loop-init
loop-init g c = refl

pub loop-preserved : goal.loop-preserved
loop-preserved g c = c.round.ensures ∙ c.loop.invariant
