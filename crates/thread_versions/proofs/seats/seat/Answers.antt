use Rattle.thread_versions.proofs.Chains.{forks, merges}
use Rattle.thread_versions.proofs.seats.seat.Goals as goal

pub tell-requires : goal.tell-requires
tell-requires g c = forks _ _

pub learn-requires-clause-rule : goal.learn-requires-clause-rule
learn-requires-clause-rule g c = merges _ _ _ _
