use Rattle.thread_workers.proofs.Later.{later-along, later-same}
use Rattle.thread_workers.proofs.worker_context.WorkerContext.go.Goals as goal

pub loop-init : goal.loop-init
loop-init g c = record { handles = c.requires; later = later-same _; state = tt }

pub loop-preserved : goal.loop-preserved
loop-preserved g c = record { handles = c.step-next.ensures.handles; later = later-along _ _ _ c.loop.invariant.later c.step-next.ensures.later; state = c.step-next.ensures.state }
