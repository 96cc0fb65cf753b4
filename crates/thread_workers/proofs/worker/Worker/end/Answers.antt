use Rattle.thread_workers.proofs.Later.{later-along, later-same}
use Rattle.thread_workers.proofs.worker.Worker.end.Goals as goal

pub loop-init : goal.loop-init
loop-init g c = record { handles = c.args.self.free; later = later-same _ }

pub loop-preserved : goal.loop-preserved
loop-preserved g c = record { handles = c.go.ensures.handles; later = later-along _ _ _ c.loop.invariant.later c.go.ensures.later }

pub loop-preserved-after-this : goal.loop-preserved-after-this
loop-preserved-after-this g c = record { handles = c.go.ensures.handles; later = later-along _ _ _ c.loop.invariant.later c.go.ensures.later }
