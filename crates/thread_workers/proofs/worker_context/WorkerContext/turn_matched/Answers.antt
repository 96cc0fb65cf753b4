use Rattle.std.proofs.Common.{◌∙◌}
use Rattle.thread_workers.proofs.Later.{later-along, same-viewer}
use Rattle.thread_workers.proofs.Receptions.{put-later, tried-at, worn-at}
use Rattle.thread_workers.proofs.worker_context.WorkerContext.turn_matched.Goals as goal

pub follow-requires-clause-handles : goal.follow-requires-clause-handles
follow-requires-clause-handles g c = record { own = c.put.ensures.own.0; free = c.put.ensures.put.1; viewer_is = same-viewer _ _ _ c.requires.handles.viewer_is c.make_ahead-came.ensures.viewer }

pub follow-requires-clause-tried : goal.follow-requires-clause-tried
follow-requires-clause-tried g c = tried-at _ c.make_ahead-came.result _ _ _ _ (c.make_ahead-came.ensures.root ∙ c.in-Some.ensures.found.0) c.put.ensures.put.0 c.make_ahead-came.ensures.tried

pub follow-requires-clause-worn : goal.follow-requires-clause-worn
follow-requires-clause-worn g c s is e = worn-at s _ _ _ _ (c.make_ahead-came.ensures.root ∙ c.in-Some.ensures.found.0) c.put.ensures.put.0 (c.make_ahead-came.ensures.worn s is e)

pub returns-clause-handles : goal.returns-clause-handles
returns-clause-handles g c = c.follow.ensures.handles

pub returns-clause-later : goal.returns-clause-later
returns-clause-later g c =
    later-along _ _ _
    (put-later c.args.handles.now c.take.new.pass c.put.new.pass c.make_ahead-came.new.viewer c.in-Some.cell.journal c.make_ahead-came.new.cell.journal c.take.ensures.own.1 c.in-Some.ensures.found.1 c.put.ensures.own.1 c.make_ahead-came.ensures.grows c.put.ensures.put.0 c.make_ahead-came.ensures.viewer)
    c.follow.ensures.later

pub returns-clause-state : goal.returns-clause-state
returns-clause-state g c = c.follow.ensures.state
