use Rattle.std.proofs.Common.{refl, ◌∙◌}
use Rattle.thread_workers.proofs.Lists.{prefix-of, prefix-along}
use Rattle.thread_workers.proofs.hand.make_receptions.Goals as goal

pub loop-init : goal.loop-init
loop-init g c = record { root = refl; grows = prefix-of _ _ refl }

pub loop-preserved : goal.loop-preserved
loop-preserved g c = record { root = c.try_link.ensures.root ∙ c.loop.invariant.root; grows = prefix-along _ _ _ c.loop.invariant.grows c.try_link.ensures.grows }
