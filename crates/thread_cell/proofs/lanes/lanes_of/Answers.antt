use Rattle.std.proofs.Common.{map, subst, arith}
use Rattle.thread_cell.specs.Lanes.{AreNone}
use Rattle.thread_cell.proofs.Rows.{lanes-first, lanes-last}
use Rattle.thread_cell.proofs.lanes.lanes_of.Goals as goal

pub loop-server-init : goal.loop-server-init
loop-server-init c = lanes-first c.args.tree.now c.lemma_laws.ensures _ (subst (λ n. AreNone n (map (λ r. r.items) c.in_ok-rows.rows.items)) c.servers.ensures.value c.in_ok-rows.ensures)

pub returns : goal.returns
returns c = lanes-last c.args.tree.now c.lemma_laws.ensures c.loop-server.server _ (let v = c.servers-server-end.ensures.value in omega (arith, v)) c.loop-server.invariant
