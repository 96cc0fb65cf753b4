use Rattle.std.proofs.Common.{◌<◌, ◌+◌, ap, arith}
use Rattle.server_spec.proofs.Ordering.{size-all}
use Rattle.server_flow.proofs.order.ordered.Goals as goal
use Rattle.server_flow.proofs.order.ordered.Goals.{else-loop-many-test, then-loop-many-test+in_ok-put_size+else-many-many-end}

pub returns-clause-all : goal.returns-clause-all
returns-clause-all c = elim c.loop-many-test.branch [
  | else-loop-many-test w ↦
      let less : c.args.tree.now.count < c.loop-many.many = omega (arith, c.servers-many-end.ensures.value) in
      rw (ap (λ v. v.items) w.order-is) (size-all c.args.tree.now c.lemma_laws.ensures c.loop-many.order.items c.loop-many.many less c.loop-many.invariant.fewer)
  | then-loop-many-test+in_ok-put_size+else-many-many-end w ↦
      let less : c.args.tree.now.count < c.loop-many.many + 1 = omega (arith, c.servers-many-end.ensures.value) in
      rw (ap (λ v. v.items) w.order-is) (size-all c.args.tree.now c.lemma_laws.ensures w.put_size.new.order.items (c.loop-many.many + 1) less w.in_ok-put_size.ensures.all)
]
