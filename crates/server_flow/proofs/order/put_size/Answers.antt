use Rattle.std.proofs.Common.{◌≡◌, arith}
use Rattle.server_spec.proofs.Ordering.{from-server, size-step, size-end}
use Rattle.server_flow.proofs.order.put_size.Goals as goal

pub loop-at-init : goal.loop-at-init
loop-at-init c = record { order = c.requires.order; fewer = c.requires.fewer; all = λ a b l m e. absurd (omega (arith, l, (from-server c.args.tree.now c.lemma_laws.ensures a b m).0)) }

pub loop-at-preserved : goal.loop-at-preserved
loop-at-preserved c =
    record {
      order = c.in_ok-put_links.ensures.order;
      fewer = λ a b m l. c.in_ok-put_links.ensures.kept a b (c.loop-at.invariant.fewer a b m l);
      all = size-step c.args.tree.now c.lemma_laws.ensures c.loop-at.order.items c.put_links.new.order.items c.loop-at.at c.args.many c.in_ok-put_links.ensures.kept c.in_ok-put_links.ensures.all c.loop-at.invariant.all;
    }

pub returns-in_ok-put_links-clause-all : goal.returns-in_ok-put_links-clause-all
returns-in_ok-put_links-clause-all c =
    let last : c.loop-at.at ≡ c.args.tree.now.count = omega (arith, c.servers-at-end.ensures.value) in
    let step = size-step c.args.tree.now c.lemma_laws.ensures c.loop-at.order.items c.put_links.new.order.items c.loop-at.at c.args.many c.in_ok-put_links.ensures.kept c.in_ok-put_links.ensures.all c.loop-at.invariant.all in
    size-end c.args.tree.now c.lemma_laws.ensures c.put_links.new.order.items c.args.many (λ a b m l. c.in_ok-put_links.ensures.kept a b (c.loop-at.invariant.fewer a b m l)) (λ a b l. step a b (omega (arith, l, last)))
