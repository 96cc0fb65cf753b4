use Rattle.std.proofs.Common.{◌≡◌, get_or, sym, ap, ◌∙◌}
use Rattle.std.proofs.lemmas.Option.{slice_get-get_or}
use Rattle.server_spec.specs.Rows.{size_of}
use Rattle.server_spec.proofs.Ordering.{put-order, put-kept, put-all, skip-all}
use Rattle.server_flow.proofs.order.put_links.Goals as goal
use Rattle.server_flow.proofs.order.put_links.Goals.{then-beyond-many+in_ok-push, else-beyond-many}

pub loop-of-preserved : goal.loop-of-preserved
loop-of-preserved c =
    let links = c.neighbours-of-items.result.now in
    let of = get_or c.neighbours-of-items.result.now c.loop-of.of-index 0 in
    let is = slice_get-get_or c.neighbours-of-items.result.now c.loop-of.of-index 0 c.loop-of-test.true in
    let tree = c.args.tree.now in
    elim c.if-beyond-many.branch [
      | then-beyond-many+in_ok-push w ↦
          let e = ap (λ v. v.items) w.order-is ∙ w.in_ok-push.ensures.items in
          let many : size_of c.args.tree.now c.args.at (get_or c.neighbours-of-items.result.now c.loop-of.of-index 0) ≡ c.args.many = sym c.beyond.ensures ∙ w.if-beyond-many.true in
          record {
            order = rw e (put-order c.args.tree.now c.lemma_laws.ensures c.args.order.now.items c.loop-of.order.items links c.loop-of.of-index c.args.at of c.args.many c.neighbours-of-items.ensures.value is c.requires.fewer c.loop-of.invariant.order c.loop-of.invariant.kept c.loop-of.invariant.all many);
            kept = rw e (put-kept c.args.tree.now c.lemma_laws.ensures c.args.order.now.items c.loop-of.order.items links c.loop-of.of-index c.args.at of c.args.many c.neighbours-of-items.ensures.value is c.requires.fewer c.loop-of.invariant.order c.loop-of.invariant.kept c.loop-of.invariant.all);
            all = rw e (put-all c.args.tree.now c.lemma_laws.ensures c.args.order.now.items c.loop-of.order.items links c.loop-of.of-index c.args.at of c.args.many c.neighbours-of-items.ensures.value is c.requires.fewer c.loop-of.invariant.order c.loop-of.invariant.kept c.loop-of.invariant.all);
          }
      | else-beyond-many w ↦
          let e = ap (λ v. v.items) w.order-is in
          record {
            order = rw e c.loop-of.invariant.order;
            kept = rw e c.loop-of.invariant.kept;
            all = rw e (skip-all c.args.tree.now c.lemma_laws.ensures c.args.order.now.items c.loop-of.order.items links c.loop-of.of-index c.args.at of c.args.many c.neighbours-of-items.ensures.value is c.requires.fewer c.loop-of.invariant.order c.loop-of.invariant.kept c.loop-of.invariant.all (λ q. w.if-beyond-many.false (c.beyond.ensures ∙ q)));
          }
    ]
