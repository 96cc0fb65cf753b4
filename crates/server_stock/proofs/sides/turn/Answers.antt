use Rattle.std.proofs.Common.{◌≡◌, ◌<◌, nat_lt, length, refl, ap, subst, ◌∙◌, arith}
use Rattle.base.specs.Sets.{minus}
use Rattle.base_order.specs.Order.{root_numbers}
use Rattle.server_stock.specs.Held.{wanted, wanted_numbers}
use Rattle.server_stock.specs.Sides.{sent_numbers}
use Rattle.server_stock.proofs.Turns.{renewed, changed, below, numbers-are, side-is}
use Rattle.server_stock.proofs.sides.turn.Goals as goal

pub reroot-requires-clause-gone : goal.reroot-requires-clause-gone
reroot-requires-clause-gone g c i h = let r = c.requires in omega (arith, r.out i h, r.width)

pub reroot-requires-clause-come : goal.reroot-requires-clause-come
reroot-requires-clause-come g c i h = let r = c.requires in omega (arith, r.add i h, r.width)

pub reroot-requires-clause-change : goal.reroot-requires-clause-change
reroot-requires-clause-change g c =
    changed (wanted c.args.side.now.offered.members c.args.held.now.rows c.args.place) c.args.side.now.need.members c.renew.new.need.members c.renew-2.new.need.members c.args.out.now c.args.add.now
    c.renew.ensures.settled c.renew.ensures.toward c.renew-2.ensures.settled c.renew-2.ensures.toward c.requires.due.kept c.requires.due.fresh
    g.T.Cover.covering c.args.order.now c.args.side.now.roots.members c.requires.due.known

pub returns : goal.returns
returns g c =
    let r = c.requires in
    let d = r.due in
    let n = length c.args.order.now in
    let s = c.reroot.ensures in
    let w = c.renew-2.ensures.width ∙ (c.renew.ensures.width ∙ d.wide.need) in
    let rows = c.args.held.now.rows in
    let p = c.args.place in
    let offered = c.args.side.now.offered.members in
    let old = c.args.side.now.roots.members in
    let need : c.renew-2.new.need.members ≡ wanted_numbers n offered rows p =
    renewed (wanted offered rows p) c.args.side.now.need.members c.renew.new.need.members c.renew-2.new.need.members c.args.out.now c.args.add.now
    c.renew.ensures.settled c.renew.ensures.toward c.renew-2.ensures.settled c.renew-2.ensures.toward d.kept d.fresh
    n c.lemma_sorted-2.ensures.rising (λ k h. subst (λ z. k < z) w (c.lemma_sorted-2.ensures.within k h))
    (below (wanted offered rows p) c.args.side.now.need.members c.renew.new.need.members c.renew-2.new.need.members c.args.out.now c.args.add.now
    c.renew.ensures.settled c.renew.ensures.toward c.renew-2.ensures.settled c.renew-2.ensures.toward d.kept d.fresh
    n (λ k h. subst (λ z. k < z) d.wide.need (c.lemma_sorted.ensures.within k h)) (λ k h. subst (λ z. k < z) r.width (r.add k h))) in
    let sent = sent_numbers g.T.Cover.covering c.args.order.now offered rows p in
    let roots : c.reroot.new.roots.members ≡ sent = s.roots ∙ ap (root_numbers g.T.Cover.covering c.args.order.now) need in
    side-is refl (numbers-are c.renew-2.new.need n (wanted_numbers n offered rows p) w need)
    (numbers-are c.reroot.new.roots n sent s.width roots)
    (numbers-are c.reroot.new.withdrawn n (minus nat_lt old sent) s.withdrawn_width (s.withdrawn ∙ ap (λ z. minus nat_lt old z) roots))
    (numbers-are c.reroot.new.added n (minus nat_lt sent old) s.added_width (s.added ∙ ap (λ z. minus nat_lt z old) roots))
