use Rattle.base_order.specs.Order.{covers_at}
use Rattle.base_order.proofs.Numbers.{number_laws}
use Rattle.base_order.proofs.SettledRoots.{moves-on, moves-fresh, settled-kept, ends-roots, ends-withdrawn, ends-added}
use Rattle.base_order.proofs.order.Order.reroot.Goals as goal

pub returns-clause-roots : goal.returns-clause-roots
returns-clause-roots g c =
    let ch = c.requires.change in
    let m = c.settle_each-2.ensures.moves in
    ends-roots (covers_at g.T.Cover.covering c.args.self.now) (number_laws g.met.T.Cover.laws c.args.self.now) ch.was c.args.need.now.members c.args.gone.now c.args.come.now c.args.roots.now.members
    c.settle_each-2.new.roots.members c.settle_each-2.new.withdrawn.members c.settle_each-2.new.added.members ch.roots ch.left ch.joined
    (moves-fresh (moves-on c.settle_each.ensures.moves m) c.clear.ensures.members c.clear-2.ensures.members)
    (λ k h. settled-kept m (c.settle_each.ensures.settled k h)) c.settle_each-2.ensures.settled
    c.lemma_sorted.ensures.rising c.lemma_sorted-3.ensures.rising

pub returns-clause-withdrawn : goal.returns-clause-withdrawn
returns-clause-withdrawn g c =
    let ch = c.requires.change in
    let m = c.settle_each-2.ensures.moves in
    ends-withdrawn (covers_at g.T.Cover.covering c.args.self.now) (number_laws g.met.T.Cover.laws c.args.self.now) ch.was c.args.need.now.members c.args.gone.now c.args.come.now c.args.roots.now.members
    c.settle_each-2.new.roots.members c.settle_each-2.new.withdrawn.members c.settle_each-2.new.added.members ch.roots ch.left ch.joined
    (moves-fresh (moves-on c.settle_each.ensures.moves m) c.clear.ensures.members c.clear-2.ensures.members)
    (λ k h. settled-kept m (c.settle_each.ensures.settled k h)) c.settle_each-2.ensures.settled
    c.lemma_sorted-2.ensures.rising c.lemma_sorted-4.ensures.rising

pub returns-clause-added : goal.returns-clause-added
returns-clause-added g c =
    let ch = c.requires.change in
    let m = c.settle_each-2.ensures.moves in
    ends-added (covers_at g.T.Cover.covering c.args.self.now) (number_laws g.met.T.Cover.laws c.args.self.now) ch.was c.args.need.now.members c.args.gone.now c.args.come.now c.args.roots.now.members
    c.settle_each-2.new.roots.members c.settle_each-2.new.withdrawn.members c.settle_each-2.new.added.members ch.roots ch.left ch.joined
    (moves-fresh (moves-on c.settle_each.ensures.moves m) c.clear.ensures.members c.clear-2.ensures.members)
    (λ k h. settled-kept m (c.settle_each.ensures.settled k h)) c.settle_each-2.ensures.settled
    c.lemma_sorted-3.ensures.rising c.lemma_sorted-5.ensures.rising
