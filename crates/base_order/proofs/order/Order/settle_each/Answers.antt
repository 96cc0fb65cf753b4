use Rattle.std.proofs.Common.{inl, inr, get_or, sym, subst, arith}
use Rattle.base_order.specs.Order.{covers_at, root_at, IsSettled}
use Rattle.base_order.proofs.Numbers.{has-more}
use Rattle.base_order.proofs.SettledRoots.{settled-kept, moves-on}
use Rattle.base_order.proofs.order.Order.settle_each.Goals as goal
use Rattle.base.proofs.Sets.{get_or-has}

pub settle_from-requires-clause-there : goal.settle_from-requires-clause-there
settle_from-requires-clause-there g c = c.requires.there (get_or c.args.changed.now c.loop-c.c-index 0) (get_or-has c.args.changed.now c.loop-c.c-index 0 (omega arith))

pub loop-c-preserved : goal.loop-c-preserved
loop-c-preserved g c =
    let s = c.settle_from.ensures in
    let v = c.loop-c.invariant in
    record {
      width = s.width;
      withdrawn_width = s.withdrawn_width;
      added_width = s.added_width;
      settled = λ k h. elim (has-more c.args.changed.now c.loop-c.c-index k (omega arith) h) [
        | inl m ↦ settled-kept s.moves (v.settled k m)
        | inr q ↦
            subst (λ z. IsSettled (root_at g.T.Cover.covering c.args.self.now c.args.need.now.members) (covers_at g.T.Cover.covering c.args.self.now) c.args.need.now.members z
            c.settle_from.new.roots.members c.settle_from.new.withdrawn.members c.settle_from.new.added.members) (sym q) s.settled
      ];
      moves = moves-on v.moves s.moves;
    }
