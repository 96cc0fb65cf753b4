use Rattle.std.proofs.Common.{◌≡◌, ℕ, take, length}
use Rattle.base.specs.Sets.{Has}
use Rattle.base_order.specs.Order.{covers_at, root_at, IsSettled, Moves}
use Rattle.base_order.proofs.order.Order.settle_each.Given as goal

abbrev pub invariant-loop-c : goal.invariant-loop-c
invariant-loop-c g l =
    let final = root_at g.T.Cover.covering l.self l.need.members in
    record {
      width : l.roots.width ≡ length l.self;
      withdrawn_width : l.withdrawn.width ≡ length l.self;
      added_width : l.added.width ≡ length l.self;
      settled : (c : ℕ) → Has c (take l.c-index l.changed) → IsSettled final (covers_at g.T.Cover.covering l.self) l.need.members c l.roots.members l.withdrawn.members l.added.members;
      moves : Moves final l.fn.roots.members l.fn.withdrawn.members l.fn.added.members l.roots.members l.withdrawn.members l.added.members;
    }
