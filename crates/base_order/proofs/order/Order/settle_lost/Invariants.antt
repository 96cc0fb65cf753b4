use Rattle.std.proofs.Common.{◌≡◌, ℕ, ◌-◌, ◌<◌, ◌≤◌, true, length}
use Rattle.base.specs.Sets.{Has}
use Rattle.base_bits.specs.Rows.{is_in}
use Rattle.base_order.specs.Order.{covers_at, root_at, Moves}
use Rattle.base_order.proofs.order.Order.settle_lost.Given as goal

abbrev pub invariant-loop-i : goal.invariant-loop-i
invariant-loop-i g l =
    let final = root_at g.T.Cover.covering l.self l.need.members in
    record {
      within : l.at ≤ length l.self;
      width : l.roots.width ≡ length l.self;
      withdrawn_width : l.withdrawn.width ≡ length l.self;
      added_width : l.added.width ≡ length l.self;
      under : (k : ℕ) → k < l.at → covers_at g.T.Cover.covering l.self l.c k ≡ true → Has k l.need.members → final k ≡ true → is_in k l.roots.members ≡ true;
      moves : Moves final l.fn.roots.members l.fn.withdrawn.members l.fn.added.members l.roots.members l.withdrawn.members l.added.members;
    }

abbrev pub decreases-loop-i : goal.decreases-loop-i
decreases-loop-i g l = length l.self - l.at
