use Rattle.std.proofs.Common.{ap, ◌∙◌}
use Rattle.base_bits.specs.Rows.{is_in}
use Rattle.base_order.specs.Order.{root_at}
use Rattle.base_order.proofs.SettledRoots.{set-own, moves-one, moves-at}
use Rattle.base_order.proofs.order.Order.settle.Goals as goal

pub returns-clause-own : goal.returns-clause-own
returns-clause-own g c = ap (is_in c.args.i) c.set_to-was.ensures.members ∙ (set-own c.args.i c.is_root-is_root.result c.args.roots.now.members ∙ c.is_root-is_root.ensures)

pub returns-clause-moves : goal.returns-clause-moves
returns-clause-moves g c =
    moves-at
    (moves-one (root_at g.T.Cover.covering c.args.self.now c.args.need.now.members) c.args.i c.args.roots.now.members c.args.withdrawn.now.members c.args.added.now.members
    c.is_root-is_root.result c.set_to-was.result c.is_root-is_root.ensures c.set_to-was.ensures.was)
    c.set_to-was.ensures.members c.put_if.ensures.members c.put_if-2.ensures.members
