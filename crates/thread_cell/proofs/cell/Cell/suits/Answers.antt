use Rattle.std.proofs.Common.{sym, subst}
use Rattle.net_model.specs.Parts.{NetParts}
use Rattle.net_model.specs.Nets.{topology_at}
use Rattle.net_model.specs.Sound.{IsSound}
use Rattle.base_tree.specs.Tree.{IsServer}
use Rattle.thread_cell.proofs.Trees.{server-known}
use Rattle.thread_cell.proofs.cell.Cell.suits.Goals as goal

pub are_neighbours-requires-clause-server : goal.are_neighbours-requires-clause-server
are_neighbours-requires-clause-server c =
    subst (λ (n : NetParts). IsServer (topology_at n c.self.inside.root.phase) c.self.inside.root.server) (sym c.net-in-Receive.ensures) (server-known c.self.inside.tables.now c.self.inside.root c.self.inside.journal.entries c.self.inside.held c.self.invariant.0)

pub are_neighbours-requires-clause-sound : goal.are_neighbours-requires-clause-sound
are_neighbours-requires-clause-sound c = subst IsSound (sym c.net-in-Receive.ensures) c.self.invariant.0.sound
