use Rattle.std.proofs.Common.{sym, ap, subst, ◌∙◌}
use Rattle.net_model.specs.Sound.{IsSound}
use Rattle.net_model.specs.Nets.{clients_of}
use Rattle.thread_cell.proofs.Keeping.{some-server, replayed}
use Rattle.thread_cell.proofs.cell.Cell.next_phase.Goals as goal

pub next_of-requires-clause-stands : goal.next_of-requires-clause-stands
next_of-requires-clause-stands c = some-server c.self.inside.tables.now c.self.inside.root c.self.inside.journal.entries c.self.inside.held c.self.invariant.0

pub next_of-requires-clause-clients : goal.next_of-requires-clause-clients
next_of-requires-clause-clients c = ap (λ n. clients_of n c.self.inside.root.server) c.net.ensures ∙ ap (clients_of c.self.inside.tables.now) (sym c.self.invariant.0.number) ∙ (replayed c.self.inside.tables.now c.self.inside.root c.self.inside.journal.entries c.self.inside.held c.self.invariant.0).stands.state.clients

pub next_of-requires-clause-sound : goal.next_of-requires-clause-sound
next_of-requires-clause-sound c = subst IsSound (sym c.net.ensures) c.self.invariant.0.sound
