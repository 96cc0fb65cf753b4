use Rattle.std.proofs.Common.{◌≡◌, take}
use Rattle.server_core.specs.Acting.{clients_on}
use Rattle.server_core.proofs.Going.{HaveMade}
use Rattle.server_core.proofs.spreading.make_room.Given as goal

-- the clients so far have room
abbrev pub invariant-loop-interface : goal.invariant-loop-interface
invariant-loop-interface l = (l.clients.net ≡ l.fn.clients.net) × HaveMade (clients_on (take l.interface-index l.fn.route)) l.fn.clients.sessions l.clients.sessions
