use Rattle.std.proofs.Common.{◌≡◌, take}
use Rattle.server_core.specs.Clients.{AreOf, sessions_in}
use Rattle.server_core.proofs.Starting.{IsHome}
use Rattle.server_core.proofs.start.at_home.Given as goal

abbrev pub invariant-loop-client : goal.invariant-loop-client
invariant-loop-client l =
    IsHome l.fn.tables.semantics l.server (take l.client-index l.client-items) l.numbers.items (sessions_in l.sessions.items) × (l.number ≡ l.client-index) × AreOf l.fn.tables l.sessions.items
