use Rattle.std.proofs.Common.{◌≡◌, take}
use Rattle.net_inbox.specs.Inbox.{delivery_at}
use Rattle.net_tables.specs.Found.{known_deliveries}
use Rattle.server_core.specs.Clients.{clients_parts}
use Rattle.server_core.specs.Acting.{clients_on}
use Rattle.server_core.proofs.Going.{all_handed}
use Rattle.server_core.proofs.spreading.deliver.Given as goal

-- the clients so far have the delivery
abbrev pub invariant-loop-interface : goal.invariant-loop-interface
invariant-loop-interface l = l.clients ≡ clients_parts l.fn.clients.net
    (all_handed (delivery_at (known_deliveries l.fn.clients.net.clients) l.fn.number) (clients_on (take l.interface-index l.fn.route)) l.fn.clients.sessions)
