-- The clients of a net, by their numbers, are those that have commands, each once.
use Rattle.std.proofs.Common.{◌≡◌, ℕ, zero, suc, length, slice_get, Option, Some, None, refl, arith}
use Rattle.std.proofs.lemmas.Option.{slice_get_within}
use Rattle.base.specs.Sets.{Has}
use Rattle.base_tree.proofs.Servers.{in-server}
use Rattle.law_routing.specs.Net.{PhasedCommand}
use Rattle.law_phases.specs.Economy.{AreClients}
use Rattle.net_model.specs.Real.{real}
use Rattle.net_model.specs.Parts.{ClientParts, NetParts}
use Rattle.net_model.specs.Nets.{phased_net, client_at, script_in, clients_in}
use Rattle.net_model.proofs.Places.{distinct-range}

pub are-clients : (net : NetParts) → AreClients real (phased_net net) (clients_in net)
are-clients net = record {
  each = λ client command h. each client command h;
  single = distinct-range 1 (length net.clients);
}
  where
    one : (i : ℕ) (o : Option ClientParts) → slice_get net.clients i ≡ o → (command : PhasedCommand real) → Has command (script_in o) → Has (suc i) (clients_in net)
    one i None e command h = absurd h
    one i (Some client) e command h = in-server (length net.clients) (suc i) (omega arith, omega (arith, slice_get_within net.clients i client e))

    each : (client : ℕ) (command : PhasedCommand real) → Has command (script_in (client_at net.clients client)) → Has client (clients_in net)
    each zero command h = absurd h
    each (suc i) command h = one i (slice_get net.clients i) refl command h
