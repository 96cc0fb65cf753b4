-- The turns of commands, server by server and client by client.
use Rattle.std.proofs.Common.{◌≡◌, ℕ, ◌+◌, ◌-◌, ◌<◌, ◌≤◌, ◌==◌, List, [], ◌∷◌, ◌++◌, length, get_or, drop, sym, ap, subst, ◌∙◌, eqb-true}
use Rattle.std.proofs.lemmas.Option.{slice_get-get_or}
use Rattle.base.specs.Sets.{Has}
use Rattle.base.proofs.Roots.{filter-Has}
use Rattle.base_tree.specs.Graph.{servers_to}
use Rattle.base_tree.proofs.Servers.{server-in, in-server}
use Rattle.law_machine.specs.Machine.{Did}
use Rattle.law_machine.specs.Walk.{repeated}
use Rattle.law_routing.specs.Step.{NextCommand}
use Rattle.law_routing.specs.Walk.{client_turns, command_turns}
use Rattle.law_phases.specs.Trees.{net_at, machine_at}
use Rattle.net_model.specs.Real.{real}
use Rattle.net_model.specs.Parts.{NetParts}
use Rattle.net_model.specs.Nets.{phased_net, first_tree, servers_in, home_of, clients_of, script_of}
use Rattle.net_turns.specs.Trying.{script_turns, server_turns}
use Rattle.net_turns.proofs.Ranges.{servers-next}
use Rattle.base.proofs.Sets.{get-has}
use Rattle.base.proofs.Lists.{drop-next}

-- a client of a server is one of the net's, and lives there
pub record LivesAt (net : NetParts) (server client : ℕ) : Type 0 where
  pub some : 1 ≤ client
  pub most : client ≤ length net.clients
  pub home : home_of net client ≡ server

pub client-lives : (net : NetParts) (server : ℕ) (clients : List ℕ) (i : ℕ) → clients ≡ clients_of net server → i < length clients → LivesAt net server (get_or clients i 0)
client-lives net server clients i e less =
    let has = subst (Has (get_or clients i 0)) e (get-has clients i (get_or clients i 0) (slice_get-get_or clients i 0 less)) in
    let x = filter-Has (λ client. home_of net client == server) (get_or clients i 0) (servers_to (length net.clients)) has in
    let among = server-in (length net.clients) (get_or clients i 0) x.0 in
    record { some = among.0; most = among.1; home = eqb-true (home_of net (get_or clients i 0)) server x.1 }

-- the turns of a server's commands from one of its clients on
pub clients-left : (net : NetParts) (phase server : ℕ) (clients : List ℕ) (i : ℕ) → clients ≡ clients_of net server → i < length clients
    → client_turns real (net_at real (phased_net net) phase) server (drop i (clients_of net server))
    ≡ script_turns net phase (get_or clients i 0) ++ client_turns real (net_at real (phased_net net) phase) server (drop (i + 1) (clients_of net server))
clients-left net phase server clients i e less =
    ap (client_turns real (net_at real (phased_net net) phase) server) (sym (ap (drop i) e) ∙ (drop-next clients i 0 less ∙ ap (λ z. get_or clients i 0 ∷ drop (i + 1) z) e))
    ∙ ap (λ z. repeated (machine_at real (phased_net net) phase) (length (script_of net (get_or clients i 0))) ((z, Did (NextCommand (get_or clients i 0))) ∷ []) ++ client_turns real (net_at real (phased_net net) phase) server (drop (i + 1) (clients_of net server))) (sym (client-lives net server clients i e less).home)

-- the turns of all commands from a server on
pub servers-left : (net : NetParts) (phase count server : ℕ) → count ≡ (first_tree net.trees).count → 1 ≤ server → server ≤ count
    → command_turns real (net_at real (phased_net net) phase) (drop (server - 1) (servers_in net))
    ≡ server_turns net phase server ++ command_turns real (net_at real (phased_net net) phase) (drop (server + 1 - 1) (servers_in net))
servers-left net phase count server e some most =
    ap (command_turns real (net_at real (phased_net net) phase)) (subst (λ n. drop (server - 1) (servers_to n) ≡ server ∷ drop (server + 1 - 1) (servers_to n)) e (servers-next count server some most))

pub server-there : (net : NetParts) (count server : ℕ) → count ≡ (first_tree net.trees).count → 1 ≤ server → server ≤ count → Has server (servers_in net)
server-there net count server e some most = subst (λ n. Has server (servers_to n)) e (in-server count server (some, most))
