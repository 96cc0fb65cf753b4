-- Where a run may begin: at the opening, or at the beginning of a later phase.
use Rattle.std.specs.Prelude.{◌≡◌, ℕ, ◌≤◌, []}
use Rattle.base.specs.Sets.{Has}
use Rattle.law_machine.specs.Runs.{greatest}
use Rattle.law_routing.specs.Theory.{Theory}
use Rattle.law_routing.specs.Net.{Net}
use Rattle.law_routing.specs.Clients.{commands_below}
use Rattle.law_routing.specs.Server.{Publication}
use Rattle.law_routing.specs.Routing.{routing_machine, Network}
use Rattle.law_routing.specs.Rest.{IsAtRest}
use Rattle.law_routing.specs.Order.{IsStrictlyRising, ordinals_delivered, IsAccepted}
use Rattle.law_routing.specs.Owed.{IsPublication, IsAllowed}

module _ (theory : Theory) (net : Net theory) where
  -- the network is at rest on links without a past, the commands of the phases below this one are executed and no others,
  -- and the inboxes hold what earlier phases may have delivered
  pub record IsStart (network : Network theory net) (phase : ℕ) : Type 0 where
    pub rest : IsAtRest theory net network
    pub fresh : (a b : ℕ) → network.put a b ≡ []
    pub counts : (server client : ℕ) → Has client (net.clients server)
        → (network.state server).done client ≡ commands_below theory phase (net.script client)
    pub clocks : (server : ℕ) → network.clock server ≤ greatest (routing_machine theory net) network.clock net.servers
    pub rising : (publisher server client : ℕ) → IsStrictlyRising (ordinals_delivered theory net publisher ((network.state server).inbox client))
    pub accepted : (server client : ℕ) (x : Publication theory) → Has x ((network.state server).inbox client)
        → IsAccepted theory net network x.publisher x.ordinal x.notice
    pub allowed : (server client : ℕ) (x : Publication theory) → Has client (net.clients server) → Has x ((network.state server).inbox client)
        → (earlier : ℕ) × IsPublication theory net x.publisher x.ordinal earlier x.notice × IsAllowed theory net earlier x.notice client
