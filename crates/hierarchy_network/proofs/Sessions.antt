-- Proves which session a client has at its home server.
use Rattle.std.proofs.Common.{◌≡◌, ℕ, suc, ◌-◌, Some, slice_get, ap, ◌∙◌}
use Rattle.base.specs.Sets.{Has}
use Rattle.net_model.specs.Parts.{NetParts}
use Rattle.net_model.specs.Meaning.{deliveries_of}
use Rattle.net_model.specs.Nets.{home_of}
use Rattle.server_spec.specs.Session.{SessionParts}
use Rattle.server_core.specs.Clients.{bare}
use Rattle.hierarchy_network.specs.Core.{HierarchyParts}
use Rattle.hierarchy_turns.specs.Network.{moment_by, executed_by, received_by}
use Rattle.hierarchy_network.specs.Kept.{IsNetwork}
use Rattle.sequential_network.specs.Acted.{Servers}
use Rattle.sequential_network.specs.Ruling.{IsSessionAt}
use Rattle.hierarchy_network.proofs.Commanding.{taken_there, script_there, home_place}

pub session_of : (net : NetParts) (phase : ℕ) (now : Servers HierarchyParts) (kept : IsNetwork net phase now) (client : ℕ) (parts : HierarchyParts) → slice_get now.cores (home_of net client - 1) ≡ Some parts
    → (s : SessionParts) → Has (bare s) parts.core.clients → s.client ≡ client → s.semantics ≡ parts.core.net.semantics → IsSessionAt net client (executed_by net now.journal client) (received_by net now.journal client) s
session_of net phase now kept client parts at s h e semantics = record {
  semantics = semantics ∙ ap (λ (n : NetParts). n.semantics) (kept.cores.nets (home_of net client - 1) parts at);
  script = script_there net kept.sound (moment_by net now.journal).network now.cores kept.cores client parts at (bare s) h e;
  taken_is = taken_there net kept.sound (moment_by net now.journal).network now.cores kept.cores client parts at (bare s) h e;
  inbox_is = (kept.cores.states (home_of net client - 1) parts at).stands.inboxes (bare s) h
      ∙ ap (λ z. deliveries_of (((moment_by net now.journal).network.state (suc (home_of net client - 1))).inbox z)) e
      ∙ ap (λ z. deliveries_of (((moment_by net now.journal).network.state z).inbox client)) (home_place net kept.sound (moment_by net now.journal).network now.cores kept.cores client);
}
