-- Proves which session a client has at its home server.
use Rattle.std.proofs.Common.{◌≡◌, ℕ, suc, ◌-◌, Some, slice_get, refl, ap, ◌∙◌}
use Rattle.base.specs.Sets.{Has}
use Rattle.filter_text.specs.declared.semantics.Semantics.{Semantics}
use Rattle.filter_text.specs.declared.semantics.Semantics.TheVariants.{Subscription, Advertisement}
use Rattle.server_spec.specs.Control.{by_adverts}
use Rattle.net_model.specs.Parts.{NetParts}
use Rattle.net_model.specs.Meaning.{deliveries_of}
use Rattle.net_model.specs.Nets.{home_of, with_adverts}
use Rattle.server_spec.specs.Session.{SessionParts}
use Rattle.server_core.specs.Clients.{bare}
use Rattle.server_core.specs.Core.{CoreParts}
use Rattle.net_turns.specs.Network.{moment_by, executed_by, received_by}
use Rattle.sequential_network.specs.Kept.{IsNetwork}
use Rattle.sequential_network.specs.Acted.{Servers}
use Rattle.sequential_network.specs.Ruling.{IsSessionAt}
use Rattle.sequential_network.proofs.Commanding.{taken_there, script_there, home_place}

pub one-semantics : (a b : Semantics) → with_adverts a ≡ by_adverts b → b ≡ a
one-semantics Subscription Subscription e = refl
one-semantics Advertisement Advertisement e = refl
one-semantics Subscription Advertisement e = absurd cc
one-semantics Advertisement Subscription e = absurd cc

pub session_of : (net : NetParts) (phase : ℕ) (now : Servers CoreParts) (kept : IsNetwork net phase now) (client : ℕ) (core : CoreParts) → slice_get now.cores (home_of net client - 1) ≡ Some core
    → (s : SessionParts) → Has (bare s) core.clients → s.client ≡ client → s.semantics ≡ core.control.semantics → IsSessionAt net client (executed_by net now.journal client) (received_by net now.journal client) s
session_of net phase now kept client core at s h e semantics = record {
  semantics = semantics ∙ one-semantics net.semantics core.control.semantics (kept.cores.states (home_of net client - 1) core at).control.adverts;
  script = script_there net kept.sound phase (moment_by net now.journal).state now.cores kept.cores client core at (bare s) h e;
  taken_is = taken_there net kept.sound phase (moment_by net now.journal).state now.cores kept.cores client core at (bare s) h e;
  inbox_is = (kept.cores.states (home_of net client - 1) core at).inboxes (bare s) h
      ∙ ap (λ z. deliveries_of (((moment_by net now.journal).state.state (suc (home_of net client - 1))).inbox z)) e
      ∙ ap (λ z. deliveries_of (((moment_by net now.journal).state.state z).inbox client)) (home_place net kept.sound phase (moment_by net now.journal).state now.cores kept.cores client);
}
