-- The session of a client at its home, where the cores are those at the end of a journal.
use Rattle.std.proofs.Common.{◌≡◌, ℕ, suc, ◌-◌, List, Some, slice_get, refl, ap, ◌∙◌, arith}
use Rattle.base.specs.Sets.{Has}
use Rattle.net_model.specs.Parts.{NetParts, EntryParts}
use Rattle.net_model.specs.Meaning.{deliveries_of}
use Rattle.net_model.specs.Nets.{home_of}
use Rattle.server_spec.specs.Session.{SessionParts}
use Rattle.server_core.specs.Clients.{bare}
use Rattle.server_core.specs.Core.{CoreParts}
use Rattle.net_turns.specs.Network.{network_parts, moment_by, received_by}
use Rattle.net_turns.specs.Sessions.{IsSessionOf}
use Rattle.sequential_network.specs.Inboxes.{HaveInboxes}
use Rattle.sequential_network.specs.Stepping.{peers}
use Rattle.sequential_network.proofs.Commanding.{lives_there, taken_there, script_there, home_place}
use Rattle.thread_outcome.specs.Outcome.{IsEndOf}
use Rattle.sequential_network.proofs.Sessions.{one-semantics}

module _ (net : NetParts) (cores : List CoreParts) (journal : List EntryParts) (end : IsEndOf net cores journal) where
  pub session-at : (client : ℕ) (core : CoreParts) → slice_get cores (home_of net client - 1) ≡ Some core
      → (s : SessionParts) → Has (bare s) core.clients → s.client ≡ client → s.semantics ≡ core.control.semantics → IsSessionOf (network_parts net journal) client s
  session-at client core at s h e semantics = record {
    semantics = semantics ∙ one-semantics net.semantics core.control.semantics (end.cores_are.states (home_of net client - 1) core at).control.adverts;
    script = script_there net end.sound end.phase (moment_by net journal).state cores end.cores_are client core at (bare s) h e;
    taken = taken_there net end.sound end.phase (moment_by net journal).state cores end.cores_are client core at (bare s) h e;
    inbox = (end.cores_are.states (home_of net client - 1) core at).inboxes (bare s) h
        ∙ ap (λ z. deliveries_of (((moment_by net journal).state.state (suc (home_of net client - 1))).inbox z)) e
        ∙ ap (λ z. deliveries_of (((moment_by net journal).state.state z).inbox client)) (home_place net end.sound end.phase (moment_by net journal).state cores end.cores_are client);
  }

  -- no inbox is handed on yet
  pub have-all : HaveInboxes peers net (received_by net journal) 0 cores
  have-all = record {
    all = end.cores_are.all;
    nets = λ client core l m at. end.cores_are.nets (home_of net client - 1) core at;
    lives = λ client core l m at. lives_there net end.sound end.phase (moment_by net journal).state cores end.cores_are client (omega (arith, l), m) core at;
    inbox = λ client core s l m at h e.
        (end.cores_are.states (home_of net client - 1) core at).inboxes s h
        ∙ ap (λ z. deliveries_of (((moment_by net journal).state.state (suc (home_of net client - 1))).inbox z)) e
        ∙ ap (λ z. deliveries_of (((moment_by net journal).state.state z).inbox client)) (home_place net end.sound end.phase (moment_by net journal).state cores end.cores_are client);
  }
