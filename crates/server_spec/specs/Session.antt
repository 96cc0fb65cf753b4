-- What contracts see of a session, and what its client's lists are after so many commands.
use Rattle.std.specs.Prelude.{◌≡◌, ℕ, zero, ◌≤◌, Bool, List, [], length, map, take}
use Rattle.filter_constraints.specs.Constraint.{ConstraintParts}
use Rattle.filter_text.specs.declared.command.Command.{Command}
use Rattle.filter_text.specs.declared.semantics.Semantics.{Semantics}
use Rattle.filter_text.specs.Deliveries.{Delivery}
use Rattle.law_routing.specs.Net.{PhasedCommand, Net}
use Rattle.law_routing.specs.Clients.{refused_from, ordinal}
use Rattle.net_model.specs.Real.{real}
use Rattle.net_model.specs.Meaning.{phased_command}
use Rattle.net_model.specs.Nets.{with_adverts}
use Rattle.net_model.specs.Adding.{own_filters, own_adverts}
use Rattle.server_spec.specs.Inbox.{AreDeliveries}

-- a session: its client, the semantics, the client's commands with their phases, how many of them were executed, its inbox, for how many
-- more deliveries there is room, and whether the next command is planned
pub record SessionParts : Type 0 where
  pub client : ℕ
  pub semantics : Semantics
  pub script : List (ℕ × Command)
  pub taken : ℕ
  pub inbox : List Delivery
  pub room : ℕ
  pub planned : Bool

abbrev pub session_parts : ℕ → Semantics → List (ℕ × Command) → ℕ → List Delivery → ℕ → Bool → SessionParts
session_parts client semantics script taken inbox room planned = record {
  client = client;
  semantics = semantics;
  script = script;
  taken = taken;
  inbox = inbox;
  room = room;
  planned = planned;
}

-- the first so many commands of the client
abbrev pub first_commands : SessionParts → ℕ → List (PhasedCommand real)
first_commands session count = take count (map phased_command session.script)

-- the client's filters after so many commands, in the order in which they were added
abbrev pub filters_at : SessionParts → ℕ → List (List ConstraintParts)
filters_at session count = own_filters real [] (first_commands session count)

-- its advertisements
abbrev pub adverts_at : SessionParts → ℕ → List (List ConstraintParts)
adverts_at session count = own_adverts real [] (first_commands session count)

-- how many publishes there are among them
abbrev pub publishes_at : SessionParts → ℕ → ℕ
publishes_at session count = ordinal real (first_commands session count)

-- a net of these semantics, of which nothing else is asked here
abbrev pub net_under : Semantics → Net real
net_under semantics = record {
  adverts = with_adverts semantics;
  servers = [];
  links = λ server. [];
  hop = λ server other. zero;
  home = λ client. zero;
  clients = λ server. [];
  script = λ client. [];
}

-- the ordinals of its refused publishes
abbrev pub refused_at : SessionParts → ℕ → List ℕ
refused_at session count = refused_from real (net_under session.semantics) [] 0 (first_commands session count)

-- what a session keeps beside what contracts see: the lists of the commands executed, with room for one more where the next is planned
pub record IsSession (session : SessionParts) (filters adverts : List (List ConstraintParts)) (refused : List ℕ) (publishes : ℕ) : Type 0 where
  pub own_filters : filters ≡ filters_at session session.taken
  pub own_adverts : adverts ≡ adverts_at session session.taken
  pub all_refused : refused ≡ refused_at session session.taken
  pub counted : publishes ≡ publishes_at session session.taken
  pub few : ordinal real (map phased_command session.script) ≤ 100000
  pub within : session.taken ≤ length session.script
  pub texts : AreDeliveries session.inbox
