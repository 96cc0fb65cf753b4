-- Defines what contracts see of the sessions of a server's clients.
use Rattle.std.specs.Prelude.{◌≡◌, ℕ, ◌==◌, false, cond, suc, ◌-◌, ◌≤◌, List, [], ◌∷◌, ◌++◌, map}
use Rattle.base.specs.Sets.{Has}
use Rattle.filter_text.specs.Deliveries.{Delivery}
use Rattle.net_model.specs.Parts.{NetParts}
use Rattle.server_spec.specs.Session.{SessionParts, session_parts}
use Rattle.server_session.specs.Session.{NetSession}

-- a session as its commands and deliveries say it: nothing is announced of its room and of what it plans
abbrev pub bare : SessionParts → SessionParts
bare session = session_parts session.client session.semantics session.script session.taken session.inbox 0 false

-- the clients' numbers
abbrev pub client_numbers : List SessionParts → List ℕ
client_numbers sessions = map (λ s. s.client) sessions

-- one client's session changed
abbrev pub at_client : ℕ → (SessionParts → SessionParts) → List SessionParts → List SessionParts
at_client client change sessions = map (λ s. cond (s.client == client) (change s) s) sessions

-- one more delivery, which takes up room
abbrev pub handed : Delivery → SessionParts → SessionParts
handed delivery s = session_parts s.client s.semantics s.script s.taken (s.inbox ++ delivery ∷ []) (s.room - 1) s.planned

-- one more command executed
abbrev pub stepped : SessionParts → SessionParts
stepped s = session_parts s.client s.semantics s.script (suc s.taken) s.inbox s.room false

-- its inbox handed on
abbrev pub emptied : SessionParts → SessionParts
emptied s = session_parts s.client s.semantics s.script s.taken [] 0 s.planned

-- each of these clients has room for one more delivery
abbrev pub HaveRoom : List ℕ → List SessionParts → Type 0
HaveRoom clients sessions = (s : SessionParts) → Has s sessions → Has s.client clients → 1 ≤ s.room

-- each session had one of its client before, which was planned alike
abbrev pub StayPlanned : List SessionParts → List SessionParts → Type 0
StayPlanned old new = (s : SessionParts) → Has s new → (t : SessionParts) × Has t old × (t.client ≡ s.client) × (t.planned ≡ s.planned)

-- each session had one of its client before, which was planned alike and had no more room
abbrev pub HaveMoreRoom : List SessionParts → List SessionParts → Type 0
HaveMoreRoom old new = (s : SessionParts) → Has s new → (t : SessionParts) × Has t old × (t.client ≡ s.client) × (t.room ≤ s.room) × (t.planned ≡ s.planned)

-- the sessions that are kept, as contracts see them
abbrev pub sessions_in : List NetSession → List SessionParts
sessions_in sessions = map (λ s. s.session) sessions

-- they are of one net
abbrev pub AreOf : NetParts → List NetSession → Type 0
AreOf net sessions = (s : NetSession) → Has s sessions → s.net ≡ net

-- the net whose run it is in, and the sessions of a server's clients
pub record ClientsParts : Type 0 where
  pub net : NetParts
  pub sessions : List SessionParts

abbrev pub clients_parts : NetParts → List SessionParts → ClientsParts
clients_parts net sessions = record { net = net; sessions = sessions }
