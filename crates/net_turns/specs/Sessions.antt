-- Defines what the session of a client is in a network.
use Rattle.std.specs.Prelude.{◌≡◌, ℕ, nat_lt, Bool, false, map, Option, Some, None}
use Rattle.net_model.specs.Meaning.{phased_command}
use Rattle.net_model.specs.Nets.{script_of}
use Rattle.server_spec.specs.Session.{SessionParts}
use Rattle.net_turns.specs.Network.{NetworkParts, executed_by, received_by}

-- it has the client's script, of which as many commands are executed as in the run, and the texts of what was delivered to the client
pub record IsSessionOf (network : NetworkParts) (client : ℕ) (session : SessionParts) : Type 0 where
  pub semantics : session.semantics ≡ network.net.semantics
  pub script : map phased_command session.script ≡ script_of network.net client
  pub taken : session.taken ≡ executed_by network.net network.journal client
  pub inbox : session.inbox ≡ received_by network.net network.journal client

-- a next command, if there is one, is of a phase below this one
abbrev pub is_phase_below : Option ℕ → ℕ → Bool
is_phase_below None own = false
is_phase_below (Some phase) own = nat_lt phase own
