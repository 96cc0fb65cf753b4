-- What contracts see of a network, its net and its journal, and what follows from these.
use Rattle.std.specs.Prelude.{◌≡◌, ℕ, List, ◌++◌, length, slice_get, Option, Some, None}
use Rattle.law_phases.specs.Trees.{net_at, at_phase}
use Rattle.law_phases.specs.Moments.{Moment, opening_moment, moment_of}
use Rattle.law_phases.specs.Runs.{IsRunTo}
use Rattle.law_routing.specs.Net.{PhasedCommand}
use Rattle.law_routing.specs.Rest.{IsDrained}
use Rattle.net_model.specs.Real.{real}
use Rattle.filter_text.specs.Deliveries.{Delivery}
use Rattle.net_model.specs.Parts.{NetParts, EntryParts}
use Rattle.net_model.specs.Meaning.{journal_of, deliveries_of}
use Rattle.net_model.specs.Nets.{phased_net, home_of, script_of}
use Rattle.net_model.specs.Lists.{refused_ordinals}

-- a network: its net, and what its servers did
pub record NetworkParts : Type 0 where
  pub net : NetParts
  pub journal : List EntryParts

abbrev pub network_parts : NetParts → List EntryParts → NetworkParts
network_parts net journal = record { net = net; journal = journal }

-- the moment after a journal of a net: the state of all servers and links, and the phase of the last command
abbrev pub moment_by : (net : NetParts) → List EntryParts → Moment real (phased_net net)
moment_by net journal = moment_of real (phased_net net) (journal_of journal) (length (journal_of journal))

-- A LEGAL RUN of the net from the opening
abbrev pub IsLegal : NetParts → List EntryParts → Type 0
IsLegal net journal = IsRunTo real (phased_net net) (opening_moment real (phased_net net)) (journal_of journal) (moment_by net journal)

-- then all commands are executed, all links are empty and nothing is pending
abbrev pub IsDrainedBy : NetParts → List EntryParts → Type 0
IsDrainedBy net journal = IsDrained real (net_at real (phased_net net) (moment_by net journal).phase)
    (at_phase real (phased_net net) (moment_by net journal).phase (moment_by net journal).state)

-- how many of a client's commands are executed then
abbrev pub executed_by : NetParts → List EntryParts → ℕ → ℕ
executed_by net journal client = ((moment_by net journal).state.state (home_of net client)).done client

-- the phase of a command, where there is one
abbrev pub phase_in : Option (PhasedCommand real) → Option ℕ
phase_in None = None
phase_in (Some command) = Some command.phase

-- the phase of a client's next command then
abbrev pub next_phase_by : NetParts → List EntryParts → ℕ → Option ℕ
next_phase_by net journal client = phase_in (slice_get (script_of net client) (executed_by net journal client))

-- what was delivered to a client by then
abbrev pub received_by : NetParts → List EntryParts → ℕ → List Delivery
received_by net journal client = deliveries_of (((moment_by net journal).state.state (home_of net client)).inbox client)

-- the ordinals of its publishes that were refused by then
abbrev pub refused_by : NetParts → List EntryParts → ℕ → List ℕ
refused_by net journal client = refused_ordinals net client (executed_by net journal client)

-- the network went on: its net stayed, and its journal begins with what it was
pub record IsLater (old new : NetworkParts) : Type 0 where
  pub made : List EntryParts
  pub later : new ≡ network_parts old.net (old.journal ++ made)
