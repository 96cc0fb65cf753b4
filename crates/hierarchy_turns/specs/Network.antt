-- What follows from the net and the journal of a network of a hierarchy.
use Rattle.std.specs.Prelude.{ℕ, List, length, map, slice_get, Option}
use Rattle.law_machine.specs.Machine.{Machine}
use Rattle.law_machine.specs.Runs.{IsRun}
use Rattle.law_machine.specs.History.{Moment, moment_after}
use Rattle.law_routing.specs.Net.{Net}
use Rattle.law_routing.specs.Rest.{IsDrained}
use Rattle.law_phases.specs.Trees.{net_at}
use Rattle.net_model.specs.Real.{real}
use Rattle.law_hierarchy.specs.Step.{hierarchy_machine, HierarchyEntry, opening, as_peers}
use Rattle.law_hierarchy.specs.Masters.{HierarchyLaws}
use Rattle.law_hierarchy.specs.HierarchyRun.{HierarchyRun}
use Rattle.filter_text.specs.Deliveries.{Delivery}
use Rattle.net_model.specs.Parts.{NetParts, EntryParts}
use Rattle.net_model.specs.Meaning.{act_of, deliveries_of}
use Rattle.net_model.specs.Nets.{phased_net, home_of, script_of}
use Rattle.net_model.specs.Lists.{refused_ordinals}
pub use Rattle.net_turns.specs.Network.{NetworkParts, network_parts, phase_in, IsLater}

-- the net on the tree of phase 0, which a hierarchy has in all phases
abbrev pub net_of : NetParts → Net real
net_of net = net_at real (phased_net net) 0

-- its servers
abbrev pub servers_of : NetParts → Machine
servers_of net = hierarchy_machine real (net_of net)

-- an entry, and a journal
abbrev pub entry_in : (net : NetParts) → EntryParts → HierarchyEntry real (net_of net)
entry_in net entry = record { stamp = entry.stamp; server = entry.server; act = act_of entry.act; outs = entry.outs }

abbrev pub journal_in : (net : NetParts) → List EntryParts → List (HierarchyEntry real (net_of net))
journal_in net journal = map (entry_in net) journal

-- the moment before the first turn
abbrev pub opening_of : (net : NetParts) → Moment (servers_of net)
opening_of net = record { network = opening real (net_of net); phase = 0 }

-- the moment after a journal: the state of all servers and links, and the phase of the last command
abbrev pub moment_by : (net : NetParts) → List EntryParts → Moment (servers_of net)
moment_by net journal = moment_after (servers_of net) (opening_of net) (journal_in net journal) (length (journal_in net journal))

-- A LEGAL RUN of the hierarchy from the opening
abbrev pub IsLegal : NetParts → List EntryParts → Type 0
IsLegal net journal =
    IsRun (servers_of net) (opening_of net).network 0 (journal_in net journal) (moment_by net journal).network (moment_by net journal).phase

-- as one of the laws of runs
abbrev pub run_of : (net : NetParts) → HierarchyLaws real (net_of net) → (journal : List EntryParts) → IsLegal net journal → HierarchyRun real
run_of net laws journal legal = record {
  net = net_of net;
  laws = laws;
  journal = journal_in net journal;
  end = (moment_by net journal).network;
  last = (moment_by net journal).phase;
  legal = legal;
}

-- then all commands are executed, all links are empty and nothing is pending
abbrev pub IsDrainedBy : NetParts → List EntryParts → Type 0
IsDrainedBy net journal = IsDrained real (net_of net) (as_peers real (net_of net) (moment_by net journal).network)

-- how many of a client's commands are executed then
abbrev pub executed_by : NetParts → List EntryParts → ℕ → ℕ
executed_by net journal client = ((moment_by net journal).network.state (home_of net client)).done client

-- the phase of a client's next command then
abbrev pub next_phase_by : NetParts → List EntryParts → ℕ → Option ℕ
next_phase_by net journal client = phase_in (slice_get (script_of net client) (executed_by net journal client))

-- what was delivered to a client by then
abbrev pub received_by : NetParts → List EntryParts → ℕ → List Delivery
received_by net journal client = deliveries_of (((moment_by net journal).network.state (home_of net client)).inbox client)

-- the ordinals of its publishes that were refused by then
abbrev pub refused_by : NetParts → List EntryParts → ℕ → List ℕ
refused_by net journal client = refused_ordinals net client (executed_by net journal client)
