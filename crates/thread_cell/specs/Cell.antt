-- Defines what the type of a cell keeps.
use Rattle.std.specs.Prelude.{◌≡◌, ◌≤◌, ◌<◌, ◌^◌, ℕ, List, ◌++◌, map, length, take, drop, slice_get, Some}
use Rattle.base.specs.Sets.{Has}
use Rattle.law_machine.specs.Machine.{Machine}
use Rattle.law_machine.specs.Journals.{Cell, IsReplay}
use Rattle.law_phases.specs.Trees.{net_at, machine_at, entries_on}
use Rattle.net_model.specs.Real.{real}
use Rattle.filter_text.specs.MessageText.{Each}
use Rattle.filter_text.specs.declared.command.Command.{Command}
use Rattle.thread_lane.specs.Lane.{put_list}
use Rattle.net_model.specs.Parts.{NetParts, EntryParts}
use Rattle.net_model.specs.Meaning.{journal_of}
use Rattle.net_model.specs.Nets.{phased_net}
use Rattle.net_model.specs.Sound.{IsSound}
use Rattle.server_spec.specs.Session.{SessionParts}
use Rattle.server_core.specs.Core.{CoreParts, RepresentsServer}
use Rattle.thread_versions.specs.declared.publisher.Publisher.{Publisher}
use Rattle.thread_versions.specs.Pairs.{pairs_after}
use Rattle.thread_versions.specs.Ends.{pending, installed, forwarding_of, IsViewerOf}
use Rattle.thread_cell.specs.Kept.{AreOf, IsWideFor}
use Rattle.thread_cell.specs.declared.held.ServerInHand.{ServerInHand}
use Rattle.thread_cell.specs.declared.link.Link.{Link}
use Rattle.thread_cell.specs.declared.held.Root.{Root}
use Rattle.thread_cell.specs.Links.{Both, IsSameLink}
use Rattle.thread_cell.specs.LaneMessages.{put_for, taken_from}

-- what is seen of a cell
pub record CellParts : Type 0 where
  pub root : Root
  pub journal : List EntryParts
  pub held : ServerInHand

abbrev pub cell_parts : Root → List EntryParts → ServerInHand → CellParts
cell_parts root journal held = record { root = root; journal = journal; held = held }

-- how many entries its journal had when it entered its phase
abbrev pub count_before : Root → ℕ
count_before root = length root.before.value.entries

-- a cell has just entered a phase
pub record HasEntered (old : Root) (phase : ℕ) (cell : CellParts) : Type 0 where
  pub net : cell.root.net ≡ old.net
  pub server : cell.root.server ≡ old.server
  pub phase_is : cell.root.phase ≡ phase
  pub keeps : cell.root.keeps ≡ old.keeps
  pub before : cell.root.before.value.entries ≡ cell.journal
  pub core : cell.root.core.value ≡ cell.held.core
  pub links : cell.root.links.value ≡ cell.held.links
  pub viewer : cell.root.viewer ≡ old.viewer

-- the servers of a net as a machine, on the tree of a phase
abbrev pub machine_in : NetParts → ℕ → Machine
machine_in net phase = machine_at real (phased_net net) phase

-- the changes that are installed make the pairs of what the core installed, and the publisher has the core's numbers and interfaces
pub record IsInstalledBy (publisher : Publisher) (core : CoreParts) : Type 0 where
  pub wide : IsWideFor core (forwarding_of publisher)
  pub pairs : AreOf core (pairs_after (installed publisher))

-- WHAT IS IN HAND REPRESENTS A CELL of the laws of journals: the server's state and clock, and what was put and taken as its net says it
pub record RepresentsCell (net : NetParts) (phase : ℕ) (core : CoreParts) (links : List Link) (cell : Cell (machine_in net phase)) : Type 0 where
  pub state : RepresentsServer (net_at real (phased_net net) phase) core cell.state
  pub clock : core.clock ≡ cell.clock
  pub put : (link : ℕ) → put_for net links link ≡ cell.put link
  pub took : (link : ℕ) → taken_from net links link ≡ cell.took link

-- the next command of a client, if there is one, is of this phase or a later one
abbrev pub IsPast : ℕ → ℕ → List SessionParts → Type 0
IsPast phase client sessions = (s : SessionParts) (c : ℕ × Command) → Has s sessions → s.client ≡ client → slice_get s.script s.taken ≡ Some c → phase ≤ c.0

-- no client has a command of a phase below this one left: the next is of this phase or a later one, and phases never fall within a script
abbrev pub HasNoneBelow : ℕ → List SessionParts → Type 0
HasNoneBelow phase sessions = (s : SessionParts) (c : ℕ × Command) → Has s sessions → slice_get s.script s.taken ≡ Some c → phase ≤ c.0

-- and none has had one of a phase above it executed
pub record IsDue (phase : ℕ) (sessions : List SessionParts) : Type 0 where
  pub left : HasNoneBelow phase sessions
  pub taken : (s : SessionParts) (k : ℕ) (c : ℕ × Command) → Has s sessions → k < s.taken → slice_get s.script k ≡ Some c → c.0 ≤ phase

-- what one server has in hand: its lanes by its neighbours, and no lane with more messages than the clock counts; its publisher shows what the core
-- installed, and nothing is pending there but what was handed over
pub record IsServerInHand (held : ServerInHand) : Type 0 where
  pub low : held.core.clock < 2 ^ 62
  pub neighbours : map (λ link. link.neighbour) held.links.items ≡ held.core.control.links
  pub few : Each (λ link. length (put_list link.enter) ≤ held.core.clock) held.links.items
  pub shown : IsInstalledBy held.publisher held.core
  pub handed : pending held.publisher ≡ installed held.publisher ++ held.handed.items

-- the entries of the phase, replayed from a cell, lead to one that is in hand
pub record IsReplayed (net : NetParts) (root : Root) (journal : List EntryParts) (begun : Cell (machine_in net root.phase)) (held : ServerInHand) : Type 0 where
  pub end : Cell (machine_in net root.phase)
  pub replay : IsReplay (machine_in net root.phase) root.phase root.server begun
      (entries_on real (net_at real (phased_net net) root.phase) (journal_of (drop (count_before root) journal))) end
  pub stands : RepresentsCell net root.phase held.core held.links.items end

-- WHAT A CELL KEEPS: its journal begins with the entries that it had as it entered its phase, and from each cell that was in hand then the entries since
-- replay to one that is in hand
pub record IsKept (net : NetParts) (root : Root) (journal : List EntryParts) (held : ServerInHand) : Type 0 where
  pub net_is : root.net.value ≡ net
  pub sound : IsSound net
  pub run : held.core.net ≡ net
  pub number : held.core.server ≡ root.server
  pub begins : (begun : Cell (machine_in net root.phase)) × RepresentsCell net root.phase root.core.value root.links.value.items begun
  pub replays : (begun : Cell (machine_in net root.phase)) → RepresentsCell net root.phase root.core.value root.links.value.items begun
      → IsReplayed net root journal begun held
  pub entries : count_before root ≤ length journal
  pub before : take (count_before root) journal ≡ root.before.value.entries
  pub links : Both IsSameLink root.links.value.items held.links.items
  pub publisher : IsViewerOf held.publisher root.viewer.value
  pub now : IsServerInHand held
  pub due : IsDue root.phase held.core.clients
