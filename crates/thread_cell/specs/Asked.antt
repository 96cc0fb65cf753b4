-- What a cell answers to what it is asked.
use Rattle.std.specs.Prelude.{◌≡◌, ℕ, List, []}
use Rattle.base.specs.Sets.{Has}
use Rattle.net_model.specs.declared.turn.Act.{Act}
use Rattle.net_model.specs.Parts.{EntryParts}
use Rattle.net_model.specs.Nets.{clients_of, topology_at}
use Rattle.base_tree.specs.Tree.{links_of}
use Rattle.server_core.specs.Clients.{client_numbers}
use Rattle.server_core.specs.Step.{last_stamp}
use Rattle.net_model.specs.declared.turn.Act.TheVariants.{Command, Receive, TableUpdate}
use Rattle.thread_cell.specs.declared.turned.Turned.{Turned}
use Rattle.thread_cell.specs.declared.turned.Turned.TheVariants.{Made, Stale, Idle}
use Rattle.thread_cell.specs.declared.held.ServerInHand.{ServerInHand}
use Rattle.thread_cell.specs.declared.held.Root.{Root}
use Rattle.thread_cell.specs.Acted.{StampedInput}
use Rattle.thread_cell.specs.Links.{IsNeighbour}
use Rattle.thread_cell.specs.LaneReceiving.{HasMissed, HasSeen}
use Rattle.thread_cell.specs.Turns.{HasCommand, IsCellTurn, IsStill, IsWornAt}

-- who is named is there: a client lives at the cell's server, a server is a neighbour in the tree of its phase
abbrev pub Suits : Act → Root → Type 0
Suits (Command client) root = Has client (clients_of root.net.value root.server)
Suits (Receive from) root = Has from (links_of (topology_at root.net.value root.phase) root.server)
Suits TableUpdate root = Unit {0}

-- so it is in hand
abbrev pub SuitsHeld : Act → ServerInHand → Type 0
SuitsHeld (Command client) held = Has client (client_numbers held.core.clients)
SuitsHeld (Receive from) held = Has from held.core.control.links
SuitsHeld TableUpdate held = Unit {0}

-- there is something to do: a command of the phase; a message, so that the misses of its lane stay; something pending
abbrev pub IsBusy : ℕ → Act → ServerInHand → ServerInHand → Type 0
IsBusy phase (Command client) old new = HasCommand old.core client phase
IsBusy phase (Receive from) old new = (place : ℕ) × IsNeighbour place from old.links.items × HasSeen place old.links.items new.links.items
IsBusy phase TableUpdate old new = old.core.pending ≡ [] → ⊥

-- there is nothing to do: no command of the phase; no message, and the misses of that lane rise; nothing pending
abbrev pub IsIdleStep : ℕ → Act → ServerInHand → ServerInHand → Type 0
IsIdleStep phase (Command client) old new = HasCommand old.core client phase → ⊥
IsIdleStep phase (Receive from) old new = (place : ℕ) × IsNeighbour place from old.links.items × HasMissed place old.links.items new.links.items
IsIdleStep phase TableUpdate old new = old.core.pending ≡ []

-- the step was made
pub record IsMadeStep (phase : ℕ) (what : Act) (old new : ServerInHand) (before after : List EntryParts) : Type 0 where
  pub input : StampedInput
  pub turn : IsCellTurn phase input what old new before after
  pub busy : IsBusy phase what old new

-- WHAT IS ANSWERED without a match ahead: the step was made, or nothing was done since there was nothing to do
abbrev pub Answers : ℕ → Act → ServerInHand → ServerInHand → List EntryParts → List EntryParts → Turned → Type 0
Answers phase what old new before after Made = IsMadeStep phase what old new before after
Answers phase what old new before after Stale = ⊥
Answers phase what old new before after Idle = IsStill old new before after × IsIdleStep phase what old new

-- why no stamp is left: by the clock, or by the message that comes next
abbrev pub IsWorn : Act → ℕ → ServerInHand → ServerInHand → Type 0
IsWorn (Command client) stamp old new = (old.core.clock ≡ last_stamp) × (stamp ≡ last_stamp)
IsWorn (Receive from) stamp old new = (place : ℕ) × IsNeighbour place from new.links.items × IsWornAt place old.core.clock stamp new.links.items
IsWorn TableUpdate stamp old new = (old.core.clock ≡ last_stamp) × (stamp ≡ last_stamp)
