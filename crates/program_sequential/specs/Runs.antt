-- Defines the run that is wanted of a document: its turns, and what the clients have by its end.
use Rattle.std.specs.Prelude.{◌≡◌, ◌⊎◌, ℕ, ◌≤◌, ◌<◌, List, [], ◌∷◌, ◌++◌, length}
use Rattle.base.specs.Sets.{Has}
use Rattle.filter_text.specs.Deliveries.{Delivery}
use Rattle.net_model.specs.declared.turn.Turn.{Turn}
use Rattle.net_model.specs.Parts.{NetParts, EntryParts}
use Rattle.net_model.specs.Meaning.{journal_of}
use Rattle.net_turns.specs.Network.{refused_by, received_by}
use Rattle.net_turns.specs.Turns.{AreMade}
use Rattle.net_turns.specs.Walked.{walk_after}
use Rattle.program_sequential.specs.declared.words.Schedule.{Schedule}
use Rattle.program_sequential.specs.declared.words.Schedule.TheVariants.{Walk, Replay, Threads}
use Rattle.net_model.specs.Nets.{of_clients}

-- the turns that are made before the walk: for `replay` those of the document's schedule
abbrev pub turns_first : Schedule → NetParts → List (ℕ × Turn)
turns_first Walk net = []
turns_first Replay net = net.schedule
turns_first Threads net = []

-- turns one after the other, and then the walk to its end
pub record GoesOn (first : List (ℕ × Turn)) (net : NetParts) (journal : List EntryParts) : Type 0 where
  pub turned : List EntryParts
  pub walked : List EntryParts
  pub whole : journal ≡ turned ++ walked
  pub made : AreMade net [] first turned
  pub walk : journal_of walked ≡ walk_after net turned

-- each entry stands before all of later stamps, and of the same stamp before those of greater servers
abbrev pub IsByStamp : List EntryParts → Type 0
IsByStamp [] = Unit {0}
IsByStamp (entry ∷ entries) =
    ((other : EntryParts) → Has other entries → (entry.stamp < other.stamp) ⊎ ((entry.stamp ≡ other.stamp) × (entry.server < other.server)))
    × IsByStamp entries

-- THE JOURNAL GOES BY THE SCHEDULE: for `walk` it is the walk, for `replay` the document's turns and then the walk; for `run` it is in the order of stamps
-- and servers, whatever turns the threads made
abbrev pub GoesBy : Schedule → NetParts → List EntryParts → Type 0
GoesBy Walk net journal = journal_of journal ≡ walk_after net []
GoesBy Replay net journal = GoesOn net.schedule net journal
GoesBy Threads net journal = IsByStamp journal

-- a client of the net
abbrev pub IsClient : NetParts → ℕ → Type 0
IsClient net client = (1 ≤ client) × (client ≤ length net.clients)

-- of each client the ordinals of its publishes that were refused in a run
abbrev pub refused_in : NetParts → List EntryParts → List (List ℕ)
refused_in net journal = of_clients net (refused_by net journal)

-- and what was delivered to it, in order
abbrev pub received_in : NetParts → List EntryParts → List (List Delivery)
received_in net journal = of_clients net (received_by net journal)
