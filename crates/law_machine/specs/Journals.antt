-- Defines the journals of the single servers, and their merge.
use Rattle.std.specs.Prelude.{◌≡◌, ℕ, suc, ◌≤◌, ◌<◌, ◌==◌, true, false, cond, List, [], ◌∷◌, ◌++◌, ◌⊎◌, length, Option, Some, None}
use Rattle.law_machine.specs.Machine.{Has, at, Machine, Input, Does, Receives, Outcome, Stamped, Entry, unstamped, next_stamp, stamped, entry_of, act_phase}
use Rattle.law_machine.specs.Network.{NetworkState, IsStep}
use Rattle.law_machine.specs.Runs.{greatest, raised, IsQuiet, IsThrough, IsRun}

-- xs is the beginning of ys
abbrev pub IsPrefix : {T : Type 0} → List T → List T → Type 0
IsPrefix {T} xs ys = (zs : List T) × (xs ++ zs ≡ ys)

module _ (machine : Machine) where
  -- what one server has in hand: its state and clock, and of each neighbour what it put for it and took from it
  pub record Cell : Type 0 where
    pub state : machine.State
    pub clock : ℕ
    pub put : ℕ → List (Stamped machine.Message)
    pub took : ℕ → List (Stamped machine.Message)

  -- what is received of each neighbour after an input
  abbrev pub took_after : (ℕ → List (Stamped machine.Message)) → Input machine.Task (Stamped machine.Message) → ℕ → List (Stamped machine.Message)
  took_after took (Does task) = took
  took_after took (Receives from message) = at took from (took from ++ message ∷ [])

  -- a cell after an input with this outcome
  abbrev pub cell_after : Cell → Input machine.Task (Stamped machine.Message) → Outcome machine.State machine.Message → Cell
  cell_after cell input outcome = record {
    state = outcome.state;
    clock = next_stamp machine cell.clock input;
    put = λ link. cell.put link ++ stamped machine (next_stamp machine cell.clock input) (outcome.outs link);
    took = took_after cell.took input;
  }

  -- a command is of this phase
  abbrev pub IsInPhase : ℕ → Option ℕ → Type 0
  IsInPhase phase None = Unit {0}
  IsInPhase phase (Some own) = own ≡ phase

  -- a server's journal within a phase, replayed, leads from one cell to the other
  abbrev pub IsReplay : ℕ → ℕ → Cell → List (Entry machine) → Cell → Type 0
  IsReplay phase server cell [] end = cell ≡ end
  IsReplay phase server cell (entry ∷ entries) end =
      IsInPhase phase (act_phase machine server cell.state entry.act)
      × (input : Input machine.Task (Stamped machine.Message)) × (outcome : Outcome machine.State machine.Message)
      × (machine.step server cell.state (unstamped machine input) ≡ Some outcome)
      × (entry ≡ entry_of machine server cell.clock input outcome)
      × IsReplay phase server (cell_after cell input outcome) entries end

  -- steps of the network one after the other, within a phase
  abbrev pub IsPhaseRun : ℕ → NetworkState machine → List (Entry machine) → NetworkState machine → Type 0
  IsPhaseRun phase network [] end = network ≡ end
  IsPhaseRun phase network (entry ∷ entries) end = (next : NetworkState machine)
      × IsInPhase phase (act_phase machine entry.server (network.state entry.server) entry.act)
      × IsStep machine network entry next × IsPhaseRun phase next entries end

  -- the network of all cells
  abbrev pub network_of : (ℕ → Cell) → NetworkState machine
  network_of cells = record {
    state = λ t. (cells t).state;
    clock = λ t. (cells t).clock;
    put = λ u t. (cells u).put t;
    taken = λ u t. length ((cells t).took u);
  }

  -- the entries of one server
  abbrev pub entries_of : ℕ → List (Entry machine) → List (Entry machine)
  entries_of server [] = []
  entries_of server (entry ∷ entries) = cond (entry.server == server) (entry ∷ entries_of server entries) (entries_of server entries)

  -- by stamp, then by server
  abbrev pub IsEarlier : Entry machine → Entry machine → Type 0
  IsEarlier entry other = (entry.stamp < other.stamp) ⊎ ((entry.stamp ≡ other.stamp) × (entry.server < other.server))

  -- each entry is earlier than all later ones
  abbrev pub IsInOrder : List (Entry machine) → Type 0
  IsInOrder [] = Unit {0}
  IsInOrder (entry ∷ entries) = ((other : Entry machine) → Has other entries → IsEarlier entry other) × IsInOrder entries

  -- the entries of all servers' journals, each once, by stamp and then by server
  pub record IsMerge (journals : ℕ → List (Entry machine)) (merged : List (Entry machine)) : Type 0 where
    pub order : IsInOrder merged
    pub parts : (server : ℕ) → entries_of server merged ≡ journals server

  -- the entries of one server, with stamps that rise
  abbrev pub IsJournal : ℕ → List (Entry machine) → Type 0
  IsJournal server [] = Unit {0}
  IsJournal server (entry ∷ entries) = (entry.server ≡ server)
      × ((other : Entry machine) → Has other entries → entry.stamp < other.stamp) × IsJournal server entries

  -- journals of these servers: each has entries of its own server, with stamps that rise, and there is none of another server
  pub record AreJournals (servers : List ℕ) (journals : ℕ → List (Entry machine)) : Type 0 where
    pub own : (server : ℕ) → IsJournal server (journals server)
    pub none : (server : ℕ) → (Has server servers → ⊥) → journals server ≡ []

  -- journals have a merge
  abbrev pub HaveMerge : (ℕ → List (Entry machine)) → Type 0
  HaveMerge journals = (merged : List (Entry machine)) × IsMerge journals merged

  -- states at which nothing is pending, and no command is of a phase below the first
  pub record IsUntouched (start : ℕ → machine.State) : Type 0 where
    pub calm : (server : ℕ) → Has server machine.servers → machine.pending server (start server) ≡ false
    pub through : (server : ℕ) → Has server machine.servers → machine.through server (start server) 0 ≡ true

  -- the cells at the opening
  abbrev pub opening_cells : (ℕ → machine.State) → ℕ → Cell
  opening_cells start server = record { state = start server; clock = 0; put = λ v. []; took = λ v. [] }

  -- cells that enter a phase, with their clocks raised
  abbrev pub entering : ℕ → (ℕ → Cell) → ℕ → Cell
  entering clock cells server = record (cells server) { clock = clock }

  -- a phase with all cells in hand: each server's journal of it replays from its cell to its cell after it,
  -- what each took of another is the beginning of what that put, and the journals have this merge
  pub record IsPhaseInHand (phase : ℕ) (cells : ℕ → Cell) (journals : ℕ → List (Entry machine)) (merged : List (Entry machine))
      (ends : ℕ → Cell) : Type 0 where
    pub merge : IsMerge journals merged
    pub replay : (server : ℕ) → IsReplay phase server (cells server) (journals server) (ends server)
    pub took : (from to : ℕ) → IsPrefix ((ends to).took from) ((ends from).put to)

  -- at the end of a phase all is quiet, and all its commands are executed
  pub record IsPhaseEnded (phase : ℕ) (ends : ℕ → Cell) : Type 0 where
    pub quiet : IsQuiet machine (network_of ends)
    pub through : IsThrough machine (network_of ends) (suc phase)

  -- between two phases: the entries so far are a run to w, they are the merge of the journals, and the cells stand at w with the clocks raised
  pub record IsBetweenPhases (opening w : NetworkState machine) (last next : ℕ) (sofar : List (Entry machine)) (journals : ℕ → List (Entry machine))
      (cells : ℕ → Cell) : Type 0 where
    pub run : IsRun machine opening 0 sofar w last
    pub merge : IsMerge journals sofar
    pub low : (entry : Entry machine) → Has entry sofar → entry.stamp ≤ greatest machine w.clock machine.servers
    pub stand : raised machine w ≡ network_of cells
    pub quiet : IsQuiet machine w
    pub through : IsThrough machine w next
    pub phase : (last < next) ⊎ ((last ≡ next) × (raised machine w ≡ w))

  -- states of servers at which nothing was done: no phase is done, no entry made, and the cells are those of the opening
  abbrev pub StandsAtOpening : (ℕ → machine.State) → Type 0
  StandsAtOpening start =
      IsBetweenPhases (network_of (opening_cells start)) (network_of (opening_cells start)) 0 0 [] (λ server. []) (opening_cells start)

  -- a network between two phases: where the run began and where it stands, the phase of its last command and the phase that is next, its entries, the
  -- journals, and the cells
  pub record BetweenPhases : Type 0 where
    pub opening : NetworkState machine
    pub network : NetworkState machine
    pub last : ℕ
    pub next : ℕ
    pub sofar : List (Entry machine)
    pub journals : ℕ → List (Entry machine)
    pub cells : ℕ → Cell
    pub stands : IsBetweenPhases opening network last next sofar journals cells

  -- the next phase with all cells in hand: its journals, their merge, and the cells after it
  pub record NextPhase (between : BetweenPhases) : Type 0 where
    pub fresh : ℕ → List (Entry machine)
    pub merged : List (Entry machine)
    pub ends : ℕ → Cell
    pub hand : IsPhaseInHand between.next between.cells fresh merged ends

  -- with that phase the run has gone on to some state: its entries stand behind those so far, in all and in each journal, and the cells enter the phase
  -- after it with their clocks raised
  abbrev pub HasGoneOn : (between : BetweenPhases) → NextPhase between → Type 0
  HasGoneOn between phase =
      (end : NetworkState machine) × (now : ℕ)
      × IsBetweenPhases between.opening end now (suc between.next) (between.sofar ++ phase.merged)
      (λ server. between.journals server ++ phase.fresh server)
      (entering (greatest machine (network_of phase.ends).clock machine.servers) phase.ends)

  -- no clock of a server and no message that was put has a stamp above n
  pub record HaveStampsUpTo (n : ℕ) (cells : ℕ → Cell) : Type 0 where
    pub clocks : (server : ℕ) → Has server machine.servers → (cells server).clock ≤ n
    pub puts : (from to : ℕ) (message : Stamped machine.Message) → Has message ((cells from).put to) → message.stamp ≤ n
