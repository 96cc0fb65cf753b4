-- Defines phases with all servers' journals in hand, over trees.
use Rattle.std.specs.Prelude.{◌≡◌, ℕ, ◌≤◌, ◌<◌, ◌==◌, cond, List, [], ◌++◌, ◌⊎◌, map}
use Rattle.base.specs.Sets.{Has}
use Rattle.law_machine.specs.Runs.{greatest}
use Rattle.law_machine.specs.Journals.{Cell, network_of, IsMerge, IsPhaseInHand, IsPhaseEnded}
use Rattle.law_routing.specs.Theory.{Theory}
use Rattle.law_routing.specs.Routing.{NetEntry}
use Rattle.law_phases.specs.Trees.{JournalEntry, State, off, entry_off, entries_on, PhasedNet, net_at, machine_at, at_phase, IsQuietOn, IsThroughOn}
use Rattle.law_phases.specs.Moments.{with_clocks_raised, begun, opening_moment}
use Rattle.law_phases.specs.Runs.{IsPhasedRun}

module _ (theory : Theory) (net : PhasedNet theory) where
  -- entries of a net on one tree, without their tree
  abbrev pub entries_off : (phase : ℕ) → List (NetEntry theory (net_at theory net phase)) → List JournalEntry
  entries_off phase entries = map (entry_off theory (net_at theory net phase)) entries

  -- the state in which a phase is entered: as its first command finds it
  abbrev pub entered : ℕ → ℕ → State theory → State theory
  entered last phase state = cond (last == phase) state (begun theory net last phase state)

  -- a journal has the entries of these journals of the servers, each once, by stamp and then by server (no tree plays a part in that)
  abbrev pub MergesJournals : (ℕ → List JournalEntry) → List JournalEntry → Type 0
  MergesJournals journals merged =
      IsMerge (machine_at theory net 0) (λ server. entries_on theory (net_at theory net 0) (journals server)) (entries_on theory (net_at theory net 0) merged)

  -- between two phases: the entries so far are a run to a quiet state that has come through the phases below the next,
  -- and they are the merge of the servers' journals
  pub record IsBetween (end : State theory) (last next : ℕ) (sofar : List JournalEntry) (journals : ℕ → List JournalEntry) : Type 0 where
    pub run : IsPhasedRun theory net (opening_moment theory net).state 0 sofar end last
    pub merge : MergesJournals journals sofar
    pub low : (entry : JournalEntry) → Has entry sofar → entry.stamp ≤ greatest (machine_at theory net last) end.clock net.servers
    pub quiet : IsQuietOn theory net last end
    pub through : IsThroughOn theory net last end next
    -- the next phase is a later one, or nothing was done
    pub phase : (last < next) ⊎ ((last ≡ next) × (with_clocks_raised theory net last end ≡ end))

  -- between two phases, the next phase is done with all servers in hand: it is entered as its first command finds it,
  -- the servers' fresh journals have a merge, not an empty one, and the phase is ended
  pub record PhaseDone : Type 0 where
    pub end : State theory
    pub last : ℕ
    pub phase : ℕ
    pub sofar : List JournalEntry
    pub journals : ℕ → List JournalEntry
    pub between : IsBetween end last phase sofar journals
    -- the cells of the servers as they enter the phase and as they end it
    pub cells : ℕ → Cell (machine_at theory net phase)
    pub ends : ℕ → Cell (machine_at theory net phase)
    pub enters : at_phase theory net phase (entered last phase end) ≡ network_of (machine_at theory net phase) cells
    pub fresh : ℕ → List (NetEntry theory (net_at theory net phase))
    pub merged : List (NetEntry theory (net_at theory net phase))
    pub some : merged ≡ [] → ⊥
    pub in_hand : IsPhaseInHand (machine_at theory net phase) phase cells fresh merged ends
    pub ended : IsPhaseEnded (machine_at theory net phase) phase ends

  -- the state at the end of that phase
  abbrev pub end_after : PhaseDone → State theory
  end_after done = off theory (net_at theory net done.phase) (network_of (machine_at theory net done.phase) done.ends)

  -- the entries by then
  abbrev pub entries_after : PhaseDone → List JournalEntry
  entries_after done = done.sofar ++ entries_off done.phase done.merged

  -- and those of each server
  abbrev pub journals_after : PhaseDone → ℕ → List JournalEntry
  journals_after done server = done.journals server ++ entries_off done.phase (done.fresh server)
