-- Defines runs in which a phase begins by any change of the network: clocks are raised, and the tree may be another.
use Rattle.std.specs.Prelude.{◌≡◌, ℕ, suc, ◌≤◌, ◌<◌, Option, Some, None, List, [], ◌∷◌, ◌++◌, ◌⊎◌}
use Rattle.law_machine.specs.Machine.{Machine, Has, Entry, act_phase}
use Rattle.law_machine.specs.Network.{NetworkState, IsStep}
use Rattle.law_machine.specs.Runs.{IsQuiet, IsThrough, greatest}
use Rattle.law_machine.specs.Journals.{Cell, IsMerge, IsPhaseInHand, IsPhaseEnded, network_of}

-- begin last phase network: the network, whose last command was of the phase last, as the first command of a later phase finds it
module _ (machine : Machine) (begin : ℕ → ℕ → NetworkState machine → NetworkState machine) where
  -- what is asked of it: it raises the clocks, leaves the commands, and puts nothing on a link
  pub record BeginLaws : Type 0 where
    pub clock : (last phase : ℕ) (network : NetworkState machine) (server : ℕ)
        → (begin last phase network).clock server ≡ greatest machine network.clock machine.servers
    pub phase : (last phase : ℕ) (network : NetworkState machine) (server : ℕ) (task : machine.Task)
        → machine.phase server ((begin last phase network).state server) task ≡ machine.phase server (network.state server) task
    pub quiet : (last phase : ℕ) (network : NetworkState machine) → IsQuiet machine network → IsQuiet machine (begin last phase network)

  -- the rule of phases with this change
  abbrev pub IsReadyWith : NetworkState machine → ℕ → Option ℕ → NetworkState machine → ℕ → Type 0
  IsReadyWith network last None found next = (network ≡ found) × (last ≡ next)
  IsReadyWith network last (Some phase) found next = (phase ≡ next)
      × (((last ≡ phase) × (network ≡ found))
      ⊎ ((last < phase) × IsThrough machine network phase × IsQuiet machine network × (begin last phase network ≡ found)))

  -- a legal run with this change
  abbrev pub IsRunWith : NetworkState machine → ℕ → List (Entry machine) → NetworkState machine → ℕ → Type 0
  IsRunWith network last [] end phase = (network ≡ end) × (last ≡ phase)
  IsRunWith network last (entry ∷ entries) end phase =
      (found next : NetworkState machine) × (now : ℕ)
      × IsReadyWith network last (act_phase machine entry.server (network.state entry.server) entry.act) found now
      × IsStep machine found entry next × IsRunWith next now entries end phase

  -- after a phase: the entries so far are a run to a quiet state, and the merge of the journals
  pub record IsAfterPhase (opening end : NetworkState machine) (last next : ℕ) (sofar : List (Entry machine))
      (journals : ℕ → List (Entry machine)) : Type 0 where
    pub run : IsRunWith opening 0 sofar end last
    pub merge : IsMerge machine journals sofar
    pub low : (entry : Entry machine) → Has entry sofar → entry.stamp ≤ greatest machine end.clock machine.servers
    pub quiet : IsQuiet machine end
    pub through : IsThrough machine end next

  -- a network after a phase: where the run began and where it stands, the phase of its last command and the phase that is next, its entries,
  -- and the journals
  pub record AfterPhase : Type 0 where
    pub opening : NetworkState machine
    pub end : NetworkState machine
    pub last : ℕ
    pub next : ℕ
    pub sofar : List (Entry machine)
    pub journals : ℕ → List (Entry machine)
    pub stands : IsAfterPhase opening end last next sofar journals

  -- the next phase, which begins by the change: all cells are in hand from the network that it makes, something is done, and the phase is ended
  pub record BegunPhase (after : AfterPhase) : Type 0 where
    pub later : (after.last < after.next) ⊎ ((after.last ≡ after.next) × (begin after.last after.next after.end ≡ after.end))
    pub cells : ℕ → Cell machine
    pub begins : begin after.last after.next after.end ≡ network_of machine cells
    pub fresh : ℕ → List (Entry machine)
    pub merged : List (Entry machine)
    pub some : merged ≡ [] → ⊥
    pub ends : ℕ → Cell machine
    pub hand : IsPhaseInHand machine after.next cells fresh merged ends
    pub ended : IsPhaseEnded machine after.next ends

  -- with that phase the run has gone on: its entries stand behind those so far, in all and in each journal
  abbrev pub HasBegun : (after : AfterPhase) → BegunPhase after → Type 0
  HasBegun after begun =
      IsAfterPhase after.opening (network_of machine begun.ends) after.next (suc after.next) (after.sofar ++ begun.merged)
      (λ server. after.journals server ++ begun.fresh server)
