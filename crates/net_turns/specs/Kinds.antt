-- What a kind of network is to the walk schedule: what its turns are, how turns are tried one after the other within a phase, what the walk is over phases,
-- and which messages a journal has, each with its laws.
use Rattle.std.specs.Prelude.{◌≡◌, ℕ, suc, ◌+◌, ◌<◌, ◌≤◌, Bool, true, false, List, [], ◌∷◌, ◌++◌, length, get_or, Option, Some}
use Rattle.law_machine.specs.Machine.{Did, Received}
use Rattle.law_machine.specs.Walk.{repeated}
use Rattle.law_routing.specs.Step.{TableUpdate}
use Rattle.law_routing.specs.Walk.{enough_rounds}
use Rattle.law_phases.specs.Runs.{Turn}
use Rattle.law_phases.specs.Trees.{net_at, machine_at}
use Rattle.net_model.specs.Real.{real}
use Rattle.filter_text.specs.declared.sent.Sent.{Sent}
use Rattle.net_model.specs.declared.turn.Turn.{Turn as NetTurn}
use Rattle.net_model.specs.declared.turn.Turn.TheVariants as turns
use Rattle.net_model.specs.Parts.{NetParts, EntryParts}
use Rattle.net_model.specs.Nets.{phased_net, phases_of}
use Rattle.net_model.specs.Sound.{IsSound}
use Rattle.net_turns.specs.Network.{NetworkParts, network_parts, IsLater}
use Rattle.net_turns.specs.Retold.{turn_of_entry}
use Rattle.net_turns.specs.Trying.{command_turn, phase_turns}

-- HOW TURNS ARE TRIED within a phase, one after the other
pub record Trying : Type 1 where
  -- a legal run, what a call for a turn did, the phase of the last command and of a client's next, and the phase from which a phase has its tree
  pub IsLegal : NetParts → List EntryParts → Type 0
  pub IsTurn : Bool → NetTurn → NetworkParts → NetworkParts → Type 0
  pub phase_by : NetParts → List EntryParts → ℕ
  pub next_phase_by : NetParts → List EntryParts → ℕ → Option ℕ
  pub tree_phase : ℕ → ℕ
  -- within a phase turns were tried, a beginning was made of them, and of the first turns the second are left
  pub Tries : ℕ → List Turn → NetworkParts → NetworkParts → Type 0
  pub Begins : ℕ → List Turn → NetworkParts → NetworkParts → Type 0
  pub Going : ℕ → List Turn → List Turn → NetworkParts → NetworkParts → Type 0
  -- a turn that was not made changes nothing, and one that was goes on
  pub turn_none : (turn : NetTurn) (old new : NetworkParts) → IsTurn false turn old new → new ≡ old
  pub turn_later : (made : Bool) (turn : NetTurn) (old new : NetworkParts) → IsTurn made turn old new → IsLater old new
  -- a call for a turn tries it: a command of the phase, a reception, a table update; a client's command of another phase is not tried
  pub tries_command : (made : Bool) (client phase : ℕ) (old new : NetworkParts) → IsTurn made (turns.Command client) old new
      → next_phase_by old.net old.journal client ≡ Some phase → Tries phase (command_turn old.net client ∷ []) old new
  pub tries_take : (made : Bool) (server from phase : ℕ) (old new : NetworkParts) → IsTurn made (turns.Receive server from) old new
      → Tries phase ((server, Received from) ∷ []) old new
  pub tries_update : (made : Bool) (server phase : ℕ) (old new : NetworkParts) → IsTurn made (turns.TableUpdate server) old new
      → Tries phase ((server, Did TableUpdate) ∷ []) old new
  pub idle : (client phase : ℕ) (network : NetworkParts) → (next_phase_by network.net network.journal client ≡ Some phase → ⊥)
      → Tries phase (command_turn network.net client ∷ []) network network
  -- turns are tried part by part, and those that made nothing once make nothing again
  pub going_starts : (phase : ℕ) (turns : List Turn) (network : NetworkParts) → Going phase turns turns network network
  pub going_on : (phase : ℕ) (turns left part more : List Turn) (old middle new : NetworkParts) → left ≡ part ++ more
      → Going phase turns left old middle → Tries phase part middle new → Going phase turns more old new
  pub going_ends : (phase : ℕ) (turns left : List Turn) (old new : NetworkParts) → left ≡ [] → Going phase turns left old new
      → Tries phase turns old new
  pub going_rests : (phase q left k : ℕ) (all turns : List Turn) (old middle new : NetworkParts) → left ≡ suc k
      → Going phase all (repeated (machine_at real (phased_net old.net) q) left turns) old middle → Tries phase turns middle new → new ≡ middle
      → Tries phase all old new
  -- so is a beginning of them
  pub begun_none : (phase : ℕ) (turns : List Turn) (old new : NetworkParts) → new ≡ old → Begins phase turns old new
  pub going_breaks : (phase : ℕ) (turns left part more : List Turn) (old middle new : NetworkParts) → left ≡ part ++ more
      → Going phase turns left old middle → Begins phase part middle new → Begins phase turns old new
  -- a legal run has fewer entries than there may be rounds
  pub fewer_entries : (net : NetParts) (journal : List EntryParts) → IsSound net → IsLegal net journal → (phase : ℕ)
      → length journal < enough_rounds real (net_at real (phased_net net) (tree_phase phase))

-- WHAT THE WALK IS over the phases
pub record Walking (trying : Trying) : Type 1 where
  -- the walk was made, or a beginning of it; the same of one phase; the phases below one were walked; in these nothing was left
  pub IsWalked : NetworkParts → NetworkParts → Type 0
  pub IsWalkBegun : NetworkParts → NetworkParts → Type 0
  pub IsPhaseOf : Bool → NetworkParts → NetworkParts → Type 0
  pub IsPhaseBegun : NetworkParts → NetworkParts → Type 0
  pub IsWalkedTo : ℕ → NetworkParts → NetworkParts → Type 0
  pub AreEmpty : NetworkParts → ℕ → Type 0
  -- the walk goes on phase by phase
  pub walk_starts : (network : NetworkParts) → IsSound network.net → trying.IsLegal network.net network.journal → (phase : ℕ)
      → phase ≡ trying.phase_by network.net network.journal → IsWalkedTo phase network network
  pub walk_on : (phase : ℕ) (old middle new : NetworkParts) → IsWalkedTo phase old middle → phase < phases_of middle.net
      → trying.Tries phase (phase_turns middle.net (trying.tree_phase phase)) middle new → IsWalkedTo (phase + 1) old new
  pub walk_ends : (phase : ℕ) (old new : NetworkParts) → IsWalkedTo phase old new → phases_of old.net ≤ phase → IsWalked old new
  pub walked_later : (phase : ℕ) (old new : NetworkParts) → IsWalkedTo phase old new → IsLater old new
  pub walk_begun : (phase : ℕ) (old middle new : NetworkParts) → IsWalkedTo phase old middle → phase < phases_of middle.net
      → trying.Begins phase (phase_turns middle.net (trying.tree_phase phase)) middle new → IsWalkBegun old new
  -- a phase that makes nothing, one that makes something, one of which a beginning is made, and the end at which nothing was left
  pub empty_none : (old : NetworkParts) (phase : ℕ) → phase ≡ trying.phase_by old.net old.journal → AreEmpty old phase
  pub empty_more : (phase : ℕ) (old middle new : NetworkParts) → IsWalkedTo phase old middle → phase < phases_of middle.net → AreEmpty old phase
      → middle ≡ old → trying.Tries phase (phase_turns middle.net (trying.tree_phase phase)) middle new → new ≡ middle → AreEmpty old (phase + 1)
  pub phase_walked : (phase : ℕ) (old middle new : NetworkParts) → IsWalkedTo phase old middle → phase < phases_of middle.net
      → trying.phase_by old.net old.journal ≤ phase → AreEmpty old phase → middle ≡ old
      → trying.Tries phase (phase_turns middle.net (trying.tree_phase phase)) middle new → length old.journal < length new.journal
      → IsPhaseOf true old new
  pub phase_begun : (phase : ℕ) (old middle new : NetworkParts) → IsWalkedTo phase old middle → phase < phases_of middle.net
      → trying.phase_by old.net old.journal ≤ phase → AreEmpty old phase → middle ≡ old
      → trying.Begins phase (phase_turns middle.net (trying.tree_phase phase)) middle new → IsPhaseBegun old new
  pub none_left : (phase : ℕ) (old new : NetworkParts) → IsWalkedTo phase old new → phases_of new.net ≤ phase → new ≡ old → IsPhaseOf false old new

-- WHICH MESSAGES A JOURNAL HAS
pub record Telling (trying : Trying) : Type 1 where
  -- the messages of an entry that a journal has behind so many, those of a journal, and those of a beginning of it that was made again
  pub told_at : NetParts → List EntryParts → ℕ → EntryParts → List Sent
  pub told_by : NetParts → List EntryParts → List (List Sent)
  pub IsRetoldTo : ℕ → NetParts → List EntryParts → NetworkParts → List (List Sent) → Type 0
  pub retold_none : (net : NetParts) (journal : List EntryParts) (network : NetworkParts) (told : List (List Sent)) → network ≡ network_parts net []
      → told ≡ [] → IsRetoldTo 0 net journal network told
  pub retold_more : (net : NetParts) (journal : List EntryParts) → trying.IsLegal net journal → (i : ℕ) (d : EntryParts) → i < length journal
      → (made : Bool) (old new : NetworkParts) (told : List (List Sent)) (last : List Sent) (after : List (List Sent))
      → IsRetoldTo i net journal old told → trying.IsTurn made (turn_of_entry (get_or journal i d)) old new
      → ((before : List EntryParts) (entry : EntryParts) → new.journal ≡ before ++ entry ∷ [] → last ≡ told_at new.net new.journal (length before) entry)
      → after ≡ told ++ last ∷ [] → IsRetoldTo (i + 1) net journal new after
  pub retold_all : (net : NetParts) (journal : List EntryParts) (count : ℕ) (network : NetworkParts) (told : List (List Sent)) → count ≡ length journal
      → IsRetoldTo count net journal network told → told ≡ told_by net journal
