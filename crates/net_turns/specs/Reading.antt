-- How journals are read as runs: their entries and moments, what turns make within a phase, and the walk over the phases, each with its laws. Then what it is
-- that turns of the walk are tried one after the other within a phase: what is made of them, and what is left.
use Rattle.std.specs.Prelude.{◌≡◌, ℕ, zero, suc, ◌-◌, ◌≤◌, ◌<◌, List, [], ◌∷◌, ◌++◌, length, map}
use mathlib.Core.List.{IsPrefix}
use Rattle.law_phases.specs.Runs.{Turn}
use Rattle.net_model.specs.Parts.{NetParts, EntryParts}
use Rattle.net_model.specs.Nets.{phases_of}
use Rattle.net_turns.specs.Network.{NetworkParts, network_parts}
use Rattle.net_turns.specs.Trying.{phase_turns}

-- HOW JOURNALS ARE READ, by the machine that a net is
pub record Reading : Type 1 where
  -- entries and moments of a net's runs, what a journal's entry represents, the opening, the moment after so many entries, and the phase of the last command
  pub Entry : NetParts → Type 0
  pub Moment : NetParts → Type 0
  pub entry_in : (net : NetParts) → EntryParts → Entry net
  pub opening : (net : NetParts) → Moment net
  pub moment_after : (net : NetParts) → Moment net → List (Entry net) → ℕ → Moment net
  pub phase : (net : NetParts) → Moment net → ℕ
  -- entries are a legal run from one moment to another, a turn is permitted, a turn is a command of this phase or no command, and all is drained
  pub IsRunTo : (net : NetParts) → Moment net → List (Entry net) → Moment net → Type 0
  pub IsPermitted : (net : NetParts) → Moment net → Turn → Entry net → Moment net → Type 0
  pub IsOfPhase : (net : NetParts) → ℕ → Moment net → Turn → Type 0
  pub IsDrained : (net : NetParts) → Moment net → Type 0
  -- the entries of turns within a phase, the moment after the turns, the phase from which a phase has its tree, and the entries of so many phases of the walk
  pub entries_by : (net : NetParts) → ℕ → Moment net → List Turn → List (Entry net)
  pub turned : (net : NetParts) → ℕ → Moment net → List Turn → Moment net
  pub tree_phase : ℕ → ℕ
  pub walk_phases : (net : NetParts) → ℕ → ℕ → Moment net → List (Entry net)
  -- the moment after a journal that goes on, and that after the entries of turns
  pub after_append : (net : NetParts) (moment : Moment net) (first rest : List (Entry net))
      → moment_after net moment (first ++ rest) (length (first ++ rest)) ≡ moment_after net (moment_after net moment first (length first)) rest (length rest)
  pub after_turns : (net : NetParts) (p : ℕ) (moment : Moment net) (turns : List Turn)
      → moment_after net moment (entries_by net p moment turns) (length (entries_by net p moment turns)) ≡ turned net p moment turns
  -- the entries of no turns, of two lists of turns, and of turns that make nothing: these leave the moment
  pub no_turns : (net : NetParts) (p : ℕ) (moment : Moment net) → entries_by net p moment [] ≡ []
  pub two_lists : (net : NetParts) (p : ℕ) (moment : Moment net) (part more : List Turn)
      → entries_by net p moment (part ++ more) ≡ entries_by net p moment part ++ entries_by net p (turned net p moment part) more
  pub still : (net : NetParts) (p : ℕ) (moment : Moment net) (turns : List Turn) → entries_by net p moment turns ≡ [] → turned net p moment turns ≡ moment
  -- a run that begins with the entries of turns leads to the moment after them, and goes on from there
  pub run_first : (net : NetParts) (p : ℕ) (moment end : Moment net) (turns : List Turn) (rest : List (Entry net))
      → IsRunTo net moment (entries_by net p moment turns ++ rest) end
      → IsRunTo net moment (entries_by net p moment turns) (turned net p moment turns) × IsRunTo net (turned net p moment turns) rest end
  -- a permitted turn of the phase is made, and one that is not permitted makes nothing, where the walk is a legal run
  pub permitted_makes : (net : NetParts) (p : ℕ) (moment next : Moment net) (turn : Turn) (entry : Entry net) → IsOfPhase net p moment turn
      → IsPermitted net moment turn entry next → entries_by net p moment (turn ∷ []) ≡ entry ∷ []
  pub barred_none : (net : NetParts) (p : ℕ) (moment end : Moment net) (turn : Turn) → IsRunTo net moment (entries_by net p moment (turn ∷ [])) end
      → ((entry : Entry net) (next : Moment net) → IsPermitted net moment turn entry next → ⊥) → entries_by net p moment (turn ∷ []) ≡ []
  -- the walk of no phase, and of one more; and where no entries lead from a moment to a drained one, all is drained there
  pub no_phases : (net : NetParts) (p : ℕ) (moment : Moment net) → walk_phases net zero p moment ≡ []
  pub more_phases : (net : NetParts) (n p : ℕ) (moment : Moment net)
      → walk_phases net (suc n) p moment
      ≡ entries_by net p moment (phase_turns net (tree_phase p)) ++ walk_phases net n (suc p) (turned net p moment (phase_turns net (tree_phase p)))
  pub drained_at : (net : NetParts) (moment end : Moment net) → IsRunTo net moment [] end → IsDrained net end → IsDrained net moment

module _ (reading : Reading) where
  -- a journal's entries, the moment after them, and whether all is drained there
  abbrev pub journal_read : (net : NetParts) → List EntryParts → List (reading.Entry net)
  journal_read net journal = map (reading.entry_in net) journal

  abbrev pub moment_read : (net : NetParts) → List EntryParts → reading.Moment net
  moment_read net journal = reading.moment_after net (reading.opening net) (journal_read net journal) (length (journal_read net journal))

  abbrev pub IsDrainedBy : NetParts → List EntryParts → Type 0
  IsDrainedBy net journal = reading.IsDrained net (moment_read net journal)

  -- the entries of turns within a phase after a journal, where those that are not possible are skipped
  abbrev pub entries_tried : (network : NetworkParts) → ℕ → List Turn → List (reading.Entry network.net)
  entries_tried network phase turns = reading.entries_by network.net phase (moment_read network.net network.journal) turns

  -- within a phase turns can be tried: what they make is a legal run
  pub record CanTry (phase : ℕ) (turns : List Turn) (network : NetworkParts) : Type 0 where
    pub end : reading.Moment network.net
    pub run : reading.IsRunTo network.net (moment_read network.net network.journal) (entries_tried network phase turns) end

  -- within a phase turns were tried: each that was possible when it came was made
  pub record IsTried (phase : ℕ) (turns : List Turn) (old new : NetworkParts) : Type 0 where
    pub made : List EntryParts
    pub later : new ≡ network_parts old.net (old.journal ++ made)
    pub entries : journal_read old.net made ≡ entries_tried old phase turns

  -- within a phase turns are tried: some were, what is left of them can be, and both together give what all of them make
  pub record IsOnWay (phase : ℕ) (turns left : List Turn) (old new : NetworkParts) : Type 0 where
    pub made : List EntryParts
    pub later : new ≡ network_parts old.net (old.journal ++ made)
    pub whole : entries_tried old phase turns ≡ journal_read old.net made ++ entries_tried (network_parts old.net (old.journal ++ made)) phase left
    pub can : CanTry phase left (network_parts old.net (old.journal ++ made))

  -- within a phase turns are tried where they can be
  abbrev pub Tries : ℕ → List Turn → NetworkParts → NetworkParts → Type 0
  Tries phase turns old new = CanTry phase turns old → IsTried phase turns old new

  -- where all can be tried, some are, and what is left can be
  abbrev pub Going : ℕ → List Turn → List Turn → NetworkParts → NetworkParts → Type 0
  Going phase turns left old new = CanTry phase turns old → IsOnWay phase turns left old new

  -- a beginning was made of entries
  pub record IsBegunOf (old new : NetworkParts) (entries : List (reading.Entry old.net)) : Type 0 where
    pub made : List EntryParts
    pub later : new ≡ network_parts old.net (old.journal ++ made)
    pub begins : IsPrefix (journal_read old.net made) entries

  -- within a phase turns are begun where they can be tried
  abbrev pub Begins : ℕ → List Turn → NetworkParts → NetworkParts → Type 0
  Begins phase turns old new = CanTry phase turns old → IsBegunOf old new (entries_tried old phase turns)

  -- what is left of the walk from a phase on
  abbrev pub walk_left : (network : NetworkParts) → ℕ → List (reading.Entry network.net)
  walk_left network phase = reading.walk_phases network.net (phases_of network.net - phase) phase (moment_read network.net network.journal)

  -- the phase in hand after a journal
  abbrev pub phase_read : NetworkParts → ℕ
  phase_read network = reading.phase network.net (moment_read network.net network.journal)

  -- what is left of the walk from a phase on is a legal run that ends drained
  pub record CanWalk (phase : ℕ) (network : NetworkParts) : Type 0 where
    pub end : reading.Moment network.net
    pub run : reading.IsRunTo network.net (moment_read network.net network.journal) (walk_left network phase) end
    pub drained : reading.IsDrained network.net end

  -- the phases below this one were walked, the rest can be, and both together give the walk
  pub record IsWalkedTo (phase : ℕ) (old new : NetworkParts) : Type 0 where
    pub made : List EntryParts
    pub later : new ≡ network_parts old.net (old.journal ++ made)
    pub whole : walk_left old (phase_read old) ≡ journal_read old.net made ++ walk_left (network_parts old.net (old.journal ++ made)) phase
    pub can : CanWalk phase (network_parts old.net (old.journal ++ made))

  -- from the phase in hand up to another nothing is left
  abbrev pub AreEmpty : NetworkParts → ℕ → Type 0
  AreEmpty old phase = (earlier : ℕ) → phase_read old ≤ earlier → earlier < phase
      → entries_tried old earlier (phase_turns old.net (reading.tree_phase earlier)) ≡ []
