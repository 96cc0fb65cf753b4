-- Defines a worked run of flooding in a small net, turn by turn.
use Rattle.std.specs.Prelude.{◌≡◌, ℕ, List, [], ◌∷◌, ◌++◌, length}
use Rattle.law_machine.specs.Machine.{Act, Did, Received, Entry}
use Rattle.law_machine.specs.History.{Moment}
use Rattle.law_machine.specs.Walk.{entries_by, moment_by}
use Rattle.law_routing.specs.Server.{Publication}
use Rattle.law_phases.specs.Trees.{PhasedNet}
use Rattle.law_phases.specs.Flooding.{flood_machine, flood_opening, FloodRun, EndsFlooded}
use Rattle.law_examples.specs.Ranges.{ranges}
use Rattle.law_examples.specs.SmallNets.{advertised_until}
use Rattle.law_examples.specs.Phased.{on_one_tree}

-- the net in which client 1 advertises, and in the next phase publishes and withdraws at once
abbrev pub flooded_net : PhasedNet ranges
flooded_net = on_one_tree ranges advertised_until

-- its turns in the two phases
abbrev pub flooded_first : List (ℕ × Act ℕ)
flooded_first = (1, Did 1) ∷ (2, Did 2) ∷ []

abbrev pub flooded_second : List (ℕ × Act ℕ)
flooded_second = (1, Did 1) ∷ (1, Did 1) ∷ (2, Received 1) ∷ []

-- the moment after the first phase, and after both
abbrev pub flooded_middle : Moment (flood_machine ranges flooded_net)
flooded_middle = moment_by (flood_machine ranges flooded_net) 0 (record { network = flood_opening ranges flooded_net; phase = 0 }) flooded_first

abbrev pub flooded_after : Moment (flood_machine ranges flooded_net)
flooded_after = moment_by (flood_machine ranges flooded_net) 1 flooded_middle flooded_second

-- and the journal
abbrev pub flooded_journal : List (Entry (flood_machine ranges flooded_net))
flooded_journal =
    entries_by (flood_machine ranges flooded_net) 0 (record { network = flood_opening ranges flooded_net; phase = 0 }) flooded_first
    ++ entries_by (flood_machine ranges flooded_net) 1 flooded_middle flooded_second

-- a run of this net with this many entries that ends drained, and what it gives a client
pub record IsFlooding (entries client : ℕ) (given : List (Publication ranges)) : Type 0 where
  pub run : FloodRun ranges
  pub of_net : run.net ≡ flooded_net
  pub many : length run.journal ≡ entries
  pub drained : EndsFlooded ranges run
  pub gives : (run.end.state (run.net.home client)).inbox client ≡ given
