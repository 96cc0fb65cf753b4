-- Defines the walk of a hierarchy: the turns of a network of peers, tried in the same order.
use Rattle.std.specs.Prelude.{ℕ, ◌-◌, List}
use Rattle.law_machine.specs.History.{Moment}
use Rattle.law_machine.specs.Walk.{walk_phases}
use Rattle.law_routing.specs.Theory.{Theory}
use Rattle.law_routing.specs.Net.{Net}
use Rattle.law_routing.specs.Walk.{walk_turns}
use Rattle.law_hierarchy.specs.Step.{hierarchy_machine, HierarchyEntry}

module _ (theory : Theory) (net : Net theory) where
  -- the entries of the walk from a moment on, phase by phase, in a net of so many phases
  abbrev pub walk_of : ℕ → Moment (hierarchy_machine theory net) → List (HierarchyEntry theory net)
  walk_of phases moment = walk_phases (hierarchy_machine theory net) (walk_turns theory net) (phases - moment.phase) moment.phase moment
