-- What the walk of a hierarchy shows line by line, and what it delivers.
use Rattle.std.specs.Prelude.{ℕ, List, [], ◌∷◌, length}
use Rattle.law_machine.specs.History.{Moment, moment_after}
use Rattle.law_routing.specs.Theory.{Theory}
use Rattle.law_routing.specs.Net.{Net}
use Rattle.law_routing.specs.Server.{Publication}
use Rattle.law_routing.specs.Example.{numbers}
use Rattle.law_hierarchy.specs.Step.{hierarchy_machine, HierarchyEntry, opening}
use Rattle.law_hierarchy.specs.Walk.{walk_of}
use Rattle.law_examples.specs.Trace.{Line, traced_from}

module _ (theory : Theory) (net : Net theory) where
  -- the opening, before the first command
  abbrev pub hierarchy_beginning : Moment (hierarchy_machine theory net)
  hierarchy_beginning = record { network = opening theory net; phase = 0 }

  -- the walk of so many phases
  abbrev pub hierarchy_walk : ℕ → List (HierarchyEntry theory net)
  hierarchy_walk phases = walk_of theory net phases hierarchy_beginning

  -- its trace
  abbrev pub hierarchy_trace : ℕ → List (Line theory)
  hierarchy_trace phases = traced_from (hierarchy_machine theory net) hierarchy_beginning (hierarchy_walk phases)

  -- what a client was given by its end
  abbrev pub hierarchy_given : ℕ → ℕ → List (Publication theory)
  hierarchy_given phases client =
      ((moment_after (hierarchy_machine theory net) hierarchy_beginning (hierarchy_walk phases) (length (hierarchy_walk phases))).network.state
      (net.home client)).inbox client

-- a publication of a number in one row
abbrev pub numbers_publication : ℕ → ℕ → ℕ → Publication numbers
numbers_publication publisher ordinal notice = record { publisher = publisher; ordinal = ordinal; notice = notice }
