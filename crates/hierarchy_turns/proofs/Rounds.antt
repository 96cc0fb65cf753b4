-- Rounds of receptions and table updates: their turns server by server, and that there are more rounds than a run has entries.
use Rattle.std.proofs.Common.{◌<◌, List, length, arith}
use Rattle.std.proofs.lemmas.List.{length-map}
use Rattle.law_routing.specs.Walk.{enough_rounds}
use Rattle.net_model.specs.Real.{real, real_laws}
use Rattle.law_hierarchy.specs.HierarchyRun.{IsBounded}
use Rattle.law_hierarchy.proofs.Spread.{bounded-run}
use Rattle.net_model.specs.Parts.{NetParts, EntryParts}
use Rattle.net_model.specs.Sound.{IsSound}
use Rattle.hierarchy_turns.specs.Network.{net_of, entry_in, IsLegal, run_of}
use Rattle.hierarchy_turns.proofs.Lawful.{laws-of}

-- a legal run has fewer entries than there may be rounds
pub fewer-entries : (net : NetParts) (journal : List EntryParts) → IsSound net → IsLegal net journal → length journal < enough_rounds real (net_of net)
fewer-entries net journal sound legal = omega (arith, bounds.within, length-map journal (entry_in net))
  where
    bounds : IsBounded real (run_of net (laws-of net sound) journal legal)
    bounds = bounded-run real real_laws (run_of net (laws-of net sound) journal legal)
