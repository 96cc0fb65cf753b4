-- Defines what a network of a hierarchy keeps through its turns.
use Rattle.std.specs.Prelude.{◌≡◌, ℕ, ◌<◌, ◌^◌, List, map, Vec}
use Rattle.std.specs.declared.alloc.Global.{Global}
use Rattle.base.specs.Sets.{Has}
use Rattle.hierarchy_turns.specs.Network.{executed_by, received_by}
use Rattle.hierarchy_network.specs.Core.{HierarchyParts}
use Rattle.sequential_network.specs.Ruling.{Ruling}
use Rattle.sequential_network.specs.Stepping.{greatest_clock}
use Rattle.hierarchy_network.specs.Clocks.{with_clocks, clock_from}
use Rattle.hierarchy_network.specs.Kept.{IsFirst, IsNetwork}
use Rattle.hierarchy_network.specs.Stepping.{hierarchy}

-- every clock raised to the greatest
abbrev pub all_raised : List HierarchyParts → List HierarchyParts
all_raised cores = with_clocks (map (clock_from (greatest_clock hierarchy cores)) cores) cores

-- the clocks of servers before they were raised
pub record WereRaised (before : Vec ℕ Global) (old new : List HierarchyParts) : Type 0 where
  pub clocks : before.items ≡ map (clock_from 0) old
  pub raised : new ≡ all_raised old
  pub low : (c : ℕ) → Has c before.items → c < 2 ^ 62

abbrev pub hierarchy_ruling : Ruling HierarchyParts
hierarchy_ruling = record {
  IsFirst = IsFirst;
  IsKept = IsNetwork;
  IsBegun = λ net last own old new. new.cores ≡ all_raised old.cores;
  semantics = λ parts. parts.core.net.semantics;
  executed_by = executed_by;
  received_by = received_by;
}
