-- What a server of a hierarchy is to its network.
use Rattle.hierarchy_network.specs.Core.{HierarchyParts, RepresentsHierarchyServer}
use Rattle.hierarchy_network.specs.Step.{MakesHierarchyStep}
use Rattle.sequential_network.specs.Stepping.{Stepping}

abbrev pub hierarchy : Stepping HierarchyParts
hierarchy = record { core = λ parts. parts.core; Stands = RepresentsHierarchyServer; Steps = MakesHierarchyStep }
