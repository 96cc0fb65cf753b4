-- Defines the clocks of the servers: raised to the greatest where a later phase begins, and set back.
use Rattle.std.specs.Prelude.{ℕ, max, List, [], ◌∷◌}
use Rattle.hierarchy_network.specs.Core.{HierarchyParts, hierarchy_parts}

-- a server with this clock
abbrev pub with_clock : ℕ → HierarchyParts → HierarchyParts
with_clock clock parts = hierarchy_parts (record parts.core { clock = clock }) parts.master

-- servers with these clocks, one by one; those behind the last clock keep theirs
abbrev pub with_clocks : List ℕ → List HierarchyParts → List HierarchyParts
with_clocks [] cores = cores
with_clocks (clock ∷ clocks) [] = []
with_clocks (clock ∷ clocks) (parts ∷ cores) = with_clock clock parts ∷ with_clocks clocks cores

-- a server's clock, or a greater one that is given
abbrev pub clock_from : ℕ → HierarchyParts → ℕ
clock_from least parts = max parts.core.clock least
