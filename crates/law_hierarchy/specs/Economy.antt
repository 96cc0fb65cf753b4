-- What the links of a hierarchy carry, beside what plain flooding puts on them.
use Rattle.std.specs.Prelude.{ℕ, ◌≤◌, List, []}
use Rattle.base.specs.Sets.{Has}
use Rattle.base.specs.Numbers.{IsDistinct, sum_over, count}
use Rattle.base_tree.specs.Hops.{side}
use Rattle.law_routing.specs.Theory.{Theory}
use Rattle.law_routing.specs.Net.{Net, PhasedCommand}
use Rattle.law_phases.specs.Economy.{accepted_phases, is_noticed}
use Rattle.law_hierarchy.specs.HierarchyRun.{HierarchyRun, states}

module _ (theory : Theory) (net : Net theory) where
  -- how many of a client's accepted publications flooding sends over the link from one server to another: those of a client whose home is on the side of
  -- the link's beginning
  abbrev pub flooded_by : ℕ → ℕ → ℕ → ℕ
  flooded_by from to client =
      sum_over (λ phase. count (side net.hop to from (net.home client))) (accepted_phases theory net [] (net.script client))

  -- and how many of some clients'
  abbrev pub flooded : List ℕ → ℕ → ℕ → ℕ
  flooded clients from to = sum_over (flooded_by from to) clients

  -- these are the clients that have commands, each once
  pub record AreClients (clients : List ℕ) : Type 0 where
    pub each : (client : ℕ) (command : PhasedCommand theory) → Has command (net.script client) → Has client clients
    pub single : IsDistinct clients

module _ (theory : Theory) (run : HierarchyRun theory) where
  -- HOW MANY NOTIFICATIONS the first n entries put on the link from one server to another
  abbrev pub noticed : ℕ → ℕ → ℕ → ℕ
  noticed n from to = sum_over (λ x. count (is_noticed theory x.message)) ((states theory run n).put from to)

  -- NO LINK CARRIES MORE NOTIFICATIONS than plain flooding of these clients' publications puts on it, up or down, at any moment
  abbrev pub CarriesNoMore : List ℕ → Type 0
  CarriesNoMore clients = (n from to : ℕ) → Has to (run.net.links from) → noticed n from to ≤ flooded theory run.net clients from to
