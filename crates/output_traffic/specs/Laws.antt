-- What is promised of the traffic of a run.
use Rattle.std.specs.Prelude.{◌≡◌, ℕ, ◌≤◌, List}
use Rattle.net_model.specs.Real.{real}
use Rattle.filter_text.specs.declared.sent.Sent.{Sent}
use Rattle.net_model.specs.Parts.{EntryParts, NetParts}
use Rattle.net_model.specs.Nets.{phased_net}
use Rattle.output_traffic.specs.Carried.{notices_on}
use Rattle.output_traffic.specs.Flood.{flood_on}
use Rattle.output_traffic.specs.Links.{links_in}
use Rattle.output_traffic.specs.Runs.{IsAllOwed}
use Rattle.output_traffic.specs.Text.{in_all}

-- NO LINK CARRIES MORE NOTIFICATIONS than plain flooding puts on it, in either direction, and so do all links together
pub record NeverMore (net : NetParts) (journal : List EntryParts) (outs : List (List Sent)) : Type 0 where
  pub each : (from to : ℕ) → notices_on journal outs from to ≤ flood_on net from to
  pub all : in_all (notices_on journal outs) (links_in net) ≤ in_all (flood_on net) (links_in net)

-- A LINK CARRIES AS MANY as plain flooding puts on it, in a direction where each accepted publication that flooding sends over it is owed to some client
-- beyond; where that is so of all links, they do together
pub record AsManyWhereOwed (net : NetParts) (journal : List EntryParts) (outs : List (List Sent)) : Type 0 where
  pub each : (from to : ℕ) → IsAllOwed real (phased_net net) from to → notices_on journal outs from to ≡ flood_on net from to
  pub all : ((from to : ℕ) → IsAllOwed real (phased_net net) from to) → in_all (notices_on journal outs) (links_in net) ≡ in_all (flood_on net) (links_in net)
