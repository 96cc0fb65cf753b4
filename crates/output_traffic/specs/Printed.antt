-- What the code keeps of the traffic until it is written; no promise to a caller speaks of it.
use Rattle.std.specs.Prelude.{ℕ, List}
use Rattle.output_traffic.specs.declared.loads.LoadCounts.{LoadCounts}
use Rattle.output_traffic.specs.declared.traffic.Totals.{Totals}
use Rattle.output_traffic.specs.Counts.{count_at}
use Rattle.output_traffic.specs.Text.{Loads, in_all}

-- the loads that counts tell
abbrev pub loads_by : LoadCounts → Loads
loads_by counts = record { notices = count_at counts.notices; flood = count_at counts.flood; messages = count_at counts.messages }

-- the sums of counts over links
abbrev pub totals_of : LoadCounts → List (ℕ × ℕ) → Totals
totals_of counts links = record {
  notices = in_all (count_at counts.notices) links;
  flood = in_all (count_at counts.flood) links;
  messages = in_all (count_at counts.messages) links;
}
