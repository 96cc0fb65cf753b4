use Rattle.std.proofs.Common.{◌≡◌, ◌+◌, ◌^◌, ◌≤◌, ◌<◌, ℕ, drop}
use Rattle.base.specs.Numbers.{sum_over}
use Rattle.output_traffic.specs.Counts.{count_at}
use Rattle.output_traffic.specs.Flood.{flood_on}
use Rattle.output_traffic.specs.Going.{client_flood}
use Rattle.output_traffic.proofs.flood.flooding.Given as goal

-- what is counted and what is left to be counted is all
abbrev pub invariant-loop-i : goal.invariant-loop-i
invariant-loop-i l = (from to : ℕ) → from ≤ 64 → to ≤ 64 → flood_on l.net from to < 2 ^ 32
    → count_at l.counts from to + sum_over (λ client. client_flood l.net client from to) (drop l.i l.net.clients) ≡ flood_on l.net from to
