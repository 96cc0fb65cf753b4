use Rattle.std.proofs.Common.{◌≡◌, ◌+◌, ◌^◌, ◌≤◌, ◌<◌, ℕ, drop}
use Rattle.output_traffic.specs.Counts.{count_at}
use Rattle.output_traffic.specs.Going.{phases_flood}
use Rattle.output_traffic.proofs.flood.add_phases.Given as goal

-- what is counted and what is left to be counted is all
abbrev pub invariant-loop-phase : goal.invariant-loop-phase
invariant-loop-phase l = (from to : ℕ) → from ≤ 64 → to ≤ 64 → count_at l.initial.counts from to + phases_flood l.net l.home l.phases from to < 2 ^ 32
    → count_at l.counts from to + phases_flood l.net l.home (drop l.phase-index l.phases) from to ≡ count_at l.initial.counts from to + phases_flood l.net l.home l.phases from to
