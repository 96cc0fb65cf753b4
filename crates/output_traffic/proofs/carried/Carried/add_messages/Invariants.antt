use Rattle.std.proofs.Common.{◌≡◌, ◌+◌, ◌^◌, ◌≤◌, ◌<◌, ℕ, drop}
use Rattle.output_traffic.specs.Carried.{is_notice, is_change, put_on}
use Rattle.output_traffic.specs.Counts.{count_at}
use Rattle.output_traffic.proofs.carried.Carried.add_messages.Given as goal

-- what is counted and what is left to be counted is all
abbrev pub invariant-loop-message : goal.invariant-loop-message
invariant-loop-message l =
    record {
      notices : (a b : ℕ) → a ≤ 64 → b ≤ 64 → count_at l.initial.self.notices a b + put_on is_notice l.server l.sent a b < 2 ^ 32
          → count_at l.self.notices a b + put_on is_notice l.server (drop l.message-index l.sent) a b
          ≡ count_at l.initial.self.notices a b + put_on is_notice l.server l.sent a b;
      changes : (a b : ℕ) → a ≤ 64 → b ≤ 64 → count_at l.initial.self.changes a b + put_on is_change l.server l.sent a b < 2 ^ 32
          → count_at l.self.changes a b + put_on is_change l.server (drop l.message-index l.sent) a b
          ≡ count_at l.initial.self.changes a b + put_on is_change l.server l.sent a b;
    }
