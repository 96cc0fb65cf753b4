use Rattle.std.proofs.Common.{◌≡◌, ◌<◌, ◌≤◌, ℕ, false}
use Rattle.net_turns.specs.Sessions.{is_phase_below}
use Rattle.sequential_network.proofs.making.none_below.Given as goal

abbrev pub invariant-loop-client : goal.invariant-loop-client
invariant-loop-client g l = (1 ≤ l.client) × ((client : ℕ) → 1 ≤ client → client < l.client
    → is_phase_below (g.P.Ruled.trying.next_phase_by l.net l.servers.journal.entries client) l.own ≡ false)
