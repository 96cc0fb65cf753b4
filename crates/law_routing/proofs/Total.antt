-- Proves the bounds of every legal run of a net.
use Rattle.std.proofs.Common.{◌≡◌, ℕ, ◌+◌, ◌*◌, ◌-◌, ◌≤◌, List, [], ◌∷◌, inl, inr, length, drop, refl, ap, ◌∙◌, arith, mul-le-mul_right}
use Rattle.base.specs.Sets.{Has}
use Rattle.base.specs.Numbers.{sum_over, count}
use Rattle.base_tree.specs.Hops.{side_size}
use Rattle.law_machine.specs.Machine.{Stamped}
use Rattle.law_machine.specs.Runs.{greatest}
use Rattle.law_machine.specs.Load.{commands, load, pending_count, remaining, weight_of}
use Rattle.law_machine.proofs.Bound.{sum-same}
use Rattle.law_machine.proofs.Stamps.{run-stamps}
use Rattle.law_machine.proofs.Runs.{bound, counted, within-left}
use Rattle.law_routing.specs.Theory.{Theory, TheoryLaws}
use Rattle.law_routing.specs.Net.{Net}
use Rattle.law_routing.specs.Server.{Message}
use Rattle.law_routing.specs.Routing.{routing_machine, Network, measure, commands_left, all_commands}
use Rattle.law_routing.specs.Start.{IsStart}
use Rattle.law_routing.specs.LegalRun.{LegalRun, IsBounded}
use Rattle.law_routing.proofs.Along.{strict, tree}
use Rattle.law_routing.proofs.Spreading.{spreads}
use Rattle.law_routing.proofs.Started.{within-start}

pub all-zero : (f : ℕ → ℕ) (xs : List ℕ) → ((x : ℕ) → f x ≡ 0) → sum_over f xs ≡ 0
all-zero f [] e = refl
all-zero f (x ∷ xs) e = omega (arith, e x, all-zero f xs e)

times : (a b c : ℕ) → a ≤ b → a * c ≤ b * c
times a b c l = mul-le-mul_right c l

module _ (th : Theory) (net : Net th) (size : ℕ → ℕ → ℕ) (w : Network th net) (first : ℕ) (start : IsStart th net w first) where
  none-left : (u t k : ℕ) (xs : List (Stamped (Message th))) → xs ≡ [] → sum_over (λ s. weight_of (routing_machine th net) (measure th net size) u t s.message) (drop k xs) ≡ 0
  none-left u t Rattle.std.proofs.Common.zero xs e = ap (λ z. sum_over (λ s. weight_of (routing_machine th net) (measure th net size) u t s.message) z) e
  none-left u t (Rattle.std.proofs.Common.suc k) xs e = ap (λ z. sum_over (λ s. weight_of (routing_machine th net) (measure th net size) u t s.message) (drop (Rattle.std.proofs.Common.suc k) z)) e

  pub no-load : load (routing_machine th net) (measure th net size) w ≡ 0
  no-load = all-zero (λ u. sum_over (λ t. sum_over (λ s. weight_of (routing_machine th net) (measure th net size) u t s.message) (drop (w.taken u t) (w.put u t))) (net.links u)) net.servers (λ u. all-zero (λ t. sum_over (λ s. weight_of (routing_machine th net) (measure th net size) u t s.message) (drop (w.taken u t) (w.put u t))) (net.links u) (λ t. none-left u t (w.taken u t) (w.put u t) (start.fresh u t)))

  pub none-pending : pending_count (routing_machine th net) (measure th net size) w ≡ 0
  none-pending = all-zero (λ t. count (w.state t).pending) net.servers (λ t. ap count (start.rest.none_pending t))

  pub less-remain : remaining (routing_machine th net) (measure th net size) w ≤ all_commands th net
  less-remain = sum-same (λ t. commands_left th net t (w.state t)) (λ t. sum_over (λ c. length (net.script c) - 0) (net.clients t)) net.servers (λ t h. sum-same (λ c. length (net.script c) - (w.state t).done c) (λ c. length (net.script c) - 0) (net.clients t) (λ c i. omega arith))

module _ (th : Theory) (laws : TheoryLaws th) (run : LegalRun th) where
  abbrev size : ℕ → ℕ → ℕ
  size = side_size run.net.hop run.net.servers

  pub bounded-run : IsBounded th run
  bounded-run =
      let k = measure th run.net size in
      let spread = spreads th (strict th laws run.net run.laws) run.net size run.laws.single (tree th laws run.net run.laws) in
      let within = within-start th run.net run.start run.first run.begins in
      let b = bound (routing_machine th run.net) k spread run.start run.first run.journal run.end run.last run.legal within (no-load th run.net size run.start run.first run.begins) (none-pending th run.net size run.start run.first run.begins) in
      let c = counted (routing_machine th run.net) k spread run.start run.first run.journal run.end run.last run.legal within in
      let r = within-left (routing_machine th run.net) k spread run.start run.first run.journal run.end run.last run.legal in
      let less : commands (routing_machine th run.net) k run.journal ≤ all_commands th run.net = omega (arith, r, less-remain th run.net size run.start run.first run.begins) in
      record {
        receptions = b.0;
        updates = omega (arith, c.1, none-pending th run.net size run.start run.first run.begins);
        entries = b.1;
        commands = less;
        within = omega (arith, b.1, times (commands (routing_machine th run.net) k run.journal) (all_commands th run.net) (length run.net.servers * length run.net.servers + 1) less);
        stamps = λ e h. (run-stamps (routing_machine th run.net) (greatest (routing_machine th run.net) run.start.clock run.net.servers) run.start run.first run.journal run.end run.last run.legal (record { clocks = run.begins.clocks; puts = λ u t s i. absurd (nothing s (Rattle.std.proofs.Common.subst (Has s) (run.begins.fresh u t) i)) })).1 e h;
      }
    where
      nothing : (s : Stamped (Message th)) → Has s [] → ⊥
      nothing s h = h
