-- How many commands the clients of a sound net have, and so how long a run can be.
use Rattle.std.proofs.Common.{◌≡◌, ℕ, zero, suc, ◌+◌, ◌-◌, ◌*◌, ◌<◌, ◌≤◌, ◌==◌, Bool, true, false, not, List, [], ◌∷◌, length, map, filter, slice_get, Some, refl, sym, subst, ap, ◌∙◌, arith}
use Rattle.std.proofs.lemmas.Nat.{mul-le}
use Rattle.std.specs.List.{range_with_len}
use Rattle.base.specs.Numbers.{IsDistinct, sum_over, count}
use Rattle.base_tree.specs.Graph.{servers_to}
use Rattle.base.proofs.Numbers.{Same, Is, Not, compare, sum_over-zero}
use Rattle.law_machine.proofs.Bound.{only, only-at, sum-more, only-sum}
use Rattle.law_routing.specs.Clients.{is_publish}
use Rattle.law_routing.specs.Routing.{all_commands}
use Rattle.law_phases.specs.Trees.{PhasedNet, net_at}
use Rattle.law_phases.specs.Runs.{PhasedRun}
use Rattle.law_phases.specs.Bounds.{KeepsBounds}
use Rattle.law_phases.proofs.Counted.{bounded}
use Rattle.net_model.specs.Real.{real, real_laws}
use Rattle.filter_text.specs.declared.command.Command.{Command}
use Rattle.net_model.specs.Parts.{ClientParts, NetParts}
use Rattle.net_model.specs.Meaning.{command_of, phased_command}
use Rattle.net_model.specs.Nets.{first_tree, script_of, home_of, phased_net}
use Rattle.net_model.specs.Sound.{publishes, controls, IsSound}
use Rattle.net_model.specs.Limits.{StaysLow}
use Rattle.net_model.proofs.Places.{distinct-range}
use Rattle.net_model.proofs.SoundNets.{few-servers}
use Rattle.std.proofs.lemmas.List.{length-map}
use Rattle.std.proofs.lemmas.List.FromFn.{length-range_with_len}

module _ (home f : ℕ → ℕ) where
  -- of the numbers with this home
  abbrev here : List ℕ → ℕ → ℕ
  here xs s = sum_over f (filter (λ c. home c == s) xs)

  at-home : (x : ℕ) (xs : List ℕ) (s : ℕ) → here (x ∷ xs) s ≤ only (home x) (f x) s + here xs s
  at-home x xs s = go (compare (home x) s)
    where
      go : Same (home x) s → here (x ∷ xs) s ≤ only (home x) (f x) s + here xs s
      go (Is e v) = rw v (omega (arith, only-at (home x) (f x) s (sym e)))
      go (Not n v) = rw v (omega arith)

  -- what is counted at each home is counted once
  pub by-homes : (servers : List ℕ) → IsDistinct servers → (xs : List ℕ) → sum_over (here xs) servers ≤ sum_over f xs
  by-homes servers d [] = omega (arith, sum_over-zero servers)
  by-homes servers d (x ∷ xs) = omega (arith, sum-more (here (x ∷ xs)) (only (home x) (f x)) (here xs) servers (λ s h. at-home x xs s), only-sum (home x) (f x) servers d, by-homes servers d xs)

-- a sum over the places of a list
range-sum : {X : Type 0} (g : X → ℕ) (f : ℕ → ℕ) (a : ℕ) (xs : List X) → ((i : ℕ) (x : X) → slice_get xs i ≡ Some x → f (a + i) ≡ g x) → sum_over f (range_with_len a (length xs)) ≡ sum_over g xs
range-sum g f a [] all = refl
range-sum g f a (x ∷ xs) all =
    let first : f a ≡ g x = ap f (same a) ∙ all 0 x refl in
    let rest : sum_over f (range_with_len (a + 1) (length xs)) ≡ sum_over g xs = range-sum g f (a + 1) xs (λ i y e. ap f (next a i) ∙ all (suc i) y e) in
    rw (first, rest) refl
  where
    same : (a : ℕ) → a ≡ a + 0
    same a = omega arith

    next : (a i : ℕ) → a + 1 + i ≡ a + suc i
    next a i = omega arith

both-kinds : (b : Bool) → count b + count (not b) ≡ 1
both-kinds true = refl
both-kinds false = refl

-- each command is a publish or not
each-kind : (steps : List (ℕ × Command)) → length steps ≡ sum_over (λ step. count (is_publish real (command_of step.1))) steps + sum_over (λ step. count (not (is_publish real (command_of step.1)))) steps
each-kind [] = refl
each-kind (x ∷ xs) = omega (arith, each-kind xs, both-kinds (is_publish real (command_of x.1)))

all-kinds : (clients : List ClientParts) → sum_over (λ client. length client.script) clients ≡ sum_over publishes clients + sum_over controls clients
all-kinds [] = refl
all-kinds (x ∷ xs) = omega (arith, all-kinds xs, each-kind x.script)

-- the commands of a client, by its place
script-length : (net : NetParts) (i : ℕ) (client : ClientParts) → slice_get net.clients i ≡ Some client → length (script_of net (1 + i)) - 0 ≡ length client.script
script-length net i client e = ap (λ c. length (script_of net c) - 0) (one i) ∙ at
  where
    one : (i : ℕ) → 1 + i ≡ suc i
    one i = omega arith

    at : length (script_of net (suc i)) - 0 ≡ length client.script
    at = rw (e, length-map client.script phased_command) (omega arith)

pub few-commands : (net : NetParts) → IsSound net → all_commands real (net_at real (phased_net net) 0) ≤ 104096
few-commands net good =
    omega (
      arith,
      by-homes (home_of net) (λ c. length (script_of net c) - 0) (servers_to (first_tree net.trees).count) (distinct-range 1 (first_tree net.trees).count) (range_with_len 1 (length net.clients)),
      range-sum (λ (client : ClientParts). length client.script) (λ c. length (script_of net c) - 0) 1 net.clients (script-length net),
      all-kinds net.clients,
      good.publishes,
      good.controls,
    )

-- so many commands at so many servers make fewer entries than a thousand million
pub few-entries : (entries commands servers : ℕ) → entries ≤ 2 * (commands * (servers * servers + 1)) → commands ≤ 104096 → servers ≤ 64 → entries < 1000000000
few-entries entries commands servers bound few small =
    let square : servers * servers ≤ 64 * 64 = mul-le servers servers 64 64 small small in
    let product : commands * (servers * servers + 1) ≤ 104096 * 4097 = mul-le commands (servers * servers + 1) 104096 4097 few (omega (arith, square)) in
    omega (arith, bound, product)

pub stays-low : (net : NetParts) → IsSound net → (run : PhasedRun real) → run.net ≡ phased_net net → StaysLow run
stays-low net good run is =
    let bounds : KeepsBounds real run = bounded real real_laws run in
    let commands : all_commands real (net_at real run.net 0) ≤ 104096 = subst (λ (z : PhasedNet real). all_commands real (net_at real z 0) ≤ 104096) (sym is) (few-commands net good) in
    let servers : length run.net.servers ≤ 64 = subst (λ (z : PhasedNet real). length z.servers ≤ 64) (sym is) (omega (arith, length-range_with_len 1 (first_tree net.trees).count, few-servers net.trees good.trees)) in
    let low : length run.journal < 1000000000 = few-entries (length run.journal) (all_commands real (net_at real run.net 0)) (length run.net.servers) bounds.within commands servers in
    record {
      entries = low;
      stamps = λ entry h. omega (arith, bounds.stamps entry h, low);
      clocks = λ server. omega (arith, bounds.clocks server, low);
      puts = λ from to message h. omega (arith, bounds.puts from to message h, low);
    }
