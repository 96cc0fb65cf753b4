-- A change of tree between two phases: the servers' sets are what flows over the new tree from the clients' own sets.
use Rattle.std.specs.Prelude.{ℕ, zero, nat_lt, false, cond, List, []}
use Rattle.law_machine.specs.Runs.{greatest}
use Rattle.law_routing.specs.Theory.{Theory}
use Rattle.law_routing.specs.Net.{Net}
use Rattle.law_routing.specs.Routing.{routing_machine, Network}
use Rattle.law_routing.specs.Flow.{relinked}

module _ (theory : Theory) (net : Net theory) (links : ℕ → List ℕ) (hop : ℕ → ℕ → ℕ) where
  -- the net with its servers on another tree
  abbrev pub with_tree : Net theory
  with_tree = record net { links = links; hop = hop }

  -- the sets that a server holds from its clients
  abbrev pub client_sets : {T : Type 0} → (ℕ → List T) → ℕ → List T
  client_sets sets i = cond (nat_lt 64 i) (sets i) []

  -- the network on that tree: each server holds its clients' sets and what flows from beyond its neighbours, all installed; every clock is raised,
  -- and no link has a message
  abbrev pub on_tree : Network theory net → Network theory with_tree
  on_tree network = record {
    state = λ t. record {
      subs = (relinked theory with_tree (λ s. client_sets (network.state s).subs) (λ s. client_sets (network.state s).advs) t).subs;
      advs = (relinked theory with_tree (λ s. client_sets (network.state s).subs) (λ s. client_sets (network.state s).advs) t).advs;
      installed = (relinked theory with_tree (λ s. client_sets (network.state s).subs) (λ s. client_sets (network.state s).advs) t).subs;
      pending = false;
      done = (network.state t).done;
      inbox = (network.state t).inbox;
    };
    clock = λ t. greatest (routing_machine theory net) network.clock net.servers;
    put = λ a b. [];
    taken = λ a b. zero;
  }
