-- A network of a hierarchy before its first turn.
use Rattle.std.proofs.Common.{◌≡◌, ℕ, List, [], length, refl, sym, subst, arith}
use Rattle.net_model.specs.Parts.{NetParts}
use Rattle.net_model.specs.Nets.{first_tree}
use Rattle.net_model.specs.Sound.{IsSound}
use Rattle.hierarchy_network.specs.Core.{HierarchyParts}
use Rattle.hierarchy_turns.specs.Network.{opening_of}
use Rattle.hierarchy_network.specs.Kept.{AreServers, ArePlacesUpTo, IsNetwork}
use Rattle.sequential_network.specs.Acted.{Servers}

-- all servers before their first steps
pub servers_start : (net : NetParts) (cores : List HierarchyParts) → length cores ≡ (first_tree net.trees).count → ArePlacesUpTo net cores
    → AreServers net (opening_of net).network cores
servers_start net cores all each = record {
  all = all;
  nets = λ k parts e. (each k parts e).net_is;
  number = λ k parts e. (each k parts e).server_is;
  states = λ k parts e. (each k parts e).state;
  clocks = λ k parts e. (each k parts e).clock;
}

-- the network then
pub network_start : (net : NetParts) → IsSound net → (servers : Servers HierarchyParts) → servers.run ≡ net → servers.journal ≡ [] → ((a b : ℕ) → servers.messages a b ≡ [])
    → AreServers net (opening_of net).network servers.cores → IsNetwork net 0 servers
network_start net sound servers run journal empty cores = subst (λ z. IsNetwork net 0 (record { run = servers.run; cores = servers.cores; messages = servers.messages; journal = z })) (sym journal) (record {
  sound = sound;
  run = run;
  legal = (refl, refl);
  in_hand = refl;
  cores = cores;
  links = record { messages_are = empty; within = λ a b. omega arith };
})
