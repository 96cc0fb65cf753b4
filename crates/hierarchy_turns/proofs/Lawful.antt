-- Proves that a sound net meets the laws of a hierarchy.
use Rattle.std.proofs.Common.{◌≡◌, ℕ, zero, suc, ◌+◌, ◌*◌, ◌≤◌, ◌<◌, List, [], ◌∷◌, length, map, refl, ap, subst, arith}
use Rattle.std.specs.List.{range_with_len}
use Rattle.base_tree.proofs.Servers.{in-server}
use Rattle.net_model.specs.Real.{real}
use Rattle.law_phases.proofs.Nets.{net-laws as each-net}
use Rattle.law_hierarchy.specs.Masters.{HierarchyLaws}
use Rattle.net_model.specs.Parts.{NetParts, EntryParts}
use Rattle.net_model.specs.Nets.{phased_net, first_tree}
use Rattle.net_model.specs.Sound.{IsSound}
use Rattle.net_model.proofs.SoundNets.{net-laws, few-servers, some-server}
use Rattle.net_model.proofs.Counted.{few-commands, few-entries}
use Rattle.law_routing.specs.Routing.{all_commands}
use Rattle.law_hierarchy.specs.HierarchyRun.{IsBounded}
use Rattle.hierarchy_turns.specs.Network.{net_of, entry_in, journal_in, run_of, IsLegal}
use Rattle.hierarchy_turns.specs.Limits.{StaysLow}
use Rattle.std.proofs.lemmas.List.{length-map}
use Rattle.std.proofs.lemmas.List.FromFn.{length-range_with_len}

pub laws-of : (net : NetParts) → IsSound net → HierarchyLaws real (net_of net)
laws-of net sound = record {
  lawful = each-net real (phased_net net) (net-laws net sound) 0;
  topped = in-server (first_tree net.trees).count 1 (omega arith, some-server net.trees sound.trees);
}

pub low-of : (net : NetParts) (journal : List EntryParts) (sound : IsSound net) (legal : IsLegal net journal) → IsBounded real (run_of net (laws-of net sound) journal legal) → StaysLow net journal
low-of net journal sound legal bounds =
    let long : length (journal_in net journal) ≡ length journal = length-map journal (entry_in net) in
    let servers : length (net_of net).servers ≤ 64 = let r = length-range_with_len 1 (first_tree net.trees).count in let f = few-servers net.trees sound.trees in omega (arith, r, f) in
    let low : length (journal_in net journal) < 1000000000 = few-entries (length (journal_in net journal)) (all_commands real (net_of net)) (length (net_of net).servers) bounds.within (few-commands net sound) servers in
    record {
      entries = subst (λ n. n < 1000000000) long low;
      clocks = λ server. let b = bounds.clocks server in omega (arith, b, low);
      puts = λ from to message h. let b = bounds.puts from to message h in omega (arith, b, low);
    }
