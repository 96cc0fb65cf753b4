-- A legal run has fewer entries than 64 bits count.
use Rattle.std.proofs.Common.{ℕ, suc, ◌+◌, ◌*◌, ◌-◌, ◌^◌, ◌<◌, ◌≤◌, List, length, arith}
use Rattle.std.proofs.lemmas.List.FromFn.{length-range_with_len}
use Rattle.law_routing.specs.Routing.{all_commands}
use Rattle.law_phases.specs.Trees.{net_at}
use Rattle.net_model.specs.Real.{real}
use Rattle.net_model.specs.Nets.{phased_net, first_tree}
use Rattle.net_model.specs.Parts.{NetParts, EntryParts}
use Rattle.net_model.specs.Sound.{IsSound}
use Rattle.net_model.proofs.SoundNets.{few-servers}
use Rattle.net_model.proofs.Counted.{few-commands, few-entries}
use Rattle.net_turns.specs.Kinds.{Trying}

-- whatever the kind of network
pub few-made : (trying : Trying) (net : NetParts) (journal : List EntryParts) → IsSound net → trying.IsLegal net journal → length journal < 2 ^ 64 - 1
few-made trying net journal sound legal =
    let commands = all_commands real (net_at real (phased_net net) 0) in
    let servers = length (phased_net net).servers in
    let few : servers ≤ 64 = let r = length-range_with_len 1 (first_tree net.trees).count in let f = few-servers net.trees sound.trees in omega (arith, r, f) in
    let low : 2 * (commands * (servers * servers + 1)) < 1000000000 = few-entries (2 * (commands * (servers * servers + 1))) commands servers (omega arith) (few-commands net sound) few in
    let rounds : length journal < suc (3 * (commands * (servers * servers + 1))) = trying.fewer_entries net journal sound legal 0 in
    omega (arith, low, rounds)
