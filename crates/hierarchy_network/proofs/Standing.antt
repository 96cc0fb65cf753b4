-- The servers of a network at its moment: each can act, since no stamp comes near the greatest.
use Rattle.std.proofs.Common.{◌≡◌, ℕ, suc, ◌-◌, ◌<◌, ◌≤◌, List, drop, sym, ap, subst, ◌∙◌, arith}
use Rattle.base.specs.Sets.{Has}
use Rattle.law_machine.specs.Machine.{Stamped}
use Rattle.law_routing.specs.Server.{Message}
use Rattle.net_model.specs.Real.{real}
use Rattle.base_tree.specs.Tree.{links_of}
use Rattle.law_hierarchy.specs.Step.{Hierarchy}
use Rattle.net_model.specs.Parts.{NetParts, EntryParts}
use Rattle.net_model.specs.Nets.{first_tree, later_trees, topology_at}
use Rattle.net_model.specs.Sound.{IsSound}
use Rattle.net_model.proofs.SoundNets.{tree-map, few-servers}
use Rattle.server_core.specs.Step.{last_stamp}
use Rattle.hierarchy_network.specs.Core.{HierarchyParts}
use Rattle.hierarchy_turns.specs.Network.{net_of, moment_by, IsLegal, run_of}
use Rattle.hierarchy_turns.specs.Limits.{StaysLow}
use Rattle.hierarchy_turns.proofs.Lawful.{laws-of, low-of}
use Rattle.law_hierarchy.proofs.Spread.{bounded-run}
use Rattle.net_model.specs.Real.{real_laws}
use Rattle.sequential_network.specs.Links.{StampedMessageParts, waiting_in}
use Rattle.sequential_network.proofs.Standing.{At, Found, get-at, drop-has}
use Rattle.sequential_network.specs.Seen.{CanAct}
use Rattle.hierarchy_network.specs.Kept.{AreServers, IsNetwork}
use Rattle.sequential_network.specs.Acted.{Servers}
use Rattle.hierarchy_network.specs.Stepping.{hierarchy}
use Rattle.base.proofs.Sets.{has-map}

pub links_at : (net : NetParts) (server : ℕ) → (net_of net).links server ≡ links_of (topology_at net 0) server
links_at net server = ap (λ z. z.links server) (sym (tree-map (first_tree net.trees) (later_trees net.trees) 0))

pub low_at : (net : NetParts) (journal : List EntryParts) (sound : IsSound net) (legal : IsLegal net journal) → StaysLow net journal
low_at net journal sound legal = low-of net journal sound legal (bounded-run real real_laws (run_of net (laws-of net sound) journal legal))

module _ (net : NetParts) (sound : IsSound net) (state : Hierarchy real (net_of net)) (cores : List HierarchyParts) (servers : AreServers net state cores) where
  -- where clocks are low, a server can act
  pub can_act : (server : ℕ) → 1 ≤ server → server ≤ (first_tree net.trees).count → ((s : ℕ) → state.clock s < last_stamp)
      → CanAct hierarchy server (links_of (topology_at net 0) server) cores
  can_act server counted few low = go (get-at cores (server - 1) (let all = servers.all in omega (arith, counted, few, all)))
    where
      place-is : suc (server - 1) ≡ server
      place-is = omega (arith, counted)

      go : At cores (server - 1) → CanAct hierarchy server (links_of (topology_at net 0) server) cores
      go (Found core e) = record {
        counted = counted;
        small = let most = few-servers net.trees sound.trees in omega (arith, few, most);
        near = λ link h. (laws-of net sound).lawful.small server link (subst (Has link) (sym (links_at net server)) h);
        core = core;
        here = e;
        number = servers.number (server - 1) core e ∙ place-is;
        low = subst (λ z. z < last_stamp) (sym (servers.clocks (server - 1) core e)) (low (suc (server - 1)));
        some = (net_of net, (laws-of net sound).lawful, state.state (suc (server - 1)), servers.states (server - 1) core e);
        links = sym (links_at net server) ∙ ap ((net_of net).links) (sym (servers.number (server - 1) core e ∙ place-is)) ∙ (servers.states (server - 1) core e).stands.control.links;
      }

-- the clocks of a network are low, and so are the stamps on its links
module _ (net : NetParts) (phase : ℕ) (now : Servers HierarchyParts) (kept : IsNetwork net phase now) where
  pub clocks_low : (s : ℕ) → (moment_by net now.journal).network.clock s < last_stamp
  clocks_low s = let l = (low_at net now.journal kept.sound kept.legal).clocks s in omega (arith, l)

  pub puts_low : (from to : ℕ) (m : Stamped (Message real)) → Has m ((moment_by net now.journal).network.put from to) → m.stamp < last_stamp
  puts_low from to m h = let l = (low_at net now.journal kept.sound kept.legal).puts from to m h in omega (arith, l)

  waiting-of : (from to : ℕ) (w : StampedMessageParts) → Has w (now.messages from to) → (m : Stamped (Message real)) × Has m ((moment_by net now.journal).network.put from to) × (w ≡ waiting_in net m)
  waiting-of from to w h =
      let m = has-map (waiting_in net) (drop ((moment_by net now.journal).network.taken from to) ((moment_by net now.journal).network.put from to)) w (subst (Has w) (kept.links.messages_are from to) h) in
      (m.0, drop-has ((moment_by net now.journal).network.put from to) ((moment_by net now.journal).network.taken from to) m.0 m.1, m.2)

  pub waiting_low : (from to : ℕ) (w : StampedMessageParts) → Has w (now.messages from to) → w.stamp < last_stamp
  waiting_low from to w h =
      let m = waiting-of from to w h in
      subst (λ z. z < last_stamp) (sym (ap (λ z. z.stamp) m.2)) (puts_low from to m.0 m.1)

  -- they are of the net
  pub waiting_of_net : (from to : ℕ) (w : StampedMessageParts) → Has w (now.messages from to) → w.sent.net ≡ net
  waiting_of_net from to w h = ap (λ z. z.sent.net) (waiting-of from to w h).2
