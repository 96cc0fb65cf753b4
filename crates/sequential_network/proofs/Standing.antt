-- The servers of a network at its moment: each can act, since no stamp comes near the greatest.
use Rattle.std.proofs.Common.{◌≡◌, ℕ, zero, suc, ◌-◌, ◌<◌, ◌≤◌, List, [], ◌∷◌, length, drop, inr, slice_get, Some, refl, sym, ap, subst, ◌∙◌, arith}
use Rattle.base.specs.Sets.{Has}
use Rattle.law_machine.specs.Machine.{Stamped}
use Rattle.law_routing.specs.Server.{Message}
use Rattle.law_phases.specs.Trees.{State, net_at}
use Rattle.law_phases.specs.Runs.{PhasedRun}
use Rattle.net_model.specs.Real.{real}
use Rattle.base_tree.specs.Tree.{links_of}
use Rattle.sequential_network.specs.Links.{StampedMessageParts, waiting_in}
use Rattle.net_model.specs.Parts.{NetParts, EntryParts}
use Rattle.net_model.specs.Meaning.{journal_of}
use Rattle.net_model.specs.Nets.{phased_net, first_tree, topology_at}
use Rattle.net_model.specs.Sound.{IsSound}
use Rattle.net_model.specs.Limits.{StaysLow}
use Rattle.net_model.proofs.Counted.{stays-low}
use Rattle.net_model.proofs.SoundNets.{net-laws, few-servers}
use Rattle.net_model.proofs.TreesByPhase.{laws_at, links_at}
use Rattle.server_core.specs.Core.{CoreParts}
use Rattle.server_core.specs.Step.{last_stamp}
use Rattle.net_turns.specs.Network.{moment_by, IsLegal}
use Rattle.sequential_network.specs.Seen.{CanAct}
use Rattle.sequential_network.specs.Kept.{AreServers, IsNetwork}
use Rattle.sequential_network.specs.Acted.{Servers}
use Rattle.sequential_network.specs.Stepping.{peers}
use Rattle.base.proofs.Sets.{has-map}

-- the run of a legal journal
abbrev pub run_of : (net : NetParts) (journal : List EntryParts) → IsSound net → IsLegal net journal → PhasedRun real
run_of net journal sound legal = record {
  net = phased_net net;
  laws = net-laws net sound;
  journal = journal_of journal;
  end = (moment_by net journal).state;
  last = (moment_by net journal).phase;
  legal = legal;
}

pub low_at : (net : NetParts) (journal : List EntryParts) (sound : IsSound net) (legal : IsLegal net journal) → StaysLow (run_of net journal sound legal)
low_at net journal sound legal = stays-low net sound (run_of net journal sound legal) refl

pub drop-has : {T : Type 0} (xs : List T) (k : ℕ) (x : T) → Has x (drop k xs) → Has x xs
drop-has xs zero x h = h
drop-has [] (suc k) x h = absurd h
drop-has (y ∷ ys) (suc k) x h = inr (drop-has ys k x h)

-- a member at a place within a list
pub data At {T : Type 0} (xs : List T) (k : ℕ) : Type 0 where
  Found : (x : T) → slice_get xs k ≡ Some x → At xs k

pub get-at : {T : Type 0} (xs : List T) (k : ℕ) → k < length xs → At xs k
get-at [] k l = absurd (omega (arith, l))
get-at (x ∷ xs) zero l = Found x refl
get-at {T} (x ∷ xs) (suc k) l = go (get-at xs k (omega (arith, l)))
  where
    go : At xs k → At (x ∷ xs) (suc k)
    go (Found y e) = Found y e

module _ (net : NetParts) (sound : IsSound net) (phase : ℕ) (state : State real) (cores : List CoreParts) (servers : AreServers net phase state cores) where
  -- where clocks are low, a server can act
  pub can_act : (server : ℕ) → 1 ≤ server → server ≤ (first_tree net.trees).count → ((s : ℕ) → state.clock s < last_stamp)
      → CanAct peers server (links_of (topology_at net phase) server) cores
  can_act server counted few low = go (get-at cores (server - 1) (let all = servers.all in omega (arith, counted, few, all)))
    where
      place-is : suc (server - 1) ≡ server
      place-is = omega (arith, counted)

      go : At cores (server - 1) → CanAct peers server (links_of (topology_at net phase) server) cores
      go (Found core e) = record {
        counted = counted;
        small = let most = few-servers net.trees sound.trees in omega (arith, few, most);
        near = λ link h. (laws_at net sound phase).small server link (subst (Has link) (sym (links_at net phase server)) h);
        core = core;
        here = e;
        number = servers.number (server - 1) core e ∙ place-is;
        low = subst (λ z. z < last_stamp) (sym (servers.clocks (server - 1) core e)) (low (suc (server - 1)));
        some = (net_at real (phased_net net) phase, laws_at net sound phase, state.state (suc (server - 1)), servers.states (server - 1) core e);
        links = sym (links_at net phase server) ∙ ap ((net_at real (phased_net net) phase).links) (sym (servers.number (server - 1) core e ∙ place-is)) ∙ (servers.states (server - 1) core e).control.links;
      }

-- the clocks of a network are low, and so are the stamps on its links
module _ (net : NetParts) (phase : ℕ) (now : Servers CoreParts) (kept : IsNetwork net phase now) where
  pub clocks_low : (s : ℕ) → (moment_by net now.journal).state.clock s < last_stamp
  clocks_low s = let l = (low_at net now.journal kept.sound kept.legal).clocks s in omega (arith, l)

  pub puts_low : (from to : ℕ) (m : Stamped (Message real)) → Has m ((moment_by net now.journal).state.put from to) → m.stamp < last_stamp
  puts_low from to m h = let l = (low_at net now.journal kept.sound kept.legal).puts from to m h in omega (arith, l)

  waiting-of : (from to : ℕ) (w : StampedMessageParts) → Has w (now.messages from to) → (m : Stamped (Message real)) × Has m ((moment_by net now.journal).state.put from to) × (w ≡ waiting_in net m)
  waiting-of from to w h =
      let m = has-map (waiting_in net) (drop ((moment_by net now.journal).state.taken from to) ((moment_by net now.journal).state.put from to)) w (subst (Has w) (kept.links.messages_are from to) h) in
      (m.0, drop-has ((moment_by net now.journal).state.put from to) ((moment_by net now.journal).state.taken from to) m.0 m.1, m.2)

  pub waiting_low : (from to : ℕ) (w : StampedMessageParts) → Has w (now.messages from to) → w.stamp < last_stamp
  waiting_low from to w h =
      let m = waiting-of from to w h in
      subst (λ z. z < last_stamp) (sym (ap (λ z. z.stamp) m.2)) (puts_low from to m.0 m.1)

  -- they are of the net
  pub waiting_of_net : (from to : ℕ) (w : StampedMessageParts) → Has w (now.messages from to) → w.sent.net ≡ net
  waiting_of_net from to w h = ap (λ z. z.sent.net) (waiting-of from to w h).2
