-- Rounds of receptions and table updates, over any kind: their turns server by server, and that there are more rounds than a run has entries.
use Rattle.std.proofs.Common.{◌≡◌, ℕ, ◌+◌, ◌-◌, ◌<◌, ◌≤◌, Bool, List, [], ◌∷◌, ◌++◌, length, drop, refl, sym, ap, subst, ◌∙◌, arith}
use Rattle.base_tree.specs.Tree.{Topology, links_of}
use Rattle.law_machine.specs.Machine.{Did}
use Rattle.law_machine.specs.Walk.{repeated}
use Rattle.law_routing.specs.Step.{TableUpdate}
use Rattle.law_routing.specs.Walk.{round_at, enough_rounds}
use Rattle.law_phases.specs.Trees.{net_at, machine_at}
use Rattle.net_model.specs.Real.{real}
use Rattle.net_model.specs.declared.turn.Turn.TheVariants as turns
use Rattle.net_model.specs.Nets.{phased_net, servers_in, topology_at}
use Rattle.net_model.specs.Sound.{IsSound}
use Rattle.net_turns.specs.Network.{NetworkParts, IsLater}
use Rattle.net_turns.specs.Trying.{receptions, round_turns, rounds_turns}
use Rattle.net_turns.proofs.Rounds.{round-left}
use Rattle.net_turns.proofs.Later.{later-net}
use Rattle.net_turns.specs.Kinds.{Trying}
use Rattle.net_turns.proofs.Going.{going-repeats, repeat-breaks}

-- a server's part of a round on a tree
pub round-goes : (t : Trying) (phase q : ℕ) (tree : Topology) (server : ℕ) (neighbours : List ℕ) (some : Bool) (old first middle new : NetworkParts) → IsSound old.net
    → tree ≡ topology_at old.net q → 1 ≤ server → server ≤ tree.count → neighbours ≡ links_of tree server
    → t.Going phase (round_turns old.net q) (round_at real (net_at real (phased_net old.net) q) (drop (server - 1) (servers_in old.net))) old first
    → t.Tries phase (receptions server neighbours) first middle → t.IsTurn some (turns.TableUpdate server) middle new
    → t.Going phase (round_turns old.net q) (round_at real (net_at real (phased_net old.net) q) (drop (server + 1 - 1) (servers_in old.net))) old new
round-goes t phase q tree server neighbours some old first middle new sound e least most near way taken turn =
    let more = round_at real (net_at real (phased_net old.net) q) (drop (server + 1 - 1) (servers_in old.net)) in
    t.going_on phase (round_turns old.net q) ((server, Did TableUpdate) ∷ more) ((server, Did TableUpdate) ∷ []) more old middle new refl
    (t.going_on phase (round_turns old.net q) (round_at real (net_at real (phased_net old.net) q) (drop (server - 1) (servers_in old.net))) (receptions server neighbours) ((server, Did TableUpdate) ∷ more) old first middle
    (round-left old.net sound q tree server e least most ∙ ap (λ z. receptions server z ++ ((server, Did TableUpdate) ∷ more)) (sym near)) way taken)
    (t.tries_update some server phase middle new turn)

-- some rounds were made, and no more than there are entries
pub record Settling (t : Trying) (phase q : ℕ) (old new : NetworkParts) : Type 0 where
  pub left : ℕ
  pub few : enough_rounds real (net_at real (phased_net old.net) q) ≤ left + length new.journal
  pub way : t.Going phase (rounds_turns old.net q) (repeated (machine_at real (phased_net old.net) q) left (round_turns old.net q)) old new

pub settling-starts : (t : Trying) (phase q : ℕ) (network : NetworkParts) → Settling t phase q network network
settling-starts t phase q network = record {
  left = enough_rounds real (net_at real (phased_net network.net) q);
  few = omega arith;
  way = t.going_starts phase (rounds_turns network.net q) network;
}

-- a further round that makes something
pub settling-on : (t : Trying) (phase q : ℕ) (old middle new : NetworkParts) → IsLater old middle → Settling t phase q old middle
    → length middle.journal < enough_rounds real (net_at real (phased_net middle.net) q)
    → t.Tries phase (round_turns middle.net q) middle new → length middle.journal < length new.journal → Settling t phase q old new
settling-on t phase q old middle new later so fewer tries more = record {
  left = so.left - 1;
  few = omega (arith, so.few, more);
  way = going-repeats t phase q so.left (so.left - 1) (rounds_turns old.net q) (round_turns old.net q) old middle new
      (omega (arith, so.few, fewer, ap (λ n. enough_rounds real (net_at real (phased_net n) q)) (later-net old middle later))) so.way
      (subst (λ n. t.Tries phase (round_turns n q) middle new) (later-net old middle later) tries);
}

-- one that makes nothing
pub settling-ends : (t : Trying) (phase q : ℕ) (old middle new : NetworkParts) → IsLater old middle → Settling t phase q old middle
    → length middle.journal < enough_rounds real (net_at real (phased_net middle.net) q)
    → t.Tries phase (round_turns middle.net q) middle new → new ≡ middle → t.Tries phase (rounds_turns old.net q) old new
settling-ends t phase q old middle new later so fewer tries same =
    t.going_rests phase q so.left (so.left - 1) (rounds_turns old.net q) (round_turns old.net q) old middle new
    (omega (arith, so.few, fewer, ap (λ n. enough_rounds real (net_at real (phased_net n) q)) (later-net old middle later))) so.way
    (subst (λ n. t.Tries phase (round_turns n q) middle new) (later-net old middle later) tries) same

-- and one of which a beginning was made
pub settling-breaks : (t : Trying) (phase q : ℕ) (old middle new : NetworkParts) → IsLater old middle → Settling t phase q old middle
    → length middle.journal < enough_rounds real (net_at real (phased_net middle.net) q)
    → t.Begins phase (round_turns middle.net q) middle new → t.Begins phase (rounds_turns old.net q) old new
settling-breaks t phase q old middle new later so fewer begun =
    repeat-breaks t phase q so.left (so.left - 1) (rounds_turns old.net q) (round_turns old.net q) old middle new
    (omega (arith, so.few, fewer, ap (λ n. enough_rounds real (net_at real (phased_net n) q)) (later-net old middle later))) so.way
    (subst (λ n. t.Begins phase (round_turns n q) middle new) (later-net old middle later) begun)
