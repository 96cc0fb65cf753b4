-- All servers set on the tree of another phase.
use Rattle.std.proofs.Common.{◌≡◌, ℕ, suc, ◌<◌, ◌^◌, nat_lt, false, List, map, length, Some, slice_get, Vec, Global, Result, Ok, Err, IfOk, sym, subst}
use Rattle.base.specs.Sets.{Has, IsRising}
use Rattle.base_tree.specs.Tree.{Topology, TreeLaws, links_of}
use Rattle.law_phases.specs.Trees.{State, is_one_tree, IsAtRestOn}
use Rattle.net_model.specs.Real.{real}
use Rattle.net_model.specs.Parts.{NetParts}
use Rattle.net_model.specs.Nets.{phased_net, topology_at}
use Rattle.net_model.specs.Sound.{IsSound}
use Rattle.server_spec.specs.declared.control.HeldLink.{HeldLink}
use Rattle.server_spec.specs.Flow.{IsFlow, AreGivenLinks}
use Rattle.server_flow.specs.Homes.{NetHome, homes_in}
use Rattle.server_control.specs.Held.{NetHeld, held_in}
use Rattle.server_core.specs.Core.{CoreParts}
use Rattle.server_core.specs.Linked.{AreHeldLinks}
use Rattle.sequential_network.specs.Kept.{AreServers}
use Rattle.sequential_network.specs.declared.relinking.Standing.{Standing}
use Rattle.sequential_network.specs.Stepping.{greatest_clock, peers}
use Rattle.sequential_network.specs.Begin.{Begins, RepresentsHome, IsOnOtherLinks}
use Rattle.sequential_network.proofs.Beginning.{also, unions}
use Rattle.sequential_network.proofs.Exchanged.{moved-begins}

-- what holds of a result's value, by what else does

pub if-both : {A E : Type 0} {P Q R : A → Type 0} → ((x : A) → P x → Q x → R x) → (r : Result A E) → IfOk r P → IfOk r Q → IfOk r R
if-both step (Ok x) p q = step x p q
if-both step (Err e) p q = tt

pub if-all : {A E : Type 0} {P Q R S : A → Type 0} → ((x : A) → P x → Q x → R x → S x) → (r : Result A E) → IfOk r P → IfOk r Q → IfOk r R → IfOk r S
if-all step (Ok x) p q s = step x p q s
if-all step (Err e) p q s = tt

-- links that may be held
pub held-links : (tree : Topology) → TreeLaws tree → (server : ℕ) (links : List HeldLink) → map (λ (h : HeldLink). h.link) links ≡ links_of tree server → AreGivenLinks links → AreHeldLinks links
held-links tree laws server links is given = record {
  rising = subst (IsRising nat_lt) (sym is) (laws.rising server);
  small = given.small;
  filters = given.filters;
  adverts = given.adverts;
}

-- the standings of all servers
pub all-set : (net : NetParts) (sound : IsSound net) (phase clock : ℕ) (cores : List CoreParts) (held : List (Vec NetHeld Global)) (homes : List NetHome) (standings : List Standing)
    → clock ≡ greatest_clock peers cores → clock < 2 ^ 62 → length homes ≡ length cores → length held ≡ length cores
    → ((place : ℕ) (core : CoreParts) (home : NetHome) → slice_get cores place ≡ Some core → slice_get homes place ≡ Some home → RepresentsHome core home)
    → ((place : ℕ) (links : Vec NetHeld Global) → slice_get held place ≡ Some links → map (λ (h : HeldLink). h.link) (held_in links.items) ≡ links_of (topology_at net phase) (suc place))
    → ((place : ℕ) (links : Vec NetHeld Global) → slice_get held place ≡ Some links → (h : HeldLink) → Has h (held_in links.items) → IsFlow net.semantics (topology_at net phase) (homes_in homes) (suc place) h)
    → length standings ≡ length cores → ((place : ℕ) (standing : Standing) → slice_get standings place ≡ Some standing → standing.clock ≡ clock)
    → ((place : ℕ) (links : Vec NetHeld Global) (core : CoreParts) (standing : Standing) → slice_get held place ≡ Some links → slice_get cores place ≡ Some core → slice_get standings place ≡ Some standing
    → IsOnOtherLinks (held_in links.items) core standing)
    → (last : ℕ) (state : State real) → is_one_tree real (phased_net net) last phase ≡ false → AreServers net last state cores → IsAtRestOn real (phased_net net) last state → Begins net last phase cores standings
all-set net sound phase clock cores held homes standings greatest low long-homes long-held home links flow long clocks moved last state other servers rest =
    moved-begins net sound last phase clock cores standings state other greatest low long clocks (homes_in homes)
    (λ state servers rest. unions net sound last state cores servers rest phase homes long-homes home)
    (λ place standing core s c.
    (let h = also cores held place core long-held c in (held_in h.0.items, links place h.0 h.1, flow place h.0 h.1, moved place h.0 core standing h.1 c s)))
    servers rest
