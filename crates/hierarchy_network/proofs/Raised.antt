-- The clocks of the servers: a later phase raises all to the greatest, and what was set is set back.
use Rattle.std.proofs.Common.{◌≡◌, ℕ, zero, suc, ◌+◌, ◌<◌, ◌≤◌, max, List, [], ◌∷◌, ◌++◌, length, map, take, slice_get, slice_set, slice_index_or, ◌⊎◌, ◌^◌, Vec, Some, Result, Ok, Err, IfOk, OnOk, inl, inr, refl, sym, ap, subst, ◌∙◌, arith, add-one}
use Rattle.std.proofs.lemmas.Option.{same_Some}
use Rattle.std.proofs.lemmas.List.{map-append}
use Rattle.std.specs.declared.alloc.Global.{Global}
use Rattle.base.specs.Sets.{Has}
use Rattle.base.specs.declared.memory.NoMemory.{NoMemory}
use Rattle.law_machine.specs.Runs.{greatest, raised}
use Rattle.net_model.specs.Real.{real}
use Rattle.law_hierarchy.specs.Step.{Hierarchy}
use Rattle.net_model.specs.Parts.{NetParts}
use Rattle.net_model.specs.Nets.{first_tree}
use Rattle.hierarchy_network.specs.Core.{HierarchyParts, unsteered, RepresentsHierarchyServer}
use Rattle.hierarchy_turns.specs.Network.{net_of, servers_of}
use Rattle.sequential_network.specs.Stepping.{greatest_clock}
use Rattle.server_core.proofs.AnyClock.{any-clock}
use Rattle.sequential_network.proofs.Beginning.{greatest-is}
use Rattle.hierarchy_network.specs.Clocks.{with_clock, with_clocks, clock_from}
use Rattle.hierarchy_network.specs.Kept.{AreServers}
use Rattle.hierarchy_network.specs.Ruling.{all_raised, WereRaised}
use Rattle.hierarchy_network.specs.Stepping.{hierarchy}
use Rattle.base.proofs.Sets.{has-append}
use Rattle.base.proofs.Lists.{take-suc-some, map-get}

-- one clock more is set
set-next : (clocks : List ℕ) (cores : List HierarchyParts) (i : ℕ) (clock : ℕ) (parts : HierarchyParts) → slice_get clocks i ≡ Some clock → slice_get cores i ≡ Some parts
    → slice_set (with_clocks (take i clocks) cores) i (with_clock clock parts) ≡ with_clocks (take (suc i) clocks) cores
set-next [] cores i clock parts e f = absurd cc
set-next (c ∷ clocks) [] i clock parts e f = absurd cc
set-next (c ∷ clocks) (p ∷ cores) zero clock parts e f = λ k. with_clock (sym (same_Some c clock e) k) (sym (same_Some p parts f) k) ∷ cores
set-next (c ∷ clocks) (p ∷ cores) (suc i) clock parts e f = ap (λ z. with_clock c p ∷ z) (set-next clocks cores i clock parts e f)

pub set-more : (clocks : List ℕ) (cores : List HierarchyParts) (i : ℕ) (clock : ℕ) (parts : HierarchyParts) → slice_get clocks i ≡ Some clock → slice_get cores i ≡ Some parts
    → slice_set (with_clocks (take i clocks) cores) i (with_clock clock parts) ≡ with_clocks (take (i + 1) clocks) cores
set-more clocks cores i clock parts e f = set-next clocks cores i clock parts e f ∙ ap (λ n. with_clocks (take n clocks) cores) (sym (add-one i))

pub clock-more : (least : ℕ) (places : List HierarchyParts) (i : ℕ) (parts : HierarchyParts) (x : ℕ) (clocks new : List ℕ) → slice_get places i ≡ Some parts → x ≡ clock_from least parts
    → new ≡ clocks ++ x ∷ [] → clocks ≡ map (clock_from least) (take i places) → new ≡ map (clock_from least) (take (i + 1) places)
clock-more least places i parts x clocks new at is more so =
    more ∙ (λ k. so k ++ is k ∷ []) ∙ sym (ap (λ n. map (clock_from least) (take n places)) (add-one i) ∙ ap (map (clock_from least)) (take-suc-some places i parts at) ∙ map-append (clock_from least) (take i places) (parts ∷ []))

pub low-more : (clocks new : List ℕ) (x n : ℕ) → new ≡ clocks ++ x ∷ [] → ((c : ℕ) → Has c clocks → c < n) → x < n → (c : ℕ) → Has c new → c < n
low-more clocks new x n more all low c h = go (has-append c clocks (x ∷ []) (subst (Has c) more h))
  where
    go : Has c clocks ⊎ Has c (x ∷ []) → c < n
    go (inl m) = all c m
    go (inr (inl e)) = subst (λ z. z < n) (sym e) low
    go (inr (inr m)) = absurd m

-- the clock at a place
pub clock-at : (clocks : List ℕ) (i : ℕ) → i < length clocks → slice_get clocks i ≡ Some (slice_index_or clocks i 0)
clock-at [] i l = absurd (omega (arith, l))
clock-at (c ∷ clocks) zero l = refl
clock-at (c ∷ clocks) (suc i) l = clock-at clocks i (omega (arith, l))

-- at the next place all is as it was
pub next-there : (clocks : List ℕ) (cores : List HierarchyParts) (i : ℕ) → slice_get (with_clocks (take i clocks) cores) i ≡ slice_get cores i
next-there clocks cores zero = refl
next-there [] cores (suc i) = refl
next-there (c ∷ clocks) [] (suc i) = refl
next-there (c ∷ clocks) (p ∷ cores) (suc i) = next-there clocks cores i

pub clocks-long : (clocks : List ℕ) (cores : List HierarchyParts) → length (with_clocks clocks cores) ≡ length cores
clocks-long [] cores = refl
clocks-long (c ∷ clocks) [] = refl
clocks-long (c ∷ clocks) (p ∷ cores) = ap suc (clocks-long clocks cores)

-- clocks of all servers
pub all-set : (f : HierarchyParts → ℕ) (cores : List HierarchyParts) → with_clocks (map f cores) cores ≡ map (λ p. with_clock (f p) p) cores
all-set f [] = refl
all-set f (p ∷ cores) = ap (λ z. with_clock (f p) p ∷ z) (all-set f cores)

-- what was set goes back
pub set-back : (f : HierarchyParts → ℕ) (cores : List HierarchyParts) → with_clocks (map (clock_from 0) cores) (with_clocks (map f cores) cores) ≡ cores
set-back f [] = refl
set-back f (p ∷ cores) = λ k. with_clock (own k) (with_clock (f p) p) ∷ set-back f cores k
  where
    own : max p.core.clock 0 ≡ p.core.clock
    own = omega arith

-- no clock is above the greatest
below-greatest : (cores : List HierarchyParts) (place : ℕ) (parts : HierarchyParts) → slice_get cores place ≡ Some parts → parts.core.clock ≤ greatest_clock hierarchy cores
below-greatest [] place parts e = absurd cc
below-greatest (c ∷ cs) zero parts e = let same = ap (λ (z : HierarchyParts). z.core.clock) (same_Some c parts e) in omega (arith, same)
below-greatest (c ∷ cs) (suc place) parts e = let ih = below-greatest cs place parts e in omega (arith, ih)

-- raised to the greatest, the servers are those of the raised state
module _ (net : NetParts) (state : Hierarchy real (net_of net)) (cores : List HierarchyParts) (servers : AreServers net state cores) where
  clock-is : greatest_clock hierarchy cores ≡ greatest (servers_of net) state.clock (net_of net).servers
  clock-is = greatest-is hierarchy (servers_of net) state.clock 1 (first_tree net.trees).count cores servers.all (λ place parts at. servers.clocks place parts at ∙ ap state.clock (one-more place))
    where
      one-more : (place : ℕ) → suc place ≡ 1 + place
      one-more place = omega arith

  abbrev up : HierarchyParts → HierarchyParts
  up p = with_clock (clock_from (greatest_clock hierarchy cores) p) p

  record Was (place : ℕ) (parts : HierarchyParts) : Type 0 where
    old : HierarchyParts
    there : slice_get cores place ≡ Some old
    is : up old ≡ parts

  was : (place : ℕ) (parts : HierarchyParts) → slice_get (with_clocks (map (clock_from (greatest_clock hierarchy cores)) cores) cores) place ≡ Some parts → Was place parts
  was place parts e =
      let x = map-get up cores place parts (sym (ap (λ z. slice_get z place) (all-set (clock_from (greatest_clock hierarchy cores)) cores)) ∙ e) in
      record { old = x.0; there = x.1; is = x.2 }

  pub raised-servers : AreServers net (raised (servers_of net) state) (with_clocks (map (clock_from (greatest_clock hierarchy cores)) cores) cores)
  raised-servers = record {
    all = clocks-long (map (clock_from (greatest_clock hierarchy cores)) cores) cores ∙ servers.all;
    nets = λ place parts e. let w = was place parts e in subst (λ (z : HierarchyParts). z.core.net ≡ net) w.is (servers.nets place w.old w.there);
    number = λ place parts e. let w = was place parts e in subst (λ (z : HierarchyParts). z.core.server ≡ suc place) w.is (servers.number place w.old w.there);
    states = λ place parts e. let w = was place parts e in subst (λ (z : HierarchyParts). RepresentsHierarchyServer (net_of net) z (state.state (suc place))) w.is
        (stands-up (state.state (suc place)) w.old (servers.states place w.old w.there));
    clocks = λ place parts e. let w = was place parts e in sym (ap (λ (z : HierarchyParts). z.core.clock) w.is) ∙ high w.old (below-greatest cores place w.old w.there) ∙ clock-is;
  }
    where
      high : (old : HierarchyParts) → old.core.clock ≤ greatest_clock hierarchy cores → clock_from (greatest_clock hierarchy cores) old ≡ greatest_clock hierarchy cores
      high old l = omega (arith, l)

      stands-up : (s : _) (old : HierarchyParts) → RepresentsHierarchyServer (net_of net) old s → RepresentsHierarchyServer (net_of net) (up old) s
      stands-up s old is = record {
        stands = any-clock (unsteered (net_of net)) old.core (clock_from (greatest_clock hierarchy cores) old) s is.stands;
        refuses = is.refuses;
        masters = is.masters;
      }

-- the clocks of before, where all were raised
pub were-raised : (old new : List HierarchyParts) (answer : Result (Vec ℕ Global) NoMemory) → OnOk answer (new ≡ all_raised old)
    → IfOk answer (λ before. before.items ≡ map (clock_from 0) old) → IfOk answer (λ before. (c : ℕ) → Has c before.items → c < 2 ^ 62)
    → IfOk answer (λ before. WereRaised before old new)
were-raised old new (Ok before) raised clocks low = record { clocks = clocks; raised = raised; low = low }
were-raised old new (Err e) raised clocks low = tt
