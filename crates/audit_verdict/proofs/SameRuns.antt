-- Nets that differ in nothing but the tables of their trees have the same runs.
use Rattle.std.proofs.Common.{◌≡◌, ℕ, suc, Bool, true, false, cond, List, [], ◌∷◌, length, map, refl, ap, subst, ◌∙◌}
use Rattle.std.specs.Prelude.{nat_le}
use Rattle.base_tree.specs.Tree.{Topology, links_of}
use Rattle.base_tree.specs.Graph.{servers_to}
use Rattle.law_machine.specs.Network.{messages_of}
use Rattle.law_routing.specs.Rest.{IsDrained}
use Rattle.law_routing.specs.Server.{Message}
use Rattle.law_phases.specs.Trees.{Tree, JournalEntry, PhasedNet, tree_after, trees_by, net_at, machine_at, at_phase, entry_on}
use Rattle.law_phases.specs.Moments.{Moment, opening_moment, moment_of, found_of}
use Rattle.law_phases.specs.Runs.{IsRunTo}
use Rattle.net_model.specs.Real.{real}
use Rattle.filter_text.specs.declared.semantics.Semantics.{Semantics}
use Rattle.net_model.specs.declared.turn.Turn.{Turn}
use Rattle.net_model.specs.Parts.{ClientParts, NetParts, net_parts}
use Rattle.net_model.specs.Nets.{phased_net, phased_tree, tree_of, first_tree, later_trees, with_adverts, home_of, clients_of, script_of}
use Rattle.law_phases.specs.Walk.{walk_phases}
use Rattle.audit_verdict.proofs.SameTrees.{run-there, same-after, same-found-after, drained-there, same-messages, same-phases}

-- trees with the same first phases and the same neighbours, one by one
abbrev pub AreAlike : List (ℕ × Topology) → List (ℕ × Topology) → Type 0
AreAlike [] [] = Unit {0}
AreAlike [] (u ∷ us) = ⊥
AreAlike (t ∷ ts) [] = ⊥
AreAlike (t ∷ ts) (u ∷ us) = (t.0 ≡ u.0) × (t.1.count ≡ u.1.count) × ((a : ℕ) → links_of t.1 a ≡ links_of u.1 a) × AreAlike ts us

near-after : (t u : Topology) (ts us : List (ℕ × Topology)) → ((a : ℕ) → links_of t a ≡ links_of u a) → AreAlike ts us
    → (p : ℕ) → (tree_after (tree_of t) (map phased_tree ts) p).links ≡ (tree_after (tree_of u) (map phased_tree us) p).links
near-after t u [] [] l h p = λ i a. l a i
near-after t u [] (y ∷ us) l h p = absurd h
near-after t u (x ∷ ts) [] l h p = absurd h
near-after t u (x ∷ ts) (y ∷ us) l (e, c, m, rest) p =
    ap (λ k. (let z : Tree = cond (nat_le k p) (tree_after (tree_of x.1) (map phased_tree ts) p) (tree_of t) in z).links) e
    ∙ go (nat_le y.0 p) (near-after x.1 y.1 ts us m rest p)
  where
    go : (b : Bool) → (tree_after (tree_of x.1) (map phased_tree ts) p).links ≡ (tree_after (tree_of y.1) (map phased_tree us) p).links
        → (let z : Tree = cond b (tree_after (tree_of x.1) (map phased_tree ts) p) (tree_of t) in z).links ≡ (let z : Tree = cond b (tree_after (tree_of y.1) (map phased_tree us) p) (tree_of u) in z).links
    go true ih = ih
    go false ih = λ i a. l a i

as-many : (ts us : List (ℕ × Topology)) → AreAlike ts us → (p : ℕ) → trees_by (map phased_tree ts) p ≡ trees_by (map phased_tree us) p
as-many [] [] h p = refl
as-many [] (y ∷ us) h p = absurd h
as-many (x ∷ ts) [] h p = absurd h
as-many (x ∷ ts) (y ∷ us) (e, c, m, rest) p = λ i. cond (nat_le (e i) p) (suc (as-many ts us rest p i)) 0

later-alike : (ts us : List (ℕ × Topology)) → AreAlike ts us → AreAlike (later_trees ts) (later_trees us)
later-alike [] [] h = tt
later-alike [] (y ∷ us) h = absurd h
later-alike (x ∷ ts) [] h = absurd h
later-alike (x ∷ ts) (y ∷ us) h = h.3

first-alike : (ts us : List (ℕ × Topology)) → AreAlike ts us → ((first_tree ts).count ≡ (first_tree us).count) × ((a : ℕ) → links_of (first_tree ts) a ≡ links_of (first_tree us) a)
first-alike [] [] h = (refl, λ a. refl)
first-alike [] (y ∷ us) h = absurd h
first-alike (x ∷ ts) [] h = absurd h
first-alike (x ∷ ts) (y ∷ us) h = (h.1, h.2)

-- one net beside another of the same semantics and clients, whose trees are alike
module _ (semantics : Semantics) (clients : List ClientParts) (v w : ℕ) (t u : List (ℕ × Topology)) (x y : List (ℕ × Turn)) (alike : AreAlike t u) where
  abbrev here : NetParts
  here = net_parts v semantics t clients x

  abbrev there : NetParts
  there = net_parts w semantics u clients y

  -- the other with the servers of the one
  abbrev between : ℕ → PhasedNet real
  between n = record {
    adverts = with_adverts semantics;
    servers = servers_to n;
    tree = tree_of (first_tree u);
    later = map phased_tree (later_trees u);
    home = home_of here;
    clients = clients_of here;
    script = script_of here;
  }

  counts : (first_tree t).count ≡ (first_tree u).count
  counts = (first-alike t u alike).0

  near : (p : ℕ) → (tree_after (tree_of (first_tree t)) (map phased_tree (later_trees t)) p).links ≡ (tree_after (tree_of (first_tree u)) (map phased_tree (later_trees u)) p).links
  near = near-after (first_tree t) (first_tree u) (later_trees t) (later_trees u) (first-alike t u alike).1 (later-alike t u alike)

  many : (p : ℕ) → trees_by (map phased_tree (later_trees t)) p ≡ trees_by (map phased_tree (later_trees u)) p
  many = as-many (later_trees t) (later_trees u) (later-alike t u alike)

  -- what a run of a net is, what its end is, and what it tells
  abbrev IsRunOf : List JournalEntry → PhasedNet real → Type 0
  IsRunOf es n = IsRunTo real n (opening_moment real n) es (moment_of real n es (length es))

  abbrev EndsDrained : List JournalEntry → PhasedNet real → Type 0
  EndsDrained es n = IsDrained real (net_at real n (moment_of real n es (length es)).phase) (at_phase real n (moment_of real n es (length es)).phase (moment_of real n es (length es)).state)

  abbrev told : List JournalEntry → ℕ → JournalEntry → ℕ → PhasedNet real → List (Message real)
  told es k e link n = messages_of (machine_at real n (found_of real n es k).phase) (at_phase real n (found_of real n es k).phase (found_of real n es k).state) (entry_on real (net_at real n (found_of real n es k).phase) e) link

  abbrev neighbours : List JournalEntry → ℕ → ℕ → PhasedNet real → List ℕ
  neighbours es k server n = (net_at real n (found_of real n es k).phase).links server

  pub run-here : (es : List JournalEntry) → IsRunOf es (phased_net here) → IsRunOf es (phased_net there)
  run-here es h =
      subst (λ n. IsRunOf es (between n)) counts
      (subst (λ (m : Moment real (between (first_tree t).count)). IsRunTo real (between (first_tree t).count) (opening_moment real (between (first_tree t).count)) es m)
      (same-after real (with_adverts semantics) (servers_to (first_tree t).count) (home_of here) (clients_of here) (script_of here) (tree_of (first_tree t)) (tree_of (first_tree u)) (map phased_tree (later_trees t)) (map phased_tree (later_trees u)) near many es (length es) (opening_moment real (phased_net here)))
      (run-there real (with_adverts semantics) (servers_to (first_tree t).count) (home_of here) (clients_of here) (script_of here) (tree_of (first_tree t)) (tree_of (first_tree u)) (map phased_tree (later_trees t)) (map phased_tree (later_trees u)) near many
      es (opening_moment real (phased_net here)).state 0 (moment_of real (phased_net here) es (length es)).state (moment_of real (phased_net here) es (length es)).phase h))

  pub drained-here : (es : List JournalEntry) → EndsDrained es (phased_net here) → EndsDrained es (phased_net there)
  drained-here es h =
      subst (λ n. EndsDrained es (between n)) counts
      (subst (λ (m : Moment real (between (first_tree t).count)). IsDrained real (net_at real (between (first_tree t).count) m.phase) (at_phase real (between (first_tree t).count) m.phase m.state))
      (same-after real (with_adverts semantics) (servers_to (first_tree t).count) (home_of here) (clients_of here) (script_of here) (tree_of (first_tree t)) (tree_of (first_tree u)) (map phased_tree (later_trees t)) (map phased_tree (later_trees u)) near many es (length es) (opening_moment real (phased_net here)))
      (drained-there real (with_adverts semantics) (servers_to (first_tree t).count) (home_of here) (clients_of here) (script_of here) (tree_of (first_tree t)) (tree_of (first_tree u)) (map phased_tree (later_trees t)) (map phased_tree (later_trees u)) near many
      (moment_of real (phased_net here) es (length es)).phase (moment_of real (phased_net here) es (length es)).state h))

  pub state-here : (es : List JournalEntry) (k : ℕ) → (moment_of real (phased_net here) es k).state ≡ (moment_of real (phased_net there) es k).state
  state-here es k =
      ap (λ (m : Moment real (between (first_tree t).count)). m.state)
      (same-after real (with_adverts semantics) (servers_to (first_tree t).count) (home_of here) (clients_of here) (script_of here) (tree_of (first_tree t)) (tree_of (first_tree u)) (map phased_tree (later_trees t)) (map phased_tree (later_trees u)) near many es k (opening_moment real (phased_net here)))
      ∙ ap (λ n. (moment_of real (between n) es k).state) counts

  pub told-here : (es : List JournalEntry) (k : ℕ) (e : JournalEntry) (link : ℕ) → told es k e link (phased_net here) ≡ told es k e link (phased_net there)
  told-here es k e link =
      same-messages real (with_adverts semantics) (servers_to (first_tree t).count) (home_of here) (clients_of here) (script_of here) (tree_of (first_tree t)) (tree_of (first_tree u)) (map phased_tree (later_trees t)) (map phased_tree (later_trees u)) near many
      (found_of real (phased_net here) es k).phase (found_of real (phased_net here) es k).state e link
      ∙ ap (λ (m : Moment real (between (first_tree t).count)). messages_of (machine_at real (between (first_tree t).count) m.phase) (at_phase real (between (first_tree t).count) m.phase m.state) (entry_on real (net_at real (between (first_tree t).count) m.phase) e) link)
      (same-found-after real (with_adverts semantics) (servers_to (first_tree t).count) (home_of here) (clients_of here) (script_of here) (tree_of (first_tree t)) (tree_of (first_tree u)) (map phased_tree (later_trees t)) (map phased_tree (later_trees u)) near many es k (opening_moment real (phased_net here)))
      ∙ ap (λ n. told es k e link (between n)) counts

  pub neighbours-here : (es : List JournalEntry) (k server : ℕ) → neighbours es k server (phased_net here) ≡ neighbours es k server (phased_net there)
  neighbours-here es k server =
      ap (λ (l : ℕ → List ℕ). l server) (near (found_of real (phased_net here) es k).phase)
      ∙ ap (λ (m : Moment real (between (first_tree t).count)). (net_at real (between (first_tree t).count) m.phase).links server)
      (same-found-after real (with_adverts semantics) (servers_to (first_tree t).count) (home_of here) (clients_of here) (script_of here) (tree_of (first_tree t)) (tree_of (first_tree u)) (map phased_tree (later_trees t)) (map phased_tree (later_trees u)) near many es k (opening_moment real (phased_net here)))
      ∙ ap (λ n. neighbours es k server (between n)) counts

  pub walk-here : (n p : ℕ) → walk_phases real (phased_net here) n p (opening_moment real (phased_net here)) ≡ walk_phases real (phased_net there) n p (opening_moment real (phased_net there))
  walk-here n p =
      same-phases real (with_adverts semantics) (servers_to (first_tree t).count) (home_of here) (clients_of here) (script_of here) (tree_of (first_tree t)) (tree_of (first_tree u)) (map phased_tree (later_trees t)) (map phased_tree (later_trees u)) near many
      n p (opening_moment real (phased_net here))
      ∙ ap (λ k. walk_phases real (between k) n p (opening_moment real (between k))) counts
