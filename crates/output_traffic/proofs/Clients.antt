-- The clients of a net one by one, and the trees of its phases.
use Rattle.std.proofs.Common.{◌≡◌, ℕ, zero, suc, ◌+◌, ◌<◌, ◌&&◌, nat_le, Bool, true, false, cond, List, [], ◌∷◌, inl, inr, length, map, drop, take, get_or, slice_get, Some, refl, sym, ap, ◌∙◌, arith}
use Rattle.std.specs.List.{range_with_len}
use Rattle.std.proofs.lemmas.List.FromFn.{length-map-range_with_len, get_or-map-range_with_len}
use Rattle.base.specs.Sets.{Has}
use Rattle.base.specs.Numbers.{sum_over, count}
use Rattle.base_tree.specs.Hops.{side}
use Rattle.base_tree.specs.Tree.{Topology}
use Rattle.law_routing.specs.Clients.{refused_from}
use Rattle.law_routing.specs.Server.{is_among}
use Rattle.law_phases.specs.Trees.{Tree, tree_after, tree_at, net_at}
use Rattle.net_model.specs.Real.{real}
use Rattle.net_model.specs.Parts.{ClientParts, NetParts}
use Rattle.net_model.specs.Meaning.{phased_command}
use Rattle.net_model.specs.Nets.{first_tree, later_trees, of_clients, phased_net, phased_tree, topology_at, tree_of, home_of, script_of, home_in, script_in}
use Rattle.net_model.specs.Sound.{IsSound, IsAmong}
use Rattle.output_traffic.specs.Flood.{accepted_phases, flood_on, flooded_by, floods_over, is_flooded, refused_of}
use Rattle.output_traffic.specs.Going.{client_flood}
use Rattle.output_traffic.proofs.Edges.{at-has}
use Rattle.base.proofs.Lists.{drop-next}

-- a sum from a place on
pub sum-next : {X : Type 0} (f : X → ℕ) (xs : List X) (i : ℕ) (d : X) → i < length xs → sum_over f (drop i xs) ≡ f (get_or xs i d) + sum_over f (drop (i + 1) xs)
sum-next f xs i d l = ap (sum_over f) (drop-next xs i d l)

pub sum-same : {X : Type 0} (f g : X → ℕ) (xs : List X) → ((x : X) → f x ≡ g x) → sum_over f xs ≡ sum_over g xs
sum-same f g [] e = refl
sum-same f g (x ∷ xs) e = omega (arith, e x, sum-same f g xs e)

after-count : (t : Topology) (later : List (ℕ × Topology)) (n phase : ℕ) → t.count ≡ n → ((next : ℕ × Topology) → Has next later → next.1.count ≡ n) → (tree_after t later phase).count ≡ n
after-count t [] n phase e all = e
after-count t (next ∷ later) n phase e all = go (nat_le next.0 phase) (after-count next.1 later n phase (all next (inl refl)) (λ x h. all x (inr h)))
  where
    go : (b : Bool) → (tree_after next.1 later phase).count ≡ n → (cond b (tree_after next.1 later phase) t).count ≡ n
    go true ih = ih
    go false ih = e

after-tree : (t : Topology) (later : List (ℕ × Topology)) (phase : ℕ) → tree_after (tree_of t) (map phased_tree later) phase ≡ tree_of (tree_after t later phase)
after-tree t [] phase = refl
after-tree t (next ∷ later) phase = go (nat_le next.0 phase) (after-tree next.1 later phase)
  where
    go : (b : Bool) → tree_after (tree_of next.1) (map phased_tree later) phase ≡ tree_of (tree_after next.1 later phase)
        → cond b (tree_after (tree_of next.1) (map phased_tree later) phase) (tree_of t) ≡ tree_of (cond b (tree_after next.1 later phase) t)
    go true ih = ih
    go false ih = refl

-- and it is that of the run laws
pub tree-is : (net : NetParts) (phase : ℕ) → tree_at real (phased_net net) phase ≡ tree_of (topology_at net phase)
tree-is net phase = after-tree (first_tree net.trees) (later_trees net.trees) phase

module _ (net : NetParts) where
  module _ (i : ℕ) (client : ClientParts) (here : slice_get net.clients i ≡ Some client) where
    pub home-is : home_of net (suc i) ≡ client.home
    home-is = ap (λ o. home_in o) here

    pub script-is : script_of net (suc i) ≡ map phased_command client.script
    script-is = ap (λ o. script_in o) here

    by-client : (from to : ℕ) → flooded_by real (phased_net net) from to (suc i) ≡ client_flood net client from to
    by-client from to =
        ap (λ s. sum_over (λ phase. count (floods_over real (phased_net net) (home_of net (suc i)) from to phase)) (accepted_phases real (net_at real (phased_net net) 0) [] s)) script-is
        ∙ (ap (λ h. sum_over (λ phase. count (floods_over real (phased_net net) h from to phase)) phases) home-is
        ∙ sum-same (λ phase. count (floods_over real (phased_net net) client.home from to phase)) (λ phase. count (is_flooded (topology_at net phase) client.home from to)) phases
        (λ phase. ap (λ (t : Tree). count (is_among to (t.links from) && side t.hop to from client.home)) (tree-is net phase)))
      where
        phases : List ℕ
        phases = accepted_phases real (net_at real (phased_net net) 0) [] (map phased_command client.script)

  by-clients : (from to a : ℕ) (clients : List ClientParts) → ((i : ℕ) (client : ClientParts) → slice_get clients i ≡ Some client → slice_get net.clients (a + i) ≡ Some client)
      → sum_over (flooded_by real (phased_net net) from to) (range_with_len (a + 1) (length clients)) ≡ sum_over (λ client. client_flood net client from to) clients
  by-clients from to a [] at = refl
  by-clients from to a (client ∷ clients) at =
      let first : a + 1 ≡ suc a = omega arith in
      let none : a + 0 ≡ a = omega arith in
      omega (
        arith,
        ap (flooded_by real (phased_net net) from to) first,
        by-client a client (ap (slice_get net.clients) (sym none) ∙ at 0 client refl) from to,
        by-clients from to (a + 1) clients (λ i x e. ap (slice_get net.clients) (shift i) ∙ at (suc i) x e),
      )
    where
      shift : (i : ℕ) → (a + 1) + i ≡ a + suc i
      shift i = omega arith

  -- flooding client by client
  pub flood-is : (from to : ℕ) → flood_on net from to ≡ sum_over (λ client. client_flood net client from to) net.clients
  flood-is from to = by-clients from to 0 net.clients (λ i x e. ap (slice_get net.clients) (none i) ∙ e)
    where
      none : (i : ℕ) → 0 + i ≡ i
      none i = omega arith

  -- each client lives at a server
  pub lives : IsSound net → (i : ℕ) (client : ClientParts) → i < length net.clients → client ≡ get_or net.clients i client → IsAmong (first_tree net.trees).count client.home
  lives sound i client l is = (sound.clients client (at-has net.clients i client l is)).home

  take-all : {X : Type 0} (xs : List X) → take (length xs) xs ≡ xs
  take-all [] = refl
  take-all (x ∷ xs) = ap (λ z. x ∷ z) (take-all xs)

  pub slice-is : {X : Type 0} (xs : List X) (i : ℕ) (x : X) → i < length xs → x ≡ get_or xs i x → slice_get xs i ≡ Some x
  slice-is [] i x l e = absurd (omega (arith, l))
  slice-is (y ∷ xs) zero x l e = ap Some (sym e)
  slice-is (y ∷ xs) (suc i) x l e = slice-is xs i x (omega (arith, l)) e

  -- the refused ordinals of the client at a place
  pub refused-at : (refused : List (List ℕ)) (i : ℕ) (client : ClientParts) (ordinals : List ℕ) → refused ≡ of_clients net (refused_of net) → i < length net.clients
      → client ≡ get_or net.clients i client → ordinals ≡ get_or refused i ordinals
      → ordinals ≡ refused_from real (net_at real (phased_net net) 0) [] 0 (map phased_command client.script)
  refused-at refused i client ordinals e l is at =
      let next : 1 + i ≡ suc i = omega arith in
      at ∙ (ap (λ z. get_or z i ordinals) e ∙ (get_or-map-range_with_len (refused_of net) 1 (length net.clients) i (suc i) ordinals l next
      ∙ (ap (refused_from real (net_at real (phased_net net) 0) [] 0) (take-all (script_of net (suc i))) ∙ ap (refused_from real (net_at real (phased_net net) 0) [] 0) (script-is i client (slice-is net.clients i client l is)))))

  pub refused-long : (refused : List (List ℕ)) → refused ≡ of_clients net (refused_of net) → length refused ≡ length net.clients
  refused-long refused e = ap length e ∙ length-map-range_with_len (refused_of net) 1 (length net.clients)
