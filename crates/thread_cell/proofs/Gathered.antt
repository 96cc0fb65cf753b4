-- Proves at which cell each end of a lane is, where all cells are together.
use Rattle.std.proofs.Common.{◌≡◌, ◌⊎◌, inl, inr, ℕ, zero, suc, ◌-◌, ◌<◌, ◌≤◌, List, [], ◌∷◌, length, map, Some, None, slice_get, refl, sym, ap, subst, ◌∙◌, arith}
use Rattle.std.proofs.lemmas.List.{length-map}
use Rattle.std.proofs.lemmas.Option.{same_Some}
use Rattle.base.specs.Sets.{Has}
use Rattle.base_tree.proofs.Servers.{server-in}
use Rattle.law_routing.specs.Net.{Net, NetLaws}
use Rattle.law_phases.specs.Trees.{net_at}
use Rattle.net_model.specs.Real.{real}
use Rattle.net_model.specs.Parts.{NetParts}
use Rattle.net_model.specs.Nets.{phased_net, first_tree}
use Rattle.net_model.specs.Sound.{IsSound}
use Rattle.thread_cell.specs.declared.link.Link.{Link}
use Rattle.thread_cell.specs.Links.{At, IsOneLane, IsNeighbour, IsSameLink}
use Rattle.thread_cell.specs.Cell.{CellParts, IsKept}
use Rattle.thread_cell.specs.Together.{AreTogether, IsLaneOf, cell_roots, root_links}
use Rattle.thread_cell.proofs.HandAll.{names}
use Rattle.thread_cell.proofs.Places.{both-before, found-name}
use Rattle.net_model.proofs.TreesByPhase.{laws_at}
use Rattle.thread_cell.proofs.Keeping.{replayed}

module _ {X Y : Type 0} (f : X → Y) where
  pub map-found : (n : ℕ) (xs : List X) (x : X) → slice_get xs n ≡ Some x → slice_get (map f xs) n ≡ Some (f x)
  map-found n [] x e = absurd cc
  map-found zero (y ∷ xs) x e = ap (λ z. Some (f z)) (same_Some y x e)
  map-found (suc n) (y ∷ xs) x e = map-found n xs x e

  pub found-map : (n : ℕ) (xs : List X) (y : Y) → slice_get (map f xs) n ≡ Some y → (x : X) × (slice_get xs n ≡ Some x) × (f x ≡ y)
  found-map n [] y e = absurd cc
  found-map zero (x ∷ xs) y e = (x, refl, same_Some (f x) y e)
  found-map (suc n) (x ∷ xs) y e = found-map n xs y e

pub one-suc : (a b : ℕ) → suc a ≡ suc b → a ≡ b
one-suc a b e = omega arith

pub there-or-not : {X : Type 0} (xs : List X) (k : ℕ) → ((x : X) × (slice_get xs k ≡ Some x)) ⊎ (slice_get xs k ≡ None)
there-or-not [] k = inr refl
there-or-not (x ∷ xs) zero = inl (x, refl)
there-or-not (x ∷ xs) (suc k) = there-or-not xs k

-- a name is that of a place
pub named-place : (xs : List Link) (u : ℕ) → Has u (names xs) → (p : ℕ) × IsNeighbour p u xs
named-place [] u h = absurd h
named-place (x ∷ xs) u (inl e) = (0, (x, refl, sym e))
named-place (x ∷ xs) u (inr h) = let r = named-place xs u h in (suc r.0, r.1)

abbrev pub IsKeptCell : CellParts → Type 0
IsKeptCell cell = IsKept cell.root.net.value cell.root cell.journal cell.held

-- the neighbours of a cell are those of its server in the net of its phase
pub names-kept : (cell : CellParts) → IsKeptCell cell → names cell.held.links.items ≡ (net_at real (phased_net cell.root.net.value) cell.root.phase).links cell.root.server
names-kept cell kept =
    let r = replayed cell.root.net.value cell.root cell.journal cell.held kept in
    kept.now.neighbours ∙ sym r.stands.state.control.links ∙ ap (net_at real (phased_net cell.root.net.value) cell.root.phase).links kept.number

-- a neighbour now was one as the phase began
pub neighbour-then : (cell : CellParts) (p u : ℕ) → IsKeptCell cell → IsNeighbour p u cell.held.links.items → IsNeighbour p u (root_links cell.root)
neighbour-then cell p u k (y, e, q) = let x = both-before IsSameLink p (root_links cell.root) cell.held.links.items y k.links e in (x.0, x.1, sym x.2.neighbour ∙ q)

module _ (net : NetParts) (phase : ℕ) (cells : List CellParts) (together : AreTogether net phase (cell_roots cells)) where
  pub root-at : (k : ℕ) (cell : CellParts) → slice_get cells k ≡ Some cell → slice_get (cell_roots cells) k ≡ Some cell.root
  root-at k cell e = map-found (λ (c : CellParts). c.root) k cells cell e

  pub number-at : (k : ℕ) (cell : CellParts) → slice_get cells k ≡ Some cell → cell.root.server ≡ suc k
  number-at k cell e = together.numbers k cell.root (root-at k cell e)

  pub count-cells : length cells ≡ (first_tree net.trees).count
  count-cells = sym (length-map cells (λ (c : CellParts). c.root)) ∙ together.all

  abbrev here : Net real
  here = net_at real (phased_net net) phase

  -- the neighbours of the cell at a place
  pub names-at : (k : ℕ) (cell : CellParts) → slice_get cells k ≡ Some cell → IsKeptCell cell → names cell.held.links.items ≡ here.links (suc k)
  names-at k cell e kept =
      names-kept cell kept
      ∙ ap (λ n. (net_at real (phased_net n) cell.root.phase).links cell.root.server) (together.nets k cell.root (root-at k cell e))
      ∙ ap (λ p. (net_at real (phased_net net) p).links cell.root.server) (together.phases k cell.root (root-at k cell e))
      ∙ ap here.links (number-at k cell e)

  pub sound-by : (k : ℕ) (cell : CellParts) → slice_get cells k ≡ Some cell → IsKeptCell cell → IsSound net
  sound-by k cell e kept = subst IsSound (together.nets k cell.root (root-at k cell e)) kept.sound

  module _ (k p u : ℕ) (mine : CellParts) (at : slice_get cells k ≡ Some mine) (kept : IsKeptCell mine) (named : IsNeighbour p u mine.held.links.items) where
    laws : NetLaws real here
    laws = laws_at net (sound-by k mine at kept) phase

    linked : Has u (here.links (suc k))
    linked = subst (Has u) (names-at k mine at kept) (subst (λ n. Has n (names mine.held.links.items)) named.2 (found-name p mine.held.links.items named.0 named.1))

    ranged : (1 ≤ u) × (u ≤ (first_tree net.trees).count)
    ranged = server-in (first_tree net.trees).count u (laws.tree.linked u (suc k) (laws.tree.both (suc k) u linked))

    -- its number is at least 1, and its cell is among these, and another one
    pub numbered : 1 ≤ u
    numbered = ranged.0

    pub among : u - 1 < length cells
    among = let r = ranged in let c = count-cells in omega (arith, r.0, r.1, c)

    up : u ≡ suc (u - 1)
    up = let r = ranged in omega (arith, r.0)

    apart : u - 1 ≡ k → ⊥
    apart e = laws.tree.apart (suc k) (subst (λ n. Has n (here.links (suc k))) (up ∙ ap suc e) linked)

    module _ (theirs : CellParts) (there : slice_get cells (u - 1) ≡ Some theirs) (keeps : IsKeptCell theirs) where
      -- the server has a place there
      pub back : (q : ℕ) × IsNeighbour q mine.root.server theirs.held.links.items
      back = named-place theirs.held.links.items mine.root.server
          (subst (Has mine.root.server) (sym (names-at (u - 1) theirs there keeps))
          (subst (λ n. Has mine.root.server (here.links n)) up (subst (λ n. Has n (here.links u)) (sym (number-at k mine at)) (laws.tree.both (suc k) u linked))))

      pub has-place : ((q : ℕ) → IsNeighbour q mine.root.server theirs.held.links.items → ⊥) → ⊥
      has-place n = let b = back in n b.0 b.1

      pub lane-of : (to : ℕ) → IsNeighbour to mine.root.server theirs.held.links.items → IsLaneOf cells (u - 1) to k p
      lane-of to named-there =
          let x = neighbour-then theirs to mine.root.server keeps named-there in
          let y = neighbour-then mine p u kept named in
          let one : At IsOneLane to (root_links theirs.root) p (root_links mine.root) = (
            x.0,
            y.0,
            x.1,
            y.1,
            together.lanes (u - 1) k to p (root_links theirs.root) (root_links mine.root) x.0 y.0 (map-found root_links (u - 1) (cell_roots cells) theirs.root (root-at (u - 1) theirs there)) (map-found root_links k (cell_roots cells) mine.root (root-at k mine at))
                x.1 y.1 (x.2 ∙ number-at k mine at) (y.2 ∙ up),
          ) in
          record {
            within = among;
            nets = λ a b e q. together.nets (u - 1) a.root (root-at (u - 1) a e) ∙ sym (together.nets k b.root (root-at k b q));
            apart = apart;
            lane = λ a b e q. subst (λ (a : CellParts). At IsOneLane to (root_links a.root) p (root_links b.root)) (same_Some theirs a (sym there ∙ e)) (subst (λ (b : CellParts). At IsOneLane to (root_links theirs.root) p (root_links b.root)) (same_Some mine b (sym at ∙ q)) one);
            gives = λ a b e q. subst (λ (a : CellParts). IsNeighbour to b.root.server (root_links a.root)) (same_Some theirs a (sym there ∙ e)) (subst (λ (b : CellParts). IsNeighbour to b.root.server (root_links theirs.root)) (same_Some mine b (sym at ∙ q)) x);
            takes = λ b q. subst (λ (b : CellParts). IsNeighbour p (suc (u - 1)) (root_links b.root)) (same_Some mine b (sym at ∙ q)) (subst (λ n. IsNeighbour p n (root_links mine.root)) up y);
          }
