-- A lane from which all is taken, and cells that have nothing left to do.
use Rattle.std.proofs.Common.{◌≡◌, ℕ, zero, suc, ◌<◌, ◌≤◌, false, Bool, List, [], ◌∷◌, ◌++◌, length, map, get_or, set, Some, slice_get, inl, refl, sym, ap, subst, ◌∙◌, arith, ne_eqb, eq-eqb}
use Rattle.std.specs.Prelude.{Result, Ok, Err, IfOk}
use Rattle.std.proofs.lemmas.List.{length-map}
use Rattle.std.proofs.lemmas.Option.{same_Some}
use Rattle.base.specs.Sets.{Has}
use Rattle.base.specs.Numbers.{IsDistinct}
use Rattle.law_machine.proofs.Lists.{append-nothing}
use Rattle.thread_lane.specs.Lane.{put_list, taken_list, rest_list}
use Rattle.server_core.specs.declared.stepped.StepFault.{StepFault}
use Rattle.thread_cell.specs.declared.held.Root.{Root}
use Rattle.thread_cell.specs.declared.link.Link.{Link}
use Rattle.thread_cell.specs.Links.{Both, At, IsOneLane, IsSettledLane, IsNeighbour, IsSameLink}
use Rattle.thread_cell.specs.LaneReceiving.{HasMissed}
use Rattle.thread_cell.specs.LaneMessages.{put_for, taken_from, represented_put, represented_received}
use Rattle.net_model.specs.Parts.{NetParts}
use Rattle.thread_cell.specs.Heard.{heard_stamped}
use Rattle.thread_cell.specs.Cell.{CellParts}
use Rattle.thread_cell.specs.Together.{Sight, IsLaneOf, IsTakenUp, IsCellDone, HasNoCommand, IsWornSomewhere, sight, sights, cell_roots, root_links}
use Rattle.server_core.specs.Step.{last_stamp}
use Rattle.thread_cell.proofs.Places.{found, set-found, both-before, both-behind, found-name, below-found}
use Rattle.thread_cell.proofs.Splits.{map-set}
use Rattle.thread_cell.proofs.HandAll.{names}
use Rattle.thread_cell.proofs.Turning.{some-apart}
use Rattle.thread_cell.proofs.Keeping.{some-server}
use Rattle.thread_cell.proofs.Gathered.{IsKeptCell, found-map, map-found, one-suc}

pub found-put : (net : NetParts) (n : ℕ) (xs : List Link) (x : Link) → slice_get xs n ≡ Some x → IsDistinct (names xs) → put_for net xs x.neighbour ≡ represented_put net x
found-put net n [] x e d = absurd cc
found-put net zero (y ∷ xs) x e d = let q : y ≡ x = same_Some y x e in rw (eq-eqb y.neighbour x.neighbour (ap (λ (w : Link). w.neighbour) q)) (ap (λ (w : Link). represented_put net w) q)
found-put net (suc n) (y ∷ xs) x e d = rw (ne_eqb y.neighbour x.neighbour (λ q. d.0 (subst (λ k. Has k (names xs)) (sym q) (found-name n xs x e)))) (found-put net n xs x e d.1)

pub found-taken : (net : NetParts) (n : ℕ) (xs : List Link) (x : Link) → slice_get xs n ≡ Some x → IsDistinct (names xs) → taken_from net xs x.neighbour ≡ represented_received net x
found-taken net n [] x e d = absurd cc
found-taken net zero (y ∷ xs) x e d = let q : y ≡ x = same_Some y x e in rw (eq-eqb y.neighbour x.neighbour (ap (λ (w : Link). w.neighbour) q)) (ap (λ (w : Link). represented_received net w) q)
found-taken net (suc n) (y ∷ xs) x e d = rw (ne_eqb y.neighbour x.neighbour (λ q. d.0 (subst (λ k. Has k (names xs)) (sym q) (found-name n xs x e)))) (found-taken net n xs x e d.1)

-- a cell's neighbours differ
pub distinct-kept : (cell : CellParts) → IsKeptCell cell → IsDistinct (names cell.held.links.items)
distinct-kept cell k = subst IsDistinct (sym k.now.neighbours) (some-apart cell.held.core (some-server cell.root.net.value cell.root cell.journal cell.held k))

-- after it was settled, a look that finds nothing tells that all is taken
pub emptied : (a b : CellParts) (later : List Link) (to from u : ℕ) → a.root.net.value ≡ b.root.net.value → IsKeptCell a → IsKeptCell b → At IsSettledLane to a.held.links.items from b.held.links.items
    → Both IsSameLink b.held.links.items later → HasMissed from b.held.links.items later → IsNeighbour to b.root.server (root_links a.root) → IsNeighbour from u (root_links b.root) → (sight b).took u ≡ (sight a).put b.root.server
emptied a b later to from u one ka kb (x, y, ex, ey, s) same missed gives takes =
    let z = both-behind IsSameLink from b.held.links.items later y same ey in
    let nothing : rest_list y.leave ≡ [] = (missed y z.0 ey z.1).rest in
    let all : taken_list y.leave ≡ put_list x.enter = sym (append-nothing (taken_list y.leave)) ∙ ap (λ l. taken_list y.leave ++ l) (sym nothing) ∙ s.all in
    let x0 = both-before IsSameLink to (root_links a.root) a.held.links.items x ka.links ex in
    let y0 = both-before IsSameLink from (root_links b.root) b.held.links.items y kb.links ey in
    let nx : x.neighbour ≡ b.root.server = x0.2.neighbour ∙ ap (λ (w : Link). w.neighbour) (same_Some x0.0 gives.0 (sym x0.1 ∙ gives.1)) ∙ gives.2 in
    let ny : y.neighbour ≡ u = y0.2.neighbour ∙ ap (λ (w : Link). w.neighbour) (same_Some y0.0 takes.0 (sym y0.1 ∙ takes.1)) ∙ takes.2 in
    let net = b.root.net.value in
    ap (λ n. taken_from net b.held.links.items n) (sym ny) ∙ found-taken net from b.held.links.items y ey (distinct-kept b kb) ∙ ap (map (heard_stamped net)) all ∙ ap (λ n. represented_put n x) (sym one)
    ∙ sym (found-put a.root.net.value to a.held.links.items x ex (distinct-kept a ka)) ∙ ap (λ n. put_for a.root.net.value a.held.links.items n) nx

pub taken-up : (cells : List CellParts) (a b : CellParts) (later : List Link) (giver to taker from : ℕ) → slice_get cells giver ≡ Some a → slice_get cells taker ≡ Some b → a.root.net.value ≡ b.root.net.value → IsKeptCell a → IsKeptCell b
    → At IsSettledLane to a.held.links.items from b.held.links.items → Both IsSameLink b.held.links.items later → HasMissed from b.held.links.items later → IsNeighbour to b.root.server (root_links a.root) → IsNeighbour from (suc giver) (root_links b.root) → IsTakenUp (sights cells) taker from
taken-up cells a b later giver to taker from at-a at-b one ka kb settled same missed gives takes s t y i es ey et name =
    let sb : s ≡ sight b = same_Some s (sight b) (sym es ∙ map-found sight taker cells b at-b) in
    let yn : y ≡ takes.0 = same_Some y takes.0 (sym ey ∙ ap (λ (w : Sight). slice_get (root_links w.root) from) sb ∙ takes.1) in
    let ny : y.neighbour ≡ suc giver = ap (λ (w : Link). w.neighbour) yn ∙ takes.2 in
    let ig : i ≡ giver = one-suc i giver (sym name ∙ ny) in
    let ta : t ≡ sight a = same_Some t (sight a) (sym et ∙ ap (λ n. slice_get (sights cells) n) ig ∙ map-found sight giver cells a at-a) in
    ap (λ (w : Sight). w.took y.neighbour) sb ∙ ap (λ n. (sight b).took n) ny ∙ emptied a b later to from (suc giver) one ka kb settled same missed gives takes ∙ ap (λ n. (sight a).put n) (ap (λ (w : Sight). w.root.server) (sym sb)) ∙ ap (λ (w : Sight). w.put s.root.server) (sym ta)

pub roots-seen : (cells : List CellParts) → map (λ (s : Sight). s.root) (sights cells) ≡ cell_roots cells
roots-seen [] = refl
roots-seen (h ∷ cells) = ap (λ l. h.root ∷ l) (roots-seen cells)

pub same-roots : (xs ys : List CellParts) → sights xs ≡ sights ys → cell_roots xs ≡ cell_roots ys
same-roots xs ys e = sym (roots-seen xs) ∙ ap (λ l. map (λ (s : Sight). s.root) l) e ∙ roots-seen ys

pub same-count : (xs ys : List CellParts) → sights xs ≡ sights ys → length xs ≡ length ys
same-count xs ys e = sym (length-map xs sight) ∙ ap length e ∙ length-map ys sight

pub same-links : (xs ys : List Link) → Both IsSameLink xs ys → length xs ≡ length ys
same-links [] [] b = refl
same-links [] (y ∷ ys) b = absurd b
same-links (x ∷ xs) [] b = absurd b
same-links (x ∷ xs) (y ∷ ys) b = ap suc (same-links xs ys b.1)

-- a place among the neighbours stays one
pub place-now : (cell : CellParts) (from u : ℕ) → IsKeptCell cell → IsNeighbour from u (root_links cell.root) → from < length cell.held.links.items
place-now cell from u k n = let y = both-behind IsSameLink from (root_links cell.root) cell.held.links.items n.0 k.links n.1 in below-found from cell.held.links.items y.0 y.1

-- a reception that found nothing
abbrev pub IsTakeIdle : CellParts → CellParts → ℕ → Result Bool StepFault → Type 0
IsTakeIdle old new place r = IfOk r (λ made. made ≡ false → (sight new ≡ sight old) × Both IsSameLink old.held.links.items new.held.links.items × HasMissed place old.held.links.items new.held.links.items)

module _ (old mid : List CellParts) (giver to taker from : ℕ) (lane : IsLaneOf old giver to taker from) (seen : sights mid ≡ sights old) where
  -- what a cell had as the phase began is the same after the settling
  before : (k : ℕ) (b : CellParts) → slice_get mid k ≡ Some b → (a : CellParts) × (slice_get old k ≡ Some a) × (a.root ≡ b.root)
  before k b e =
      let f = found-map sight k old (sight b) (ap (λ l. slice_get l k) (sym seen) ∙ map-found sight k mid b e) in
      (f.0, f.1, ap (λ (s : Sight). s.root) f.2)

  pub takes-now : (b : CellParts) → slice_get mid taker ≡ Some b → IsNeighbour from (suc giver) (root_links b.root)
  takes-now b e = let a = before taker b e in subst (λ (r : Root). IsNeighbour from (suc giver) (root_links r)) a.2 (lane.takes a.0 a.1)

  gives-now : (a b : CellParts) → slice_get mid giver ≡ Some a → slice_get mid taker ≡ Some b → IsNeighbour to b.root.server (root_links a.root)
  gives-now a b p q =
      let a' = before giver a p in
      let b' = before taker b q in
      subst (λ (r : Root). IsNeighbour to r.server (root_links a.root)) b'.2 (subst (λ (r : Root). IsNeighbour to b'.0.root.server (root_links r)) a'.2 (lane.gives a'.0 b'.0 a'.1 b'.1))

  nets-now : (a b : CellParts) → slice_get mid giver ≡ Some a → slice_get mid taker ≡ Some b → a.root.net.value ≡ b.root.net.value
  nets-now a b p q =
      let a' = before giver a p in
      let b' = before taker b q in
      ap (λ (r : Root). r.net.value) (sym a'.2) ∙ lane.nets a'.0 b'.0 a'.1 b'.1 ∙ ap (λ (r : Root). r.net.value) b'.2

  pub take-idle : (x y d z : CellParts) (r : Result Bool StepFault) → taker < length mid → slice_get mid giver ≡ Some x → slice_get mid taker ≡ Some y → IsKeptCell x → IsKeptCell y
      → (a b : CellParts) × (slice_get mid giver ≡ Some a) × (slice_get mid taker ≡ Some b) × At IsSettledLane to a.held.links.items from b.held.links.items
      → IsTakeIdle (get_or mid taker d) z from r
      → IfOk r (λ made. made ≡ false → (sights (set mid taker z) ≡ sights old) × IsTakenUp (sights (set mid taker z)) taker from)
  take-idle x y d z (Err e) lt ex ey kx ky s t = tt
  take-idle x y d z (Ok made) lt ex ey kx ky (a, b', ea, eb, settled) idle = λ q.
      let t = idle q in
      let yd : get_or mid taker d ≡ y = same_Some (get_or mid taker d) y (sym (found mid taker d lt) ∙ ey) in
      let by : b' ≡ y = same_Some b' y (sym eb ∙ ey) in
      let ax : a ≡ x = same_Some a x (sym ea ∙ ex) in
      let still : sights (set mid taker z) ≡ sights mid = map-set sight mid taker d z lt t.0 in
      let settled' : At IsSettledLane to x.held.links.items from y.held.links.items = subst (λ (w : CellParts). At IsSettledLane to w.held.links.items from y.held.links.items) ax (subst (λ (w : CellParts). At IsSettledLane to a.held.links.items from w.held.links.items) by settled) in
      let up = taken-up mid x y z.held.links.items giver to taker from ex ey (nets-now x y ex ey) kx ky settled' (subst (λ (w : CellParts). Both IsSameLink w.held.links.items z.held.links.items) yd t.1) (subst (λ (w : CellParts). HasMissed from w.held.links.items z.held.links.items) yd t.2) (gives-now x y ex ey) (takes-now y ey) in
      (still ∙ seen, subst (λ l. IsTakenUp l taker from) (sym still) up)

-- the neighbours are as many as in the phase's beginning
pub as-many-links : (cells : List CellParts) (k : ℕ) (h : CellParts) → slice_get cells k ≡ Some h → IsKeptCell h → (b : Root) → slice_get (cell_roots cells) k ≡ Some b → length (root_links b) ≡ length h.held.links.items
as-many-links cells k h at kept b e = ap (λ (r : Root). length (root_links r)) (same_Some b h.root (sym e ∙ map-found (λ (w : CellParts). w.root) k cells h at)) ∙ same-links (root_links h.root) h.held.links.items kept.links

-- all places of the neighbours were tried
pub all-tried : (cells : List CellParts) (k n : ℕ) → ((b : Root) → slice_get (cell_roots cells) k ≡ Some b → length (root_links b) ≤ n) → ((p : ℕ) → p < n → IsTakenUp (sights cells) k p) → (p : ℕ) → IsTakenUp (sights cells) k p
all-tried cells k n few tried p s t y i es ey et name =
    let f = found-map sight k cells s es in
    let root : slice_get (cell_roots cells) k ≡ Some s.root = map-found (λ (w : CellParts). w.root) k cells f.0 f.1 ∙ ap (λ (w : Sight). Some w.root) f.2 in
    let le : length (root_links s.root) ≤ n = few s.root root in
    let lt : p < length (root_links s.root) = below-found p (root_links s.root) y ey in
    tried p (omega (arith, le, lt)) s t y i es ey et name

pub cell-done : (old mid : List CellParts) (k : ℕ) (d z : CellParts) → k < length mid → sights mid ≡ sights old → ((p : ℕ) → IsTakenUp (sights mid) k p) → sight z ≡ sight (get_or mid k d) → z.held.core.pending ≡ [] → HasNoCommand z.held.core z.root.phase
    → (sights (set mid k z) ≡ sights old) × IsCellDone (sights (set mid k z)) k
cell-done old mid k d z lt seen taken same calm through =
    let still : sights (set mid k z) ≡ sights mid = map-set sight mid k d z lt same in
    let this : (s : Sight) → slice_get (sights (set mid k z)) k ≡ Some s → sight z ≡ s = λ s e. same_Some (sight z) s (sym (map-found sight k (set mid k z) z (set-found mid k z lt)) ∙ e) in (
      still ∙ seen,
      record {
        taken = λ p. subst (λ l. IsTakenUp l k p) (sym still) (taken p);
        calm = λ s e. subst (λ (w : Sight). w.core.pending ≡ []) (this s e) calm;
        through = λ s e. subst (λ (w : Sight). HasNoCommand w.core w.root.phase) (this s e) through;
      },
    )

pub roots-count : (xs ys : List CellParts) → cell_roots xs ≡ cell_roots ys → length xs ≡ length ys
roots-count xs ys e = sym (length-map xs (λ (h : CellParts). h.root)) ∙ ap length e ∙ length-map ys (λ (h : CellParts). h.root)

-- one cell's clock is the last stamp
pub worn-here : (cells : List CellParts) (k stamp : ℕ) (new : CellParts) → k < length cells → (stamp ≡ last_stamp) × (new.held.core.clock ≡ last_stamp) → IsWornSomewhere stamp (sights (set cells k new))
worn-here cells k stamp new lt w = (w.0, (k, sight new, map-found sight k (set cells k new) new (set-found cells k new lt), inl w.1))

-- lanes are named by roots
pub lane-by-roots : (old new : List CellParts) (giver to taker from : ℕ) → cell_roots new ≡ cell_roots old
    → ((a b : CellParts) → slice_get old giver ≡ Some a → slice_get old taker ≡ Some b → At IsOneLane to (root_links a.root) from (root_links b.root))
    → (a b : CellParts) → slice_get new giver ≡ Some a → slice_get new taker ≡ Some b → At IsOneLane to (root_links a.root) from (root_links b.root)
lane-by-roots old new giver to taker from same lane a b ea eb =
    let f = found-map (λ (h : CellParts). h.root) giver old a.root (ap (λ l. slice_get l giver) (sym same) ∙ map-found (λ (h : CellParts). h.root) giver new a ea) in
    let g = found-map (λ (h : CellParts). h.root) taker old b.root (ap (λ l. slice_get l taker) (sym same) ∙ map-found (λ (h : CellParts). h.root) taker new b eb) in
    subst (λ (r : Root). At IsOneLane to (root_links r) from (root_links b.root)) f.2 (subst (λ (r : Root). At IsOneLane to (root_links f.0.root) from (root_links r)) g.2 (lane f.0 g.0 f.1 g.1))
