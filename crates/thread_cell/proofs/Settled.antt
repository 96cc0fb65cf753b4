-- What was taken of settled lanes is the beginning of what was put.
use Rattle.std.proofs.Common.{◌≡◌, ℕ, suc, ◌<◌, ◌≤◌, List, ◌++◌, length, map, Some, slice_get, sym, ap, subst, ◌∙◌, arith}
use Rattle.std.proofs.lemmas.List.{map-append}
use Rattle.std.proofs.lemmas.Option.{same_Some}
use Rattle.law_machine.specs.Journals.{IsPrefix}
use Rattle.thread_lane.specs.Lane.{taken_list, rest_list}
use Rattle.thread_cell.specs.Heard.{heard_stamped}
use Rattle.thread_cell.specs.declared.held.Root.{Root}
use Rattle.thread_cell.specs.declared.link.Link.{Link}
use Rattle.thread_cell.specs.Links.{At, IsSettledLane, IsNeighbour, IsSameLink}
use Rattle.thread_cell.specs.LaneMessages.{put_for, taken_from, represented_put, represented_received}
use Rattle.thread_cell.specs.Cell.{CellParts}
use Rattle.thread_cell.specs.Together.{Sight, IsLaneOf, sight, sights, cell_roots, root_links}
use Rattle.thread_cell.specs.InHand.{IsReceivedInOrder}
use Rattle.thread_cell.proofs.Places.{both-before, below-found}
use Rattle.thread_cell.proofs.Gathered.{IsKeptCell, found-map, map-found, one-suc}
use Rattle.thread_cell.proofs.Emptied.{found-put, found-taken, distinct-kept, takes-now}

-- after it was settled, what is taken is the beginning of what was put
begins : (a b : CellParts) (to from u : ℕ) → a.root.net.value ≡ b.root.net.value → IsKeptCell a → IsKeptCell b → At IsSettledLane to a.held.links.items from b.held.links.items → IsNeighbour to b.root.server (root_links a.root) → IsNeighbour from u (root_links b.root) → IsPrefix ((sight b).took u) ((sight a).put b.root.server)
begins a b to from u one ka kb (x, y, ex, ey, s) gives takes =
    let x0 = both-before IsSameLink to (root_links a.root) a.held.links.items x ka.links ex in
    let y0 = both-before IsSameLink from (root_links b.root) b.held.links.items y kb.links ey in
    let nx : x.neighbour ≡ b.root.server = x0.2.neighbour ∙ ap (λ (w : Link). w.neighbour) (same_Some x0.0 gives.0 (sym x0.1 ∙ gives.1)) ∙ gives.2 in
    let ny : y.neighbour ≡ u = y0.2.neighbour ∙ ap (λ (w : Link). w.neighbour) (same_Some y0.0 takes.0 (sym y0.1 ∙ takes.1)) ∙ takes.2 in
    let net = b.root.net.value in
    let took : taken_from net b.held.links.items u ≡ represented_received net y = ap (λ n. taken_from net b.held.links.items n) (sym ny) ∙ found-taken net from b.held.links.items y ey (distinct-kept b kb) in
    let put : represented_put net x ≡ put_for a.root.net.value a.held.links.items b.root.server = ap (λ n. represented_put n x) (sym one) ∙ sym (found-put a.root.net.value to a.held.links.items x ex (distinct-kept a ka)) ∙ ap (λ n. put_for a.root.net.value a.held.links.items n) nx in
    (map (heard_stamped net) (rest_list y.leave), ap (λ l. l ++ map (heard_stamped net) (rest_list y.leave)) took ∙ sym (map-append (heard_stamped net) (taken_list y.leave) (rest_list y.leave)) ∙ ap (map (heard_stamped net)) s.all ∙ put)

taken-in-order : (cells : List CellParts) (a b : CellParts) (giver to taker from : ℕ) → slice_get cells giver ≡ Some a → slice_get cells taker ≡ Some b → a.root.net.value ≡ b.root.net.value → IsKeptCell a → IsKeptCell b
    → At IsSettledLane to a.held.links.items from b.held.links.items → IsNeighbour to b.root.server (root_links a.root) → IsNeighbour from (suc giver) (root_links b.root) → IsReceivedInOrder (sights cells) taker from
taken-in-order cells a b giver to taker from at-a at-b one ka kb settled gives takes s t y i es ey et name =
    let sb : s ≡ sight b = same_Some s (sight b) (sym es ∙ map-found sight taker cells b at-b) in
    let yn : y ≡ takes.0 = same_Some y takes.0 (sym ey ∙ ap (λ (w : Sight). slice_get (root_links w.root) from) sb ∙ takes.1) in
    let ny : y.neighbour ≡ suc giver = ap (λ (w : Link). w.neighbour) yn ∙ takes.2 in
    let ig : i ≡ giver = one-suc i giver (sym name ∙ ny) in
    let ta : t ≡ sight a = same_Some t (sight a) (sym et ∙ ap (λ n. slice_get (sights cells) n) ig ∙ map-found sight giver cells a at-a) in
    subst (λ (w : Sight). IsPrefix (w.took y.neighbour) (t.put w.root.server)) (sym sb)
    (subst (λ n. IsPrefix ((sight b).took n) (t.put b.root.server)) (sym ny) (subst (λ (w : Sight). IsPrefix ((sight b).took (suc giver)) (w.put b.root.server)) (sym ta) (begins a b to from (suc giver) one ka kb settled gives takes)))

module _ (old mid : List CellParts) (giver to taker from : ℕ) (lane : IsLaneOf old giver to taker from) (seen : sights mid ≡ sights old) where
  -- what a cell had as the phase began is the same after the settling
  before : (k : ℕ) (b : CellParts) → slice_get mid k ≡ Some b → (a : CellParts) × (slice_get old k ≡ Some a) × (a.root ≡ b.root)
  before k b e =
      let f = found-map sight k old (sight b) (ap (λ l. slice_get l k) (sym seen) ∙ map-found sight k mid b e) in
      (f.0, f.1, ap (λ (s : Sight). s.root) f.2)

  gives-now : (a b : CellParts) → slice_get mid giver ≡ Some a → slice_get mid taker ≡ Some b → IsNeighbour to b.root.server (root_links a.root)
  gives-now a b p q =
      let a' = before giver a p in
      let b' = before taker b q in
      subst (λ (r : Root). IsNeighbour to r.server (root_links a.root)) b'.2 (subst (λ (r : Root). IsNeighbour to b'.0.root.server (root_links r)) a'.2 (lane.gives a'.0 b'.0 a'.1 b'.1))

  nets-now : (a b : CellParts) → slice_get mid giver ≡ Some a → slice_get mid taker ≡ Some b → a.root.net.value ≡ b.root.net.value
  nets-now a b p q =
      let a' = before giver a p in
      let b' = before taker b q in
      ap (λ (r : Root). r.net.value) (sym a'.2) ∙ lane.nets a'.0 b'.0 a'.1 b'.1 ∙ ap (λ (r : Root). r.net.value) b'.2

  -- what is taken after the settling is the beginning of what was put
  pub settle-order : (x y : CellParts) → slice_get mid giver ≡ Some x → slice_get mid taker ≡ Some y → IsKeptCell x → IsKeptCell y
      → (a b : CellParts) × (slice_get mid giver ≡ Some a) × (slice_get mid taker ≡ Some b) × At IsSettledLane to a.held.links.items from b.held.links.items → IsReceivedInOrder (sights mid) taker from
  settle-order x y ex ey kx ky (a, b, ea, eb, settled) =
      let by : b ≡ y = same_Some b y (sym eb ∙ ey) in
      let ax : a ≡ x = same_Some a x (sym ea ∙ ex) in
      let settled' : At IsSettledLane to x.held.links.items from y.held.links.items = subst (λ (w : CellParts). At IsSettledLane to w.held.links.items from y.held.links.items) ax (subst (λ (w : CellParts). At IsSettledLane to a.held.links.items from w.held.links.items) by settled) in
      taken-in-order mid x y giver to taker from ex ey (nets-now x y ex ey) kx ky settled' (gives-now x y ex ey) (takes-now old mid giver to taker from lane seen y ey)

-- so many places were settled
pub all-settled : (cells : List CellParts) (k n : ℕ) → ((b : Root) → slice_get (cell_roots cells) k ≡ Some b → length (root_links b) ≤ n) → ((p : ℕ) → p < n → IsReceivedInOrder (sights cells) k p) → (p : ℕ) → IsReceivedInOrder (sights cells) k p
all-settled cells k n few tried p s t y i es ey et name =
    let f = found-map sight k cells s es in
    let root : slice_get (cell_roots cells) k ≡ Some s.root = map-found (λ (w : CellParts). w.root) k cells f.0 f.1 ∙ ap (λ (w : Sight). Some w.root) f.2 in
    let le : length (root_links s.root) ≤ n = few s.root root in
    let lt : p < length (root_links s.root) = below-found p (root_links s.root) y ey in
    tried p (omega (arith, le, lt)) s t y i es ey et name
