-- Where an item that comes next has the last stamp, the cell that put it has it.
use Rattle.std.proofs.Common.{◌≡◌, ◌⊎◌, inl, inr, ℕ, List, [], ◌∷◌, max, Some, slice_get, refl, sym, ap, subst, ◌∙◌, arith}
use Rattle.std.proofs.lemmas.Option.{same_Some}
use mathlib.Core.List.{IsPrefix}
use Rattle.base.specs.Sets.{Has}
use Rattle.thread_lane.specs.Lane.{put_list, taken_list, rest_list, coming_list}
use Rattle.server_message.specs.declared.stamped.StampedLoad.{StampedLoad}
use Rattle.thread_cell.specs.Heard.{heard_stamped}
use Rattle.server_core.specs.Step.{last_stamp}
use Rattle.thread_cell.specs.declared.link.Link.{Link}
use Rattle.thread_cell.specs.Links.{At, IsSettledLane}
use Rattle.thread_cell.specs.LaneReceiving.{IsNextAt}
use Rattle.thread_cell.specs.Cell.{CellParts}
use Rattle.thread_cell.specs.Turns.{IsWornAt}
use Rattle.thread_cell.specs.Together.{IsWornSomewhere, sight, sights}
use Rattle.thread_cell.proofs.Gathered.{IsKeptCell, map-found}
use Rattle.thread_cell.proofs.Emptied.{found-put, distinct-kept}
use Rattle.base.proofs.Sets.{has-append-right, map-has}

one-of : (a b n : ℕ) → max a b ≡ n → (a ≡ n) ⊎ (b ≡ n)
one-of a b n e = grind arith

has-first : {T : Type 0} (x : T) (xs : List T) → IsPrefix (x ∷ []) xs → Has x xs
has-first x xs p = subst (λ l. Has x l) p.1 (inl refl)

-- what comes next at a settled end was put at the other
put-next : (x y : Link) (item : StampedLoad) → IsSettledLane x y → IsPrefix (item ∷ []) (coming_list y.leave) → Has item (put_list x.enter)
put-next x y item s p = subst (λ l. Has item l) s.all (has-append-right item (taken_list y.leave) (rest_list y.leave) (has-first item (rest_list y.leave) (subst (λ l. IsPrefix (item ∷ []) l) s.coming p)))

-- so a reception that says Worn tells the truth: after the lane was settled again, the item stands among what was put
pub worn-taken : (old new : List CellParts) (giver to taker from stamp : ℕ) (z k : CellParts) → sights new ≡ sights old → slice_get old taker ≡ Some z → IsWornAt from z.held.core.clock stamp z.held.links.items
    → (a b : CellParts) × (slice_get new giver ≡ Some a) × (slice_get new taker ≡ Some b) × At IsSettledLane to a.held.links.items from b.held.links.items
    → ((b : CellParts) (item : StampedLoad) → slice_get old taker ≡ Some b → IsNextAt from item b.held.links.items → (c : CellParts) × (slice_get new taker ≡ Some c) × IsNextAt from item c.held.links.items)
    → slice_get new giver ≡ Some k → IsKeptCell k → IsWornSomewhere stamp (sights new)
worn-taken old new giver to taker from stamp z k seen at w (a, b, ea, eb, (x, y, ex, ey, s)) next ek kept =
    elim (one-of z.held.core.clock w.item.stamp last_stamp w.last) [
      | inl p ↦ (w.told, (taker, sight z, ap (λ l. slice_get l taker) seen ∙ map-found sight taker old z at, inl p))
      | inr q ↦
          let n = next z w.item at (w.link, w.there, w.next) in
          let same : n.0 ≡ b = same_Some n.0 b (sym n.1 ∙ eb) in
          let m = subst (λ (h : CellParts). IsNextAt from w.item h.held.links.items) same n.2 in
          let link : m.0 ≡ y = same_Some m.0 y (sym m.1 ∙ ey) in
          let has = put-next x y w.item s (subst (λ (l : Link). IsPrefix (w.item ∷ []) (coming_list l.leave)) link m.2) in
          let is : k ≡ a = same_Some k a (sym ek ∙ ea) in
          let put = found-put a.root.net.value to a.held.links.items x ex (distinct-kept a (subst IsKeptCell is kept)) in
          (w.told, (giver, sight a, map-found sight giver new a ea, inr (x.neighbour, heard_stamped a.root.net.value w.item, subst (λ l. Has (heard_stamped a.root.net.value w.item) l) (sym put) (map-has (heard_stamped a.root.net.value) (put_list x.enter) w.item has), q)))
    ]
