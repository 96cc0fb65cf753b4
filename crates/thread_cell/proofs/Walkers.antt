-- What is seen of a cell after steps that may find nothing to do.
use Rattle.std.proofs.Common.{◌≡◌, ℕ, zero, suc, List, [], ◌∷◌, refl, sym, ap, subst, ◌∙◌}
use Rattle.std.proofs.lemmas.Option.{same_Some}
use Rattle.base.specs.Sets.{Has}
use Rattle.base.specs.Numbers.{IsDistinct}
use Rattle.net_model.specs.Parts.{EntryParts}
use Rattle.server_core.specs.Core.{CoreParts}
use Rattle.thread_cell.specs.declared.held.ServerInHand.{ServerInHand}
use Rattle.thread_cell.specs.declared.held.Root.{Root}
use Rattle.thread_cell.specs.declared.link.Link.{Link}
use Rattle.net_model.specs.declared.turn.Act.{Act}
use Rattle.net_model.specs.declared.turn.Act.TheVariants.{Command, Receive}
use Rattle.thread_cell.specs.declared.turned.Turned.{Turned}
use Rattle.thread_cell.specs.declared.turned.Turned.TheVariants.{Made, Stale, Idle}
use Rattle.thread_cell.specs.Links.{Both, IsSameLink, IsUnmoved, IsNeighbour}
use Rattle.thread_cell.specs.LaneReceiving.{HasMissed}
use Rattle.thread_cell.specs.Cell.{CellParts, cell_parts}
use Rattle.thread_cell.specs.Turns.{HasCommand, IsStill, IsWornAt}
use Rattle.thread_cell.specs.Asked.{Answers, IsIdleStep, IsWorn, Suits}
use Rattle.thread_cell.specs.Together.{sight}
use Rattle.thread_cell.proofs.Walks.{both-map}
use Rattle.thread_cell.proofs.HandAll.{names}
use Rattle.thread_cell.proofs.Places.{found-name}
use Rattle.thread_cell.proofs.PutAndReceived.{names-same, unmoved-put, unmoved-taken}
use Rattle.net_model.proofs.TreesByPhase.{links_at}
use Rattle.thread_cell.proofs.Gathered.{IsKeptCell, names-kept}
use Rattle.thread_cell.proofs.Emptied.{distinct-kept}
use Rattle.thread_cell.proofs.Asking.{neighbour-still}

-- where nothing was done nothing is seen
pub sight-unmoved : (root : Root) (journal after : List EntryParts) (old new : ServerInHand) → new.core ≡ old.core → Both IsUnmoved old.links.items new.links.items → after ≡ journal → sight (cell_parts root after new) ≡ sight (cell_parts root journal old)
sight-unmoved root journal after old new core links same = λ i. record {
  root = root;
  journal = same i;
  core = core i;
  put = λ n. unmoved-put root.net.value old.links.items new.links.items links n i;
  took = λ n. unmoved-taken root.net.value old.links.items new.links.items links n i;
}

pub sight-still : (root : Root) (journal after : List EntryParts) (old new : ServerInHand) → IsStill old new journal after → sight (cell_parts root after new) ≡ sight (cell_parts root journal old)
sight-still root journal after old new s = sight-unmoved root journal after old new s.core s.links s.journal

pub same-links-still : (old new : ServerInHand) (journal after : List EntryParts) → IsStill old new journal after → Both IsSameLink old.links.items new.links.items
same-links-still old new journal after s = both-map IsUnmoved IsSameLink (λ x y r. r.same) old.links.items new.links.items s.links

-- what was idle
pub idle-is : (phase : ℕ) (what : Act) (old new : ServerInHand) (before after : List EntryParts) (t : Turned) → Answers phase what old new before after t → t ≡ Idle → IsStill old new before after × IsIdleStep phase what old new
idle-is phase what old new before after Made a e = absurd cc
idle-is phase what old new before after Stale a e = absurd a
idle-is phase what old new before after Idle a e = a

-- a cell in which nothing was done
pub sight-after : (old new : CellParts) → new.root ≡ old.root → IsStill old.held new.held old.journal new.journal → sight new ≡ sight old
sight-after old new same s = ap (λ (r : Root). sight (cell_parts r new.journal new.held)) same ∙ sight-still old.root old.journal new.journal old.held new.held s

pub command-idle : (old new : CellParts) → new.root ≡ old.root → (client : ℕ) (t : Turned) → Answers old.root.phase (Command client) old.held new.held old.journal new.journal t → t ≡ Idle
    → (sight new ≡ sight old) × (HasCommand new.held.core client new.root.phase → ⊥)
command-idle old new same client t a e =
    let i = idle-is old.root.phase (Command client) old.held new.held old.journal new.journal t a e in (
      sight-after old new same i.0,
      λ h. i.1 (subst (λ (r : Root). HasCommand old.held.core client r.phase) same (subst (λ (k : CoreParts). HasCommand k client new.root.phase) i.0.core h)),
    )

apart : (x : Link) (xs : List Link) (q n : ℕ) → IsDistinct (names (x ∷ xs)) → IsNeighbour zero n (x ∷ xs) → IsNeighbour q n xs → ⊥
apart x xs q n d a b =
    let one : x.neighbour ≡ a.0.neighbour = ap (λ (l : Link). l.neighbour) (same_Some x a.0 a.1) in
    d.0 (subst (λ k. Has k (names xs)) (b.2 ∙ sym a.2 ∙ sym one) (found-name q xs b.0 b.1))

-- a neighbour has one place
one-place : (xs : List Link) (p q n : ℕ) → IsDistinct (names xs) → IsNeighbour p n xs → IsNeighbour q n xs → p ≡ q
one-place [] p q n d a b = let e = a.1 in absurd cc
one-place (x ∷ xs) zero zero n d a b = refl
one-place (x ∷ xs) zero (suc q) n d a b = absurd (apart x xs q n d a b)
one-place (x ∷ xs) (suc p) zero n d a b = absurd (apart x xs p n d b a)
one-place (x ∷ xs) (suc p) (suc q) n d a b = ap suc (one-place xs p q n d.1 a b)

-- a reception from a neighbour is one from its place
module _ (cell : CellParts) (kept : IsKeptCell cell) (place n : ℕ) (named : IsNeighbour place n cell.held.links.items) where
  pub suits-place : Suits (Receive n) cell.root
  suits-place = subst (Has n) (names-kept cell kept ∙ links_at cell.root.net.value cell.root.phase cell.root.server)
      (subst (λ k. Has k (names cell.held.links.items)) named.2 (found-name place cell.held.links.items named.0 named.1))

  pub place-idle : (new : ServerInHand) (after : List EntryParts) (t : Turned) → Answers cell.root.phase (Receive n) cell.held new cell.journal after t → t ≡ Idle
      → IsStill cell.held new cell.journal after × HasMissed place cell.held.links.items new.links.items
  place-idle new after t a e =
      let i = idle-is cell.root.phase (Receive n) cell.held new cell.journal after t a e in
      (i.0, subst (λ p. HasMissed p cell.held.links.items new.links.items) (one-place cell.held.links.items i.1.0 place n (distinct-kept cell kept) i.1.1 named) i.1.2)

  pub place-worn : (new : ServerInHand) (after : List EntryParts) (s : ℕ) → IsStill cell.held new cell.journal after → IsWorn (Receive n) s cell.held new → IsWornAt place new.core.clock s new.links.items
  place-worn new after s still w =
      let same = one-place new.links.items w.0 place n
      (subst IsDistinct (sym (names-same cell.held.links.items new.links.items (same-links-still cell.held new cell.journal after still))) (distinct-kept cell kept))
      w.1 (neighbour-still cell.root.phase place n cell.held new cell.journal after named still) in
      subst (λ (c : CoreParts). IsWornAt place c.clock s new.links.items) (sym still.core) (subst (λ p. IsWornAt p cell.held.core.clock s new.links.items) same w.2)
