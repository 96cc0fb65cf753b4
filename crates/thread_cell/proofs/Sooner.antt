-- What a look and a reception show of the misses of a lane.
use Rattle.std.proofs.Common.{◌≡◌, ℕ, List, length, ◌<◌, Bool, true, false, Some, slice_get, sym, ap, subst, ◌∙◌}
use Rattle.std.proofs.lemmas.Option.{same_Some}
use Rattle.law_machine.specs.Machine.{Receives}
use Rattle.net_model.specs.Parts.{NetParts}
use Rattle.server_message.specs.Parts.{SendingParts}
use Rattle.thread_lane.specs.declared.taking.LaneOut.{LaneOut}
use Rattle.thread_lane.specs.Lane.{misses, coming_list}
use Rattle.server_message.specs.declared.stamped.StampedLoad.{StampedLoad}
use Rattle.net_model.specs.declared.turn.Act.TheVariants as acts
use Rattle.net_model.specs.Parts.{EntryParts}
use Rattle.thread_cell.specs.declared.held.ServerInHand.{ServerInHand}
use Rattle.thread_cell.specs.declared.link.Link.{Link}
use Rattle.thread_cell.specs.Acted.{Represented}
use Rattle.thread_cell.specs.Links.{Both, IsUnmoved, IsRoomed}
use Rattle.thread_cell.specs.LaneReceiving.{IsItemReceived, IsMissed, IsLookedAt, IsInSight, HasMissed, HasSeen}
use Rattle.thread_cell.specs.LaneMessages.{IsGiven}
use Rattle.thread_cell.specs.Turns.{IsCellTurn, IsReceptionFrom}
use Rattle.thread_cell.proofs.Places.{both-behind}

-- what was made room for, taken and given was seen without a miss
pub has-seen : (place from : ℕ) (item : StampedLoad) (net : NetParts) (stamp : ℕ) (sent : List SendingParts) (xs ys zs ws : List Link) → Both IsRoomed xs ys → Both (IsItemReceived from item) ys zs → Both (IsGiven net stamp sent) zs ws → HasSeen place xs ws
has-seen place from item net stamp sent xs ys zs ws r t g x w p q =
    let y = both-behind IsRoomed place xs ys x r p in
    let z = both-behind (IsItemReceived from item) place ys zs y.0 t y.1 in
    let v = both-behind (IsGiven net stamp sent) place zs ws z.0 g z.1 in
    ap (λ (l : Link). misses l.leave) (same_Some w v.0 (sym q ∙ v.1)) ∙ ap (λ (l : LaneOut StampedLoad). misses l) v.2.put.leave ∙ z.2.seen ∙ ap (λ (l : LaneOut StampedLoad). misses l) y.2.leave

pub seen-then : (place : ℕ) (xs ys zs : List Link) → ((x y : Link) → slice_get xs place ≡ Some x → slice_get ys place ≡ Some y → misses y.leave ≡ misses x.leave) → Both IsUnmoved xs ys → HasSeen place ys zs → HasSeen place xs zs
seen-then place xs ys zs same u h x z p q =
    let y = both-behind IsUnmoved place xs ys x u p in
    h y.0 z y.1 q ∙ same x y.0 p y.1

pub looked-some : (place : ℕ) (xs ys : List Link) (b : Bool) → IsLookedAt place xs ys b → b ≡ true → IsInSight place ys
looked-some place xs ys b looked e z q = go (subst (IsLookedAt place xs ys) e looked)
  where
    go : IsLookedAt place xs ys true → 0 < length (coming_list z.leave)
    go (x, y, ex, ey, l) = subst (λ (w : Link). 0 < length (coming_list w.leave)) (same_Some y z (sym ey ∙ q)) l.0

pub looked-seen : (place : ℕ) (xs ys : List Link) (o : Bool) → IsLookedAt place xs ys o → o ≡ true → HasSeen place xs ys
looked-seen place xs ys o looked e a b p q = go (subst (IsLookedAt place xs ys) e looked)
  where
    go : IsLookedAt place xs ys true → misses b.leave ≡ misses a.leave
    go (x, y, ex, ey, l) = ap (λ (z : Link). misses z.leave) (same_Some b y (sym q ∙ ey)) ∙ l.1 ∙ ap (λ (z : Link). misses z.leave) (same_Some x a (sym ex ∙ p))

pub looked-none : (place : ℕ) (xs ys : List Link) (o : Bool) → IsLookedAt place xs ys o → o ≡ false → HasMissed place xs ys
looked-none place xs ys o looked e a b p q = go (subst (IsLookedAt place xs ys) e looked)
  where
    go : IsLookedAt place xs ys false → IsMissed a b
    go (x, y, ex, ey, l) = subst (λ (z : Link). IsMissed a z) (same_Some y b (sym ey ∙ q)) (subst (λ (z : Link). IsMissed z y) (same_Some x a (sym ex ∙ p)) l)

pub reception-from : (phase place n : ℕ) (link : Link) (m : Represented) (old new : ServerInHand) (before after : List EntryParts) → slice_get old.links.items place ≡ Some link → n ≡ link.neighbour → IsCellTurn phase (Receives n m) (acts.Receive n) old new before after
    → HasSeen place old.links.items new.links.items → IsReceptionFrom phase place m old new before after
reception-from phase place n link m old new before after e q t seen = record {
  link = link;
  there = e;
  turn = subst (λ k. IsCellTurn phase (Receives k m) (acts.Receive k) old new before after) q t;
  seen = seen;
}
