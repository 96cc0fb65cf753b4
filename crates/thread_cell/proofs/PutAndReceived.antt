-- What was put and taken on the lanes of a server.
use Rattle.std.proofs.Common.{◌≡◌, ℕ, ◌<◌, ◌≤◌, ◌==◌, Bool, true, false, cond, List, [], ◌∷◌, ◌++◌, map, inl, inr, length, refl, sym, ap, subst, ◌∙◌, arith}
use Rattle.std.proofs.lemmas.List.{map-append}
use Rattle.std.proofs.lemmas.List.{length-append, length-map}
use Rattle.base.specs.Sets.{Has}
use Rattle.law_machine.proofs.Lists.{Same, Is, Not, compare, append-nothing}
use Rattle.thread_lane.specs.declared.putting.LaneIn.{LaneIn}
use Rattle.thread_lane.specs.declared.taking.LaneOut.{LaneOut}
use Rattle.thread_lane.specs.Lane.{put_list, taken_list}
use Rattle.server_message.specs.declared.stamped.StampedLoad.{StampedLoad}
use Rattle.server_message.specs.Parts.{SendingParts}
use Rattle.thread_cell.specs.declared.link.Link.{Link}
use Rattle.thread_cell.specs.Links.{Both, IsSameLink, IsUnmoved}
use Rattle.thread_cell.specs.LaneReceiving.{IsItemReceived}
use Rattle.thread_cell.specs.LaneMessages.{IsGiven, IsMoved, put_for, taken_from, only_for, only_from, sent_as, all_sent_as, represented_put, represented_received}
use Rattle.net_model.specs.Parts.{NetParts}
use Rattle.thread_cell.specs.Heard.{heard_stamped}
use Rattle.thread_cell.specs.Acted.{Represented}
use Rattle.thread_cell.proofs.HandAll.{names}
use Rattle.thread_cell.proofs.Unmoved.{same-link}

pub names-same : (xs ys : List Link) → Both IsSameLink xs ys → names ys ≡ names xs
names-same [] [] b = refl
names-same [] (y ∷ ys) b = absurd b
names-same (x ∷ xs) [] b = absurd b
names-same (x ∷ xs) (y ∷ ys) b = λ i. b.0.neighbour i ∷ names-same xs ys b.1 i

module _ (net : NetParts) where
  -- nothing was put or taken
  pub unmoved-put : (xs ys : List Link) → Both IsUnmoved xs ys → (n : ℕ) → put_for net ys n ≡ put_for net xs n
  unmoved-put [] [] b n = refl
  unmoved-put [] (y ∷ ys) b n = absurd b
  unmoved-put (x ∷ xs) [] b n = absurd b
  unmoved-put (x ∷ xs) (y ∷ ys) b n = λ i. cond (b.0.same.neighbour i == n) (map (heard_stamped net) (b.0.put i)) (unmoved-put xs ys b.1 n i)

  pub unmoved-taken : (xs ys : List Link) → Both IsUnmoved xs ys → (n : ℕ) → taken_from net ys n ≡ taken_from net xs n
  unmoved-taken [] [] b n = refl
  unmoved-taken [] (y ∷ ys) b n = absurd b
  unmoved-taken (x ∷ xs) [] b n = absurd b
  unmoved-taken (x ∷ xs) (y ∷ ys) b n = λ i. cond (b.0.same.neighbour i == n) (map (heard_stamped net) (b.0.taken i)) (unmoved-taken xs ys b.1 n i)

  one-said : (item : StampedLoad) (b : Bool) → map (heard_stamped net) (cond b (item ∷ []) []) ≡ cond b (heard_stamped net item ∷ []) []
  one-said item true = refl
  one-said item false = refl

  pub moved-given : (stamp : ℕ) (sent : List SendingParts) (x y z : Link) → IsUnmoved x y → IsGiven net stamp sent y z → IsMoved net stamp sent (λ n. []) x z
  moved-given stamp sent x y z u g = record {
    same = same-link x y z u.same g.put.same;
    one = subst (λ n. length (only_for n sent) ≤ 1) u.same.neighbour g.put.one;
    put = g.put.put ∙ ap (λ l. map (heard_stamped net) l ++ all_sent_as stamp (only_for y.neighbour sent)) u.put ∙ ap (λ n. represented_put net x ++ all_sent_as stamp (only_for n sent)) u.same.neighbour;
    took = ap (λ (b : LaneOut StampedLoad). map (heard_stamped net) (taken_list b)) g.put.leave ∙ ap (map (heard_stamped net)) u.taken ∙ sym (append-nothing (represented_received net x));
  }

  pub moved-taken : (stamp : ℕ) (sent : List SendingParts) (from : ℕ) (item : StampedLoad) (x y z : Link) → IsItemReceived from item x y → IsGiven net stamp sent y z → IsMoved net stamp sent (only_from from (heard_stamped net item)) x z
  moved-taken stamp sent from item x y z t g = record {
    same = same-link x y z t.same g.put.same;
    one = subst (λ n. length (only_for n sent) ≤ 1) t.same.neighbour g.put.one;
    put = g.put.put ∙ ap (λ (a : LaneIn StampedLoad). map (heard_stamped net) (put_list a) ++ all_sent_as stamp (only_for y.neighbour sent)) t.enter ∙ ap (λ n. represented_put net x ++ all_sent_as stamp (only_for n sent)) t.same.neighbour;
    took = ap (λ (b : LaneOut StampedLoad). map (heard_stamped net) (taken_list b)) g.put.leave ∙ ap (map (heard_stamped net)) t.took ∙ map-append (heard_stamped net) (taken_list x.leave) (cond (x.neighbour == from) (item ∷ []) [])
        ∙ ap (λ l. represented_received net x ++ l) (one-said item (x.neighbour == from));
  }

  pub moved-after : (stamp : ℕ) (sent : List SendingParts) (taken : ℕ → List Represented) (x y z : Link) → IsUnmoved x y → IsMoved net stamp sent taken y z → IsMoved net stamp sent taken x z
  moved-after stamp sent taken x y z u t = record {
    same = same-link x y z u.same t.same;
    one = subst (λ n. length (only_for n sent) ≤ 1) u.same.neighbour t.one;
    put = t.put ∙ ap (λ l. map (heard_stamped net) l ++ all_sent_as stamp (only_for y.neighbour sent)) u.put ∙ ap (λ n. represented_put net x ++ all_sent_as stamp (only_for n sent)) u.same.neighbour;
    took = t.took ∙ ap (λ l. map (heard_stamped net) l ++ taken y.neighbour) u.taken ∙ ap (λ n. represented_received net x ++ taken n) u.same.neighbour;
  }

  -- no lane has more messages than the clock counts
  pub few-after : (stamp clock : ℕ) (sent : List SendingParts) (taken : ℕ → List Represented) (x y : Link) → clock < stamp → IsMoved net stamp sent taken x y → length (put_list x.enter) ≤ clock → length (put_list y.enter) ≤ stamp
  few-after stamp clock sent taken x y lt m few =
      let e : length (represented_put net y) ≡ length (represented_put net x ++ all_sent_as stamp (only_for x.neighbour sent)) = ap (λ (l : List Represented). length l) m.put in
      let f : length (all_sent_as stamp (only_for x.neighbour sent)) ≡ length (only_for x.neighbour sent) = length-map (only_for x.neighbour sent) (sent_as stamp) in
      let a : length (represented_put net x) ≡ length (put_list x.enter) = length-map (put_list x.enter) (heard_stamped net) in
      let b : length (represented_put net y) ≡ length (put_list y.enter) = length-map (put_list y.enter) (heard_stamped net) in
      omega (arith, e, f, a, b, few, lt, m.one, length-append (represented_put net x) (all_sent_as stamp (only_for x.neighbour sent)))

  -- what was put for each neighbour
  pub puts : (stamp : ℕ) (sent : List SendingParts) (taken : ℕ → List Represented) (xs ys : List Link) → Both (IsMoved net stamp sent taken) xs ys → (n : ℕ) → ((Has n (names xs) → ⊥) → only_for n sent ≡ [])
      → put_for net ys n ≡ put_for net xs n ++ all_sent_as stamp (only_for n sent)
  puts stamp sent taken [] [] b n p = sym (ap (λ l. all_sent_as stamp l) (p (λ h. h)))
  puts stamp sent taken [] (y ∷ ys) b n p = absurd b
  puts stamp sent taken (x ∷ xs) [] b n p = absurd b
  puts stamp sent taken (x ∷ xs) (y ∷ ys) b n p = go (compare x.neighbour n) (puts stamp sent taken xs ys b.1 n)
    where
      go : Same x.neighbour n → (((Has n (names xs) → ⊥) → only_for n sent ≡ []) → put_for net ys n ≡ put_for net xs n ++ all_sent_as stamp (only_for n sent))
          → put_for net (y ∷ ys) n ≡ put_for net (x ∷ xs) n ++ all_sent_as stamp (only_for n sent)
      go (Is e v) next =
          let v' : (y.neighbour == n) ≡ true = ap (λ k. k == n) b.0.same.neighbour ∙ v in
          rw (v', v) (b.0.put ∙ ap (λ k. represented_put net x ++ all_sent_as stamp (only_for k sent)) e)
      go (Not e v) next =
          let v' : (y.neighbour == n) ≡ false = ap (λ k. k == n) b.0.same.neighbour ∙ v in
          rw (v', v) (next (λ no. p (λ h. elim h [ inl q ↦ e (sym q) | inr h ↦ no h ])))

  -- what was taken from each neighbour
  pub takes : (stamp : ℕ) (sent : List SendingParts) (taken : ℕ → List Represented) (xs ys : List Link) → Both (IsMoved net stamp sent taken) xs ys → (n : ℕ) → ((Has n (names xs) → ⊥) → taken n ≡ []) → taken_from net ys n ≡ taken_from net xs n ++ taken n
  takes stamp sent taken [] [] b n p = sym (p (λ h. h))
  takes stamp sent taken [] (y ∷ ys) b n p = absurd b
  takes stamp sent taken (x ∷ xs) [] b n p = absurd b
  takes stamp sent taken (x ∷ xs) (y ∷ ys) b n p = go (compare x.neighbour n) (takes stamp sent taken xs ys b.1 n)
    where
      go : Same x.neighbour n → (((Has n (names xs) → ⊥) → taken n ≡ []) → taken_from net ys n ≡ taken_from net xs n ++ taken n) → taken_from net (y ∷ ys) n ≡ taken_from net (x ∷ xs) n ++ taken n
      go (Is e v) next =
          let v' : (y.neighbour == n) ≡ true = ap (λ k. k == n) b.0.same.neighbour ∙ v in
          rw (v', v) (b.0.took ∙ ap (λ k. represented_received net x ++ taken k) e)
      go (Not e v) next =
          let v' : (y.neighbour == n) ≡ false = ap (λ k. k == n) b.0.same.neighbour ∙ v in
          rw (v', v) (next (λ no. p (λ h. elim h [ inl q ↦ e (sym q) | inr h ↦ no h ])))
