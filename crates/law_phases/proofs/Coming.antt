-- What a server far from a publisher's home routed came to it over each link of the way from there.
use Rattle.std.proofs.Common.{◌≡◌, ℕ, zero, suc, ◌==◌, Bool, true, false, cond, List, [], ◌∷◌, ◌++◌, ◌⊎◌, inl, inr, take, refl, subst}
use Rattle.base.specs.Sets.{Has}
use Rattle.base_tree.specs.Hops.{side}
use Rattle.law_machine.specs.Machine.{Stamped, stamped}
use Rattle.law_routing.specs.Theory.{Theory}
use Rattle.law_routing.specs.Net.{Net, NetLaws}
use Rattle.law_routing.specs.Server.{Message, Subs, Advs, Noticed}
use Rattle.law_routing.specs.Routing.{routing_machine, Network}
use Rattle.law_routing.specs.Rest.{IsOnwardWay, end_of}
use Rattle.law_routing.specs.Order.{add_ordinal, ordinals_put, IsOrderly}
use Rattle.law_routing.proofs.Sides.{one-way, other-side}
use Rattle.law_phases.proofs.Speaking.{ids}

module _ (th : Theory) (net : Net th) (q o : ℕ) where
  -- an ordinal that a message adds, or that was there
  pub added : (m : Message th) (os : List ℕ) → Has o (add_ordinal th net q m os) → Has o (add_ordinal th net q m []) ⊎ Has o os
  added (Subs out add) os h = inr h
  added (Advs out add) os h = inr h
  added (Noticed p x n) os h = go (q == p) h
    where
      go : (b : Bool) → Has o (cond b (x ∷ os) os) → Has o (cond b (x ∷ []) []) ⊎ Has o os
      go true (inl e) = inl (inl e)
      go true (inr h) = inr h
      go false h = inr h

  pub adding : (m : Message th) (os : List ℕ) → Has o (add_ordinal th net q m []) → Has o (add_ordinal th net q m os)
  adding (Subs out add) os h = absurd h
  adding (Advs out add) os h = absurd h
  adding (Noticed p x n) os h = go (q == p) h
    where
      go : (b : Bool) → Has o (cond b (x ∷ []) []) → Has o (cond b (x ∷ os) os)
      go true (inl e) = inl e
      go true (inr h) = absurd h
      go false h = absurd h

  pub keeping : (m : Message th) (os : List ℕ) → Has o os → Has o (add_ordinal th net q m os)
  keeping (Subs out add) os h = h
  keeping (Advs out add) os h = h
  keeping (Noticed p x n) os h = go (q == p)
    where
      go : (b : Bool) → Has o (cond b (x ∷ os) os)
      go true = inr h
      go false = h

  -- what stands in the front of a link stands on it
  pub from-front : (k : ℕ) (xs : List (Stamped (Message th))) → Has o (ordinals_put th net q (take k xs)) → Has o (ordinals_put th net q xs)
  from-front zero xs h = absurd h
  from-front (suc k) [] h = absurd h
  from-front (suc k) (x ∷ xs) h = elim (added x.message (ordinals_put th net q (take k xs)) h) [
    | inl a ↦ adding x.message (ordinals_put th net q xs) a
    | inr b ↦ keeping x.message (ordinals_put th net q xs) (from-front k xs b)
  ]

  -- of what is put behind something
  pub put-behind : (stamp : ℕ) (xs : List (Stamped (Message th))) (ms : List (Message th)) → Has o (ordinals_put th net q (xs ++ stamped (routing_machine th net) stamp ms)) → Has o (ordinals_put th net q xs) ⊎ Has o (ids th net q ms)
  put-behind stamp [] ms h = inr (all ms h)
    where
      all : (ms : List (Message th)) → Has o (ordinals_put th net q (stamped (routing_machine th net) stamp ms)) → Has o (ids th net q ms)
      all [] h = h
      all (m ∷ ms) h = elim (added m (ordinals_put th net q (stamped (routing_machine th net) stamp ms)) h) [
        | inl a ↦ adding m (ids th net q ms) a
        | inr b ↦ keeping m (ids th net q ms) (all ms b)
      ]
  put-behind stamp (x ∷ xs) ms h = elim (added x.message (ordinals_put th net q (xs ++ stamped (routing_machine th net) stamp ms)) h) [
    | inl a ↦ inl (adding x.message (ordinals_put th net q xs) a)
    | inr b ↦ elim (put-behind stamp xs ms b) [ inl c ↦ inl (keeping x.message (ordinals_put th net q xs) c) | inr d ↦ inr d ]
  ]

module _ (th : Theory) (net : Net th) (good : NetLaws th net) (q earlier : ℕ) (w : Network th net) (routed : ℕ → List ℕ) (ord : IsOrderly th net q earlier w routed) where
  -- what is routed beyond a link, away from the publisher, came over it
  came-over : (a b o : ℕ) → Has b (net.links a) → side net.hop b a (net.home q) ≡ true → Has o (routed b) → Has o (ordinals_put th net q (w.put a b))
  came-over a b o near s h = from-front th net q o (w.taken a b) (w.put a b) (subst (Has o) (ord.there b a (good.tree.both a b near) s) h)

  pub came-along : (a b o : ℕ) (path : List ℕ) → Has b (net.links a) → IsOnwardWay th net a b path → side net.hop b a (net.home q) ≡ true → Has o (routed (end_of th net b path)) → Has o (ordinals_put th net q (w.put a b))
  came-along a b o [] near way s h = came-over a b o near s h
  came-along a b o (next ∷ path) near way s h =
      let away = other-side net.servers net.links net.hop good.tree b next (net.home q) way.0 (good.housed q) (not-next (side net.hop b next (net.home q)) refl) in
      let there = came-along b next o path way.0 way.2 away h in
      came-over a b o near s (ord.put_known b next o there)
    where
      not-next : (c : Bool) → side net.hop b next (net.home q) ≡ c → side net.hop b next (net.home q) ≡ false
      not-next false e = e
      not-next true e = absurd (way.1 (one-way net.hop b next a (net.home q) e s))
