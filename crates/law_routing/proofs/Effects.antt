-- Proves what an entry does to the notifications of one publisher.
use Rattle.std.proofs.Common.{◌≡◌, ℕ, zero, suc, ◌+◌, ◌≤◌, ◌<◌, ◌==◌, Bool, true, false, cond, not, ◌&&◌, ◌||◌, List, [], ◌∷◌, ◌++◌, ◌⊎◌, inl, inr, take, drop, slice_get, Option, Some, None, refl, sym, ap, subst, ◌∙◌, arith, take-append-drop, eq-eqb, append-nil}
use Rattle.std.proofs.lemmas.Option.{same_Some}
use Rattle.law_machine.specs.Machine.{Has, Input, Does, Receives, Stamped, stamped, unstamped}
use Rattle.law_machine.specs.Network.{IsAvailable, taken_after}
use Rattle.law_machine.proofs.Lists.{Same, Is, Not, compare}
use Rattle.base.specs.Sets.{same_list, minus}
use Rattle.base_tree.specs.Hops.{side}
use Rattle.law_routing.specs.Theory.{Theory}
use Rattle.law_routing.specs.Net.{Net, PhasedCommand, Command, Subscribe, Unsubscribe, Advertise, Unadvertise, Publish, NetLaws}
use Rattle.law_routing.specs.Server.{Message, Subs, Advs, Noticed, Publication, ServerState, is_among, sent, sent_adverts, filter_change, advert_change, messages_to}
use Rattle.law_routing.specs.Step.{Task, NextCommand, TableUpdate, Work, SetsFilters, SetsAdverts, Routes, InstallsTable, Nothing, with_filters, with_adverts, effect, command_work, next_work, message_work, work_of}
use Rattle.law_routing.specs.Clients.{is_publish, some_pass, adverts_after, ordinal}
use Rattle.law_routing.specs.Routing.{routing_machine, Network}
use Rattle.law_routing.specs.Works.{done_after}
use Rattle.law_routing.specs.Order.{IsStrictlyRising, add_ordinal, ordinals_put, ordinals_delivered, ordinals_in, IsOrderly}
use Rattle.law_routing.proofs.Laws.{one-has, cond-some}
use Rattle.law_routing.proofs.Sides.{one-way, side-here, other-side}
use Rattle.law_routing.proofs.Listing.{take-one, up-left, up-below}
use Rattle.std.proofs.lemmas.Bool.{true_from_ne_false}
use Rattle.base.proofs.Sets.{has-append-left, has-append-right}

module _ (th : Theory) (net : Net th) (good : NetLaws th net) (q earlier : ℕ) where
  abbrev pub frames : ℕ → List (Message th) → List (Stamped (Message th))
  frames n ms = stamped (routing_machine th net) n ms

  abbrev pub ids : List (Stamped (Message th)) → List ℕ
  ids xs = ordinals_put th net q xs

  abbrev pub adds : Work th → List ℕ
  adds k = ordinals_in th net q k

  add-append : (y : Message th) (os ps : List ℕ) → add_ordinal th net q y (os ++ ps) ≡ add_ordinal th net q y os ++ ps
  add-append (Subs out add) os ps = refl
  add-append (Advs out add) os ps = refl
  add-append (Noticed p o n) os ps = go (q == p)
    where
      go : (b : Bool) → cond b (o ∷ (os ++ ps)) (os ++ ps) ≡ cond b (o ∷ os) os ++ ps
      go true = refl
      go false = refl

  pub ids-append : (a b : List (Stamped (Message th))) → ids (a ++ b) ≡ ids a ++ ids b
  ids-append [] b = refl
  ids-append (x ∷ a) b = ap (add_ordinal th net q x.message) (ids-append a b) ∙ add-append x.message (ids a) (ids b)

  pub given-append : (a b : List (Publication th)) → ordinals_delivered th net q (a ++ b) ≡ ordinals_delivered th net q a ++ ordinals_delivered th net q b
  given-append [] b = refl
  given-append (x ∷ a) b = go (q == x.publisher) (given-append a b)
    where
      go : (t : Bool) → ordinals_delivered th net q (a ++ b) ≡ ordinals_delivered th net q a ++ ordinals_delivered th net q b
          → cond t (x.ordinal ∷ ordinals_delivered th net q (a ++ b)) (ordinals_delivered th net q (a ++ b)) ≡ cond t (x.ordinal ∷ ordinals_delivered th net q a) (ordinals_delivered th net q a) ++ ordinals_delivered th net q b
      go true e = ap (λ z. x.ordinal ∷ z) e
      go false e = e

  pub one-up : (k : Work th) → IsStrictlyRising (adds k)
  one-up (SetsFilters i set) = tt
  one-up (SetsAdverts i set) = tt
  one-up (Routes s p o n) = go (q == p)
    where
      go : (b : Bool) → IsStrictlyRising (cond b (o ∷ []) [])
      go true = ((λ y h. absurd h), tt)
      go false = tt
  one-up InstallsTable = tt
  one-up Nothing = tt

  abbrev pub Sends : ℕ → Work th → ℕ → List (Message th) → Type 0
  Sends t k b ms = (n : ℕ) → (ids (frames n ms) ≡ []) ⊎ ((ids (frames n ms) ≡ adds k) × (side net.hop b t (net.home q) ≡ true))

  -- what an entry at t does to the notices of q
  pub record Effect (w : Network th net) (routed : List ℕ) (t : ℕ) (d : Input Task (Stamped (Message th))) (from : ServerState th) (k : Work th) : Type 0 where
    pub puts : (b : ℕ) → Has b (net.links t) → Sends t k b ((effect th net t from k).outs b)
    pub takes : (u : ℕ) → Has u (net.links t) → side net.hop t u (net.home q) ≡ true → ids (take (taken_after (routing_machine th net) w.taken t d u t) (w.put u t)) ≡ ids (take (w.taken u t) (w.put u t)) ++ adds k
    pub fresh : (x y : ℕ) → Has y routed → Has x (adds k) → y < x
    pub later : (x : ℕ) → Has x (adds k) → earlier < x
    pub counts : t ≡ net.home q → (x : ℕ) → Has x (adds k) → x ≤ ordinal th (take (done_after th net (w.state t).done d q) (net.script q))

  pub gives-of : (from : ServerState th) (t : ℕ) (k : Work th) (c : ℕ) → (ordinals_delivered th net q ((effect th net t from k).state.inbox c) ≡ ordinals_delivered th net q (from.inbox c)) ⊎ (ordinals_delivered th net q ((effect th net t from k).state.inbox c) ≡ ordinals_delivered th net q (from.inbox c) ++ adds k)
  gives-of from t (SetsFilters i set) c = inl refl
  gives-of from t (SetsAdverts i set) c = inl refl
  gives-of from t (Routes s p o n) c = go (is_among c (net.clients t) && some_pass (th.matches n) (from.installed (64 + c)))
    where
      go : (b : Bool) → (ordinals_delivered th net q (cond b (from.inbox c ++ record { publisher = p; ordinal = o; notice = n } ∷ []) (from.inbox c)) ≡ ordinals_delivered th net q (from.inbox c)) ⊎ (ordinals_delivered th net q (cond b (from.inbox c ++ record { publisher = p; ordinal = o; notice = n } ∷ []) (from.inbox c)) ≡ ordinals_delivered th net q (from.inbox c) ++ cond (q == p) (o ∷ []) [])
      go true = inr (given-append (from.inbox c) (record { publisher = p; ordinal = o; notice = n } ∷ []))
      go false = inl refl
  gives-of from t InstallsTable c = inl refl
  gives-of from t Nothing c = inl refl

  -- what is put for b has the notice or not, and never for the interface it came by
  puts-of : (from : ServerState th) (t b s p o : ℕ) (n : th.Notice) (x : ℕ) → (ids (frames x ((effect th net t from (Routes s p o n)).outs b)) ≡ []) ⊎ ((ids (frames x ((effect th net t from (Routes s p o n)).outs b)) ≡ adds (Routes s p o n)) × (b ≡ s → ⊥))
  puts-of from t b s p o n x = go (is_among b (net.links t)) (compare b s) (some_pass (th.matches n) (from.installed b))
    where
      go : (z : Bool) → Same b s → (y : Bool) → (ids (frames x (cond z (cond (not (b == s) && y) (Noticed p o n ∷ []) []) [])) ≡ []) ⊎ ((ids (frames x (cond z (cond (not (b == s) && y) (Noticed p o n ∷ []) []) [])) ≡ cond (q == p) (o ∷ []) []) × (b ≡ s → ⊥))
      go false z y = inl refl
      go true (Is e v) y = inl (rw v refl)
      go true (Not m v) true = inr (rw v refl, m)
      go true (Not m v) false = inl (rw v refl)

  change-ids : (x : ℕ) (old new : List th.Filter) (rest : List (Message th)) → ids (frames x (filter_change th net old new ++ rest)) ≡ ids (frames x rest)
  change-ids x old new rest = go (same_list th.before old new)
    where
      go : (b : Bool) → ids (frames x (cond b [] (Subs (minus th.before old new) (minus th.before new old) ∷ []) ++ rest)) ≡ ids (frames x rest)
      go true = refl
      go false = refl

  change_adverts-ids : (x : ℕ) (old new : List th.Advert) → ids (frames x (advert_change th net old new)) ≡ []
  change_adverts-ids x old new = go (same_list th.before_advert old new)
    where
      go : (b : Bool) → ids (frames x (cond b [] (Advs (minus th.before_advert old new) (minus th.before_advert new old) ∷ []))) ≡ []
      go true = refl
      go false = refl

  differ-ids : (x : ℕ) (s s' : ServerState th) (t b : ℕ) (z : Bool) → ids (frames x (cond z (messages_to th net s s' t b) [])) ≡ []
  differ-ids x s s' t b true = change-ids x (sent th net s t b) (sent th net s' t b) (advert_change th net (sent_adverts th net s t b) (sent_adverts th net s' t b)) ∙ change_adverts-ids x (sent_adverts th net s t b) (sent_adverts th net s' t b)
  differ-ids x s s' t b false = refl

  none-ids : (x : ℕ) (z : Bool) → ids (frames x (cond z [] [])) ≡ []
  none-ids x true = refl
  none-ids x false = refl

  no-ids : (from : ServerState th) (t b : ℕ) (k : Work th) (x : ℕ) → adds k ≡ [] → ids (frames x ((effect th net t from k).outs b)) ≡ []
  no-ids from t b (SetsFilters i set) x e = differ-ids x from (with_filters th net from i set) t b (is_among b (net.links t))
  no-ids from t b (SetsAdverts i set) x e = differ-ids x from (with_adverts th net from i set) t b (is_among b (net.links t))
  no-ids from t b (Routes s p o n) x e = elim (puts-of from t b s p o n x) [ inl f ↦ f | inr f ↦ f.0 ∙ e ]
  no-ids from t b InstallsTable x e = none-ids x (is_among b (net.links t))
  no-ids from t b Nothing x e = none-ids x (is_among b (net.links t))

  -- an entry that routes no notice of q
  silent : (w : Network th net) (routed : List ℕ) (t : ℕ) (d : Input Task (Stamped (Message th))) (from : ServerState th) (k : Work th) → adds k ≡ []
      → ((u : ℕ) → ids (take (taken_after (routing_machine th net) w.taken t d u t) (w.put u t)) ≡ ids (take (w.taken u t) (w.put u t))) → Effect w routed t d from k
  silent w routed t d from k none same = record {
    puts = λ b near x. inl (no-ids from t b k x none);
    takes = λ u near s. same u ∙ (sym (append-nil (ids (take (w.taken u t) (w.put u t)))) ∙ ap (λ z. ids (take (w.taken u t) (w.put u t)) ++ z) (sym none));
    fresh = λ x y h i. absurd (subst (Has x) none i);
    later = λ x i. absurd (subst (Has x) none i);
    counts = λ p x i. absurd (subst (Has x) none i);
  }

  one-adds : (s o : ℕ) (n : th.Notice) → adds (Routes s q o n) ≡ o ∷ []
  one-adds s o n = rw (eq-eqb q q refl) refl

  one-of : (s o : ℕ) (n : th.Notice) (x : ℕ) → Has x (adds (Routes s q o n)) → x ≡ o
  one-of s o n x h = go (subst (Has x) (one-adds s o n) h)
    where
      go : Has x (o ∷ []) → x ≡ o
      go (inl e) = e
      go (inr k) = absurd k

  -- q publishes
  own : (w : Network th net) (routed : ℕ → List ℕ) (t s o : ℕ) (n : th.Notice) (from : ServerState th) → IsOrderly th net q earlier w routed → t ≡ net.home q → ordinal th (take ((w.state t).done q) (net.script q)) < o → o ≡ ordinal th (take (suc ((w.state t).done q)) (net.script q))
      → Effect w (routed t) t (Does (NextCommand q)) from (Routes s q o n)
  own w routed t s o n from ord home more is = record {
    puts = λ b near x. elim (puts-of from t b s q o n x) [ inl f ↦ inl f | inr f ↦ inr (f.0, back b near) ];
    takes = λ u near e. absurd (away u near e);
    fresh = λ x y h i. rw (one-of s o n x i) (omega (arith, ord.here y (subst (λ z. Has y (routed z)) home h), subst (λ z. ordinal th (take ((w.state z).done q) (net.script q)) < o) home more));
    later = λ x i. rw (one-of s o n x i) (omega (arith, ord.since, subst (λ z. ordinal th (take ((w.state z).done q) (net.script q)) < o) home more));
    counts = λ p x i. rw (one-of s o n x i, eq-eqb q q refl) (omega (arith, is));
  }
    where
      away : (u : ℕ) → Has u (net.links t) → side net.hop t u (net.home q) ≡ true → ⊥
      away u near e = let h = side-here net.hop t u in grind (arith, h, subst (λ z. side net.hop t u z ≡ true) (sym home) e)

      back : (b : ℕ) → Has b (net.links t) → side net.hop b t (net.home q) ≡ true
      back b near = other-side net.servers net.links net.hop good.tree t b (net.home q) near (good.housed q) (subst (λ z. side net.hop t b z ≡ false) home (side-here net.hop t b))

  module _ (w : Network th net) (t s o : ℕ) (n : th.Notice) (y : Stamped (Message th)) (m : y.message ≡ Noticed q o n) (g : slice_get (w.put s t) (w.taken s t) ≡ Some y) where
    -- the notices of q up to the next message of a link
    next-ids : ids (take (suc (w.taken s t)) (w.put s t)) ≡ ids (take (w.taken s t) (w.put s t)) ++ (o ∷ [])
    next-ids = ap ids (take-one (w.put s t) (w.taken s t) y g) ∙ (ids-append (take (w.taken s t) (w.put s t)) (y ∷ []) ∙ ap (λ z. ids (take (w.taken s t) (w.put s t)) ++ z) (ap (λ z. add_ordinal th net q z []) m ∙ rw (eq-eqb q q refl) refl))

    -- the whole link: what was received, the next notice, and the rest
    cut : ids (w.put s t) ≡ (ids (take (w.taken s t) (w.put s t)) ++ (o ∷ [])) ++ ids (drop (suc (w.taken s t)) (w.put s t))
    cut = ap ids (sym (take-append-drop (suc (w.taken s t)) (w.put s t))) ∙ (ids-append (take (suc (w.taken s t)) (w.put s t)) (drop (suc (w.taken s t)) (w.put s t)) ∙ ap (λ z. z ++ ids (drop (suc (w.taken s t)) (w.put s t))) next-ids)

    -- a notice of q is received
    from-link : (routed : ℕ → List ℕ) (from : ServerState th) → IsOrderly th net q earlier w routed → Has s (net.links t) → Effect w (routed t) t (Receives s y) from (Routes s q o n)
    from-link routed from ord near = record {
      puts = λ b near' x. elim (puts-of from t b s q o n x) [ inl f ↦ inl f | inr f ↦ inr (f.0, back b near' f.1) ];
      takes = takes;
      fresh = λ x z h i. rw (one-of s o n x i) (up-below (ids (take (w.taken s t) (w.put s t))) (o ∷ []) (up-left _ (ids (drop (suc (w.taken s t)) (w.put s t))) (subst IsStrictlyRising cut (ord.put_up s t))) z o (subst (Has z) (ord.there t s near beyond) h) (inl refl));
      later = λ x i. rw (one-of s o n x i) (ord.later s o (ord.put_known s t o (subst (Has o) (sym cut) (has-append-left o (ids (take (w.taken s t) (w.put s t)) ++ (o ∷ [])) (ids (drop (suc (w.taken s t)) (w.put s t))) (has-append-right o (ids (take (w.taken s t) (w.put s t))) (o ∷ []) (inl refl))))));
      counts = λ p x i. absurd (not-home p);
    }
      where
        nonempty : (xs ys : List ℕ) → (xs ++ (o ∷ [])) ++ ys ≡ [] → ⊥
        nonempty [] ys e = cc
        nonempty (x ∷ xs) ys e = cc

        beyond : side net.hop t s (net.home q) ≡ true
        beyond = true_from_ne_false (side net.hop t s (net.home q)) (λ e. nonempty (ids (take (w.taken s t) (w.put s t))) (ids (drop (suc (w.taken s t)) (w.put s t))) (sym cut ∙ ord.away s t (good.tree.both t s near) e))

        not-home : t ≡ net.home q → ⊥
        not-home p = let h = side-here net.hop t s in grind (arith, h, subst (λ z. side net.hop t s z ≡ true) (sym p) beyond)

        back : (b : ℕ) → Has b (net.links t) → (b ≡ s → ⊥) → side net.hop b t (net.home q) ≡ true
        back b near' ne = true_from_ne_false (side net.hop b t (net.home q)) (λ e. ne (one-way net.hop t b s (net.home q) (other-side net.servers net.links net.hop good.tree b t (net.home q) (good.tree.both t b near') (good.housed q) e) beyond))

        takes : (u : ℕ) → Has u (net.links t) → side net.hop t u (net.home q) ≡ true → ids (take (taken_after (routing_machine th net) w.taken t (Receives s y) u t) (w.put u t)) ≡ ids (take (w.taken u t) (w.put u t)) ++ adds (Routes s q o n)
        takes u near' e =
            let p : u ≡ s = one-way net.hop t u s (net.home q) e beyond in
            subst (λ z. ids (take (taken_after (routing_machine th net) w.taken t (Receives s y) z t) (w.put z t)) ≡ ids (take (w.taken z t) (w.put z t)) ++ adds (Routes s q o n)) (sym p) (rw (eq-eqb s s refl, eq-eqb t t refl, eq-eqb q q refl) next-ids)

  more-ordinals : (cs : List (PhasedCommand th)) (j : ℕ) (c : PhasedCommand th) → slice_get cs j ≡ Some c → is_publish th c.command ≡ true → ordinal th (take j cs) < ordinal th (take (suc j) cs)
  more-ordinals [] j c e p = absurd cc
  more-ordinals (x ∷ cs) zero c e p = rw (subst (λ z. is_publish th z.command ≡ true) (sym (same_Some _ _ e)) p) (omega arith)
  more-ordinals (x ∷ cs) (suc j) c e p = go (is_publish th x.command) (more-ordinals cs j c e p)
    where
      go : (b : Bool) → ordinal th (take j cs) < ordinal th (take (suc j) cs) → cond b (suc (ordinal th (take j cs))) (ordinal th (take j cs)) < cond b (suc (ordinal th (take (suc j) cs))) (ordinal th (take (suc j) cs))
      go true l = omega (arith, l)
      go false l = l

  -- a client's command
  by-ask : (w : Network th net) (routed : ℕ → List ℕ) (t c : ℕ) (y : Command th) (x : PhasedCommand th) (from : ServerState th) → x.command ≡ y → IsOrderly th net q earlier w routed → Has c (net.clients t) → slice_get (net.script c) ((w.state t).done c) ≡ Some x
      → Effect w (routed t) t (Does (NextCommand c)) from (command_work th net c ((w.state t).done c) y)
  by-ask w routed t c (Subscribe f) x from e ord lives g = silent w (routed t) t (Does (NextCommand c)) from _ refl (λ u. refl)
  by-ask w routed t c (Unsubscribe f) x from e ord lives g = silent w (routed t) t (Does (NextCommand c)) from _ refl (λ u. refl)
  by-ask w routed t c (Advertise a) x from e ord lives g = go net.adverts
    where
      go : (b : Bool) → Effect w (routed t) t (Does (NextCommand c)) from (cond b (SetsAdverts (64 + c) (adverts_after th [] (take (suc ((w.state t).done c)) (net.script c)))) Nothing)
      go true = silent w (routed t) t (Does (NextCommand c)) from _ refl (λ u. refl)
      go false = silent w (routed t) t (Does (NextCommand c)) from _ refl (λ u. refl)
  by-ask w routed t c (Unadvertise a) x from e ord lives g = go net.adverts
    where
      go : (b : Bool) → Effect w (routed t) t (Does (NextCommand c)) from (cond b (SetsAdverts (64 + c) (adverts_after th [] (take (suc ((w.state t).done c)) (net.script c)))) Nothing)
      go true = silent w (routed t) t (Does (NextCommand c)) from _ refl (λ u. refl)
      go false = silent w (routed t) t (Does (NextCommand c)) from _ refl (λ u. refl)
  by-ask w routed t c (Publish n) x from e ord lives g = go (not net.adverts || some_pass (λ a. th.allows a n) (adverts_after th [] (take ((w.state t).done c) (net.script c)))) (compare q c)
    where
      go : (b : Bool) → Same q c → Effect w (routed t) t (Does (NextCommand c)) from (cond b (Routes (64 + c) c (ordinal th (take (suc ((w.state t).done c)) (net.script c))) n) Nothing)
      go false s = silent w (routed t) t (Does (NextCommand c)) from Nothing refl (λ u. refl)
      go true (Is p v) =
          let more : ordinal th (take ((w.state t).done q) (net.script q)) < ordinal th (take (suc ((w.state t).done q)) (net.script q)) = more-ordinals (net.script q) ((w.state t).done q) x (subst (λ z. slice_get (net.script z) ((w.state t).done z) ≡ Some x) (sym p) g) (ap (is_publish th) e) in
          subst (λ z. Effect w (routed t) t (Does (NextCommand z)) from (Routes (64 + z) z (ordinal th (take (suc ((w.state t).done z)) (net.script z))) n)) p
          (own w routed t (64 + q) (ordinal th (take (suc ((w.state t).done q)) (net.script q))) n from ord (sym (good.lives t q (subst (λ z. Has z (net.clients t)) (sym p) lives))) more refl)
      go true (Not z v) = silent w (routed t) t (Does (NextCommand c)) from (Routes (64 + c) c (ordinal th (take (suc ((w.state t).done c)) (net.script c))) n) (rw v refl) (λ u. refl)

  quiet-next : (w : Network th net) (t s : ℕ) (y : Stamped (Message th)) → slice_get (w.put s t) (w.taken s t) ≡ Some y → add_ordinal th net q y.message [] ≡ []
      → (u : ℕ) → ids (take (taken_after (routing_machine th net) w.taken t (Receives s y) u t) (w.put u t)) ≡ ids (take (w.taken u t) (w.put u t))
  quiet-next w t s y g none u = go (compare u s)
    where
      here : ids (take (suc (w.taken s t)) (w.put s t)) ≡ ids (take (w.taken s t) (w.put s t))
      here = ap ids (take-one (w.put s t) (w.taken s t) y g) ∙ (ids-append (take (w.taken s t) (w.put s t)) (y ∷ []) ∙ (ap (λ z. ids (take (w.taken s t) (w.put s t)) ++ z) none ∙ append-nil (ids (take (w.taken s t) (w.put s t)))))

      go : Same u s → ids (take (taken_after (routing_machine th net) w.taken t (Receives s y) u t) (w.put u t)) ≡ ids (take (w.taken u t) (w.put u t))
      go (Is e v) = subst (λ z. ids (take (taken_after (routing_machine th net) w.taken t (Receives s y) z t) (w.put z t)) ≡ ids (take (w.taken z t) (w.put z t))) (sym e) (rw (eq-eqb s s refl, eq-eqb t t refl) here)
      go (Not n v) = rw v refl

  by-message : (w : Network th net) (routed : ℕ → List ℕ) (t s : ℕ) (y : Stamped (Message th)) (x : Message th) (from : ServerState th) → y.message ≡ x → IsOrderly th net q earlier w routed → Has s (net.links t) → slice_get (w.put s t) (w.taken s t) ≡ Some y
      → Effect w (routed t) t (Receives s y) from (message_work th net (w.state t) s x)
  by-message w routed t s y (Subs out add) from e ord near g = silent w (routed t) t (Receives s y) from _ refl (quiet-next w t s y g (ap (λ z. add_ordinal th net q z []) e))
  by-message w routed t s y (Advs out add) from e ord near g = silent w (routed t) t (Receives s y) from _ refl (quiet-next w t s y g (ap (λ z. add_ordinal th net q z []) e))
  by-message w routed t s y (Noticed p o n) from e ord near g = go (compare q p)
    where
      go : Same q p → Effect w (routed t) t (Receives s y) from (Routes s p o n)
      go (Is x v) = subst (λ z. Effect w (routed t) t (Receives s y) from (Routes s z o n)) x (from-link w t s o n y (e ∙ ap (λ z. Noticed z o n) (sym x)) g routed from ord near)
      go (Not x v) = silent w (routed t) t (Receives s y) from (Routes s p o n) (rw v refl) (quiet-next w t s y g (ap (λ z. add_ordinal th net q z []) e ∙ rw v refl))

  -- each possible input
  pub effect-of : (w : Network th net) (routed : ℕ → List ℕ) (t : ℕ) (d : Input Task (Stamped (Message th))) (from : ServerState th) (k : Work th) → IsOrderly th net q earlier w routed → IsAvailable (routing_machine th net) w t d → work_of th net t (w.state t) (unstamped (routing_machine th net) d) ≡ Some k
      → Effect w (routed t) t d from k
  effect-of w routed t (Does (NextCommand c)) from k ord given e =
      let f = cond-some (is_among t net.servers) (is_among c (net.clients t)) (next_work th net c ((w.state t).done c) (slice_get (net.script c) ((w.state t).done c))) k e in
      go (slice_get (net.script c) ((w.state t).done c)) refl f.2 (one-has c (net.clients t) f.1)
    where
      go : (o : Option (PhasedCommand th)) → slice_get (net.script c) ((w.state t).done c) ≡ o → next_work th net c ((w.state t).done c) o ≡ Some k → Has c (net.clients t) → Effect w (routed t) t (Does (NextCommand c)) from k
      go None g f lives = absurd cc
      go (Some x) g f lives = subst (Effect w (routed t) t (Does (NextCommand c)) from) (same_Some _ _ f) (by-ask w routed t c x.command x from refl ord lives g)
  effect-of w routed t (Does TableUpdate) from k ord given e =
      let f = cond-some (is_among t net.servers) (w.state t).pending (Some InstallsTable) k e in
      subst (Effect w (routed t) t (Does TableUpdate) from) (same_Some _ _ f.2) (silent w (routed t) t (Does TableUpdate) from InstallsTable refl (λ u. refl))
  effect-of w routed t (Receives s y) from k ord given e =
      let f = cond-some (is_among t net.servers) (is_among s (net.links t)) (Some (message_work th net (w.state t) s y.message)) k e in
      subst (Effect w (routed t) t (Receives s y) from) (same_Some _ _ f.2) (by-message w routed t s y y.message from refl ord (one-has s (net.links t) f.1) given)
