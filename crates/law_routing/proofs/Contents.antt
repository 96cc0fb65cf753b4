-- The steps of the servers keep the laws of both contents, so that at rest each holds what its neighbours sent.
use Rattle.std.proofs.Common.{◌≡◌, ℕ, suc, ◌+◌, ◌==◌, Bool, true, false, cond, not, ◌&&◌, ◌||◌, List, [], ◌∷◌, ◌++◌, inl, inr, length, slice_get, Option, Some, None, refl, sym, ap, subst, ◌∙◌, arith}
use Rattle.std.proofs.lemmas.Option.{same_Some}
use Rattle.law_machine.specs.Machine.{Has, Input, Does, Receives, Outcome}
use Rattle.law_machine.specs.Content.{replayed, ContentLaws}
use Rattle.law_machine.proofs.Lists.{at-same, at-other}
use Rattle.base.specs.Sets.{IsRising, same_list, roots, union, minus}
use Rattle.law_routing.specs.Theory.{Theory, TheoryLaws}
use Rattle.law_routing.specs.Net.{Net, PhasedCommand, Command, Subscribe, Unsubscribe, Advertise, Unadvertise, Publish, NetLaws}
use Rattle.law_routing.specs.Server.{Message, Subs, Advs, Noticed, ServerState, is_among, union_except, interfaces, needed, sent, sent_adverts, filter_change, advert_change, messages_to}
use Rattle.law_routing.specs.Step.{Task, NextCommand, TableUpdate, Work, SetsFilters, SetsAdverts, Routes, InstallsTable, Nothing, with_filters, with_adverts, with_command_executed, command_outcome, command_work, full_effect, effect, message_work, local_step}
use Rattle.law_routing.specs.Clients.{some_pass}
use Rattle.law_routing.specs.Routing.{routing_machine}
use Rattle.law_routing.specs.Tree.{StrictOrders}
use Rattle.law_routing.specs.Contents.{apply_filters, apply_adverts, filter_content, advert_content}
use Rattle.base.proofs.Sets.{update, same_list-equal, rising-union, rising-filter, rising-roots}
use Rattle.law_routing.proofs.Laws.{one-has, cond-some}
use Rattle.law_routing.proofs.Spreading.{reception_of, table_update}
use Rattle.law_routing.proofs.Listing.{has-one}

module _ (th : Theory) (orders : TheoryLaws th) (net : Net th) (numbered : NetLaws th net) where
  pub rising-gather : (sets : ℕ → List th.Filter) (l : ℕ) (is : List ℕ) → IsRising th.before (union_except th.before sets l is)
  rising-gather sets l [] = tt
  rising-gather sets l (i ∷ is) = go (i == l) (rising-gather sets l is)
    where
      go : (b : Bool) → IsRising th.before (union_except th.before sets l is) → IsRising th.before (cond b (union_except th.before sets l is) (union th.before (sets i) (union_except th.before sets l is)))
      go true r = r
      go false r = rising-union orders.filters (sets i) (union_except th.before sets l is) r

  rising-gather_ad : (sets : ℕ → List th.Advert) (l : ℕ) (is : List ℕ) → IsRising th.before_advert (union_except th.before_advert sets l is)
  rising-gather_ad sets l [] = tt
  rising-gather_ad sets l (i ∷ is) = go (i == l) (rising-gather_ad sets l is)
    where
      go : (b : Bool) → IsRising th.before_advert (union_except th.before_advert sets l is) → IsRising th.before_advert (cond b (union_except th.before_advert sets l is) (union th.before_advert (sets i) (union_except th.before_advert sets l is)))
      go true r = r
      go false r = rising-union orders.adverts (sets i) (union_except th.before_advert sets l is) r

  rising-sent : (s : ServerState th) (t l : ℕ) → IsRising th.before (sent th net s t l)
  rising-sent s t l = rising-roots orders.filters (needed th net s t l) (rising-filter orders.filters (λ f. not net.adverts || some_pass (th.overlaps f) (s.advs l)) (union_except th.before s.subs l (interfaces th net t)) (rising-gather s.subs l (interfaces th net t)))

  rising-sent_adverts : (s : ServerState th) (t l : ℕ) → IsRising th.before_advert (sent_adverts th net s t l)
  rising-sent_adverts s t l = go net.adverts
    where
      go : (b : Bool) → IsRising th.before_advert (cond b (roots th.covers_advert th.before_advert (union_except th.before_advert s.advs l (interfaces th net t))) [])
      go true = rising-roots orders.adverts (union_except th.before_advert s.advs l (interfaces th net t)) (rising-gather_ad s.advs l (interfaces th net t))
      go false = tt

  abbrev fold_subs : List th.Filter → List (Message th) → List th.Filter
  fold_subs = replayed (routing_machine th net) (filter_content th net)

  abbrev fold_advs : List th.Advert → List (Message th) → List th.Advert
  fold_advs = replayed (routing_machine th net) (advert_content th net)

  fold_subs-more : (x : List th.Filter) (xs ys : List (Message th)) → fold_subs x (xs ++ ys) ≡ fold_subs (fold_subs x xs) ys
  fold_subs-more x [] ys = refl
  fold_subs-more x (y ∷ xs) ys = fold_subs-more (apply_filters th net x y) xs ys

  fold_advs-more : (x : List th.Advert) (xs ys : List (Message th)) → fold_advs x (xs ++ ys) ≡ fold_advs (fold_advs x xs) ys
  fold_advs-more x [] ys = refl
  fold_advs-more x (y ∷ xs) ys = fold_advs-more (apply_adverts th net x y) xs ys

  -- a change brings the old set to the new one, and the other content's changes do nothing
  subs-change : (old new : List th.Filter) → IsRising th.before new → fold_subs old (filter_change th net old new) ≡ new
  subs-change old new r = go (same_list th.before old new) refl
    where
      go : (b : Bool) → same_list th.before old new ≡ b → fold_subs old (cond b [] (Subs (minus th.before old new) (minus th.before new old) ∷ [])) ≡ new
      go true e = same_list-equal orders.filters old new e
      go false e = update orders.filters old new r

  subs-change_adverts : (x : List th.Filter) (old new : List th.Advert) → fold_subs x (advert_change th net old new) ≡ x
  subs-change_adverts x old new = go (same_list th.before_advert old new)
    where
      go : (b : Bool) → fold_subs x (cond b [] (Advs (minus th.before_advert old new) (minus th.before_advert new old) ∷ [])) ≡ x
      go true = refl
      go false = refl

  advs-change_adverts : (old new : List th.Advert) → IsRising th.before_advert new → fold_advs old (advert_change th net old new) ≡ new
  advs-change_adverts old new r = go (same_list th.before_advert old new) refl
    where
      go : (b : Bool) → same_list th.before_advert old new ≡ b → fold_advs old (cond b [] (Advs (minus th.before_advert old new) (minus th.before_advert new old) ∷ [])) ≡ new
      go true e = same_list-equal orders.adverts old new e
      go false e = update orders.adverts old new r

  advs-change : (x : List th.Advert) (old new : List th.Filter) → fold_advs x (filter_change th net old new) ≡ x
  advs-change x old new = go (same_list th.before old new)
    where
      go : (b : Bool) → fold_advs x (cond b [] (Subs (minus th.before old new) (minus th.before new old) ∷ [])) ≡ x
      go true = refl
      go false = refl

  subs-differ : (s s' : ServerState th) (t v : ℕ) → fold_subs (sent th net s t v) (messages_to th net s s' t v) ≡ sent th net s' t v
  subs-differ s s' t v =
      fold_subs-more (sent th net s t v) (filter_change th net (sent th net s t v) (sent th net s' t v)) (advert_change th net (sent_adverts th net s t v) (sent_adverts th net s' t v))
      ∙ subs-change_adverts (fold_subs (sent th net s t v) (filter_change th net (sent th net s t v) (sent th net s' t v))) (sent_adverts th net s t v) (sent_adverts th net s' t v)
      ∙ subs-change (sent th net s t v) (sent th net s' t v) (rising-sent s' t v)

  advs-differ : (s s' : ServerState th) (t v : ℕ) → fold_advs (sent_adverts th net s t v) (messages_to th net s s' t v) ≡ sent_adverts th net s' t v
  advs-differ s s' t v =
      fold_advs-more (sent_adverts th net s t v) (filter_change th net (sent th net s t v) (sent th net s' t v)) (advert_change th net (sent_adverts th net s t v) (sent_adverts th net s' t v))
      ∙ ap (λ z. fold_advs z (advert_change th net (sent_adverts th net s t v) (sent_adverts th net s' t v))) (advs-change (sent_adverts th net s t v) (sent th net s t v) (sent th net s' t v))
      ∙ advs-change_adverts (sent_adverts th net s t v) (sent_adverts th net s' t v) (rising-sent_adverts s' t v)

  subs-wide : (t : ℕ) (s : ServerState th) (k : Work th) (v : ℕ) → fold_subs (sent th net s t v) ((full_effect th net t s k).outs v) ≡ sent th net (full_effect th net t s k).state t v
  subs-wide t s (SetsFilters i set) v = subs-differ s (with_filters th net s i set) t v
  subs-wide t s (SetsAdverts i set) v = subs-differ s (with_adverts th net s i set) t v
  subs-wide t s (Routes i p o n) v = go (not (v == i) && some_pass (th.matches n) (s.installed v))
    where
      go : (b : Bool) → fold_subs (sent th net s t v) (cond b (Noticed p o n ∷ []) []) ≡ sent th net s t v
      go true = refl
      go false = refl
  subs-wide t s InstallsTable v = refl
  subs-wide t s Nothing v = refl

  advs-wide : (t : ℕ) (s : ServerState th) (k : Work th) (v : ℕ) → fold_advs (sent_adverts th net s t v) ((full_effect th net t s k).outs v) ≡ sent_adverts th net (full_effect th net t s k).state t v
  advs-wide t s (SetsFilters i set) v = advs-differ s (with_filters th net s i set) t v
  advs-wide t s (SetsAdverts i set) v = advs-differ s (with_adverts th net s i set) t v
  advs-wide t s (Routes i p o n) v = go (not (v == i) && some_pass (th.matches n) (s.installed v))
    where
      go : (b : Bool) → fold_advs (sent_adverts th net s t v) (cond b (Noticed p o n ∷ []) []) ≡ sent_adverts th net s t v
      go true = refl
      go false = refl
  advs-wide t s InstallsTable v = refl
  advs-wide t s Nothing v = refl

  near-outs : (t : ℕ) (s : ServerState th) (k : Work th) (v : ℕ) → Has v (net.links t) → (effect th net t s k).outs v ≡ (full_effect th net t s k).outs v
  near-outs t s k v h = ap (λ z. cond z ((full_effect th net t s k).outs v) []) (has-one v (net.links t) h)

  -- what a possible step does
  pub record Did (t : ℕ) (s : ServerState th) (r : Outcome (ServerState th) (Message th)) : Type 0 where
    pub from : ServerState th
    pub work : Work th
    pub subs : from.subs ≡ s.subs
    pub advs : from.advs ≡ s.advs
    pub pending : from.pending ≡ s.pending
    pub installed : from.installed ≡ s.installed
    pub made : effect th net t from work ≡ r

  pub did : (t : ℕ) (s : ServerState th) (d : Input Task (Message th)) (r : Outcome (ServerState th) (Message th)) → StrictOrders th → local_step th net t s d ≡ Some r → Did t s r
  did t s (Receives u x) r strict e = record { from = s; work = message_work th net s u x; subs = refl; advs = refl; pending = refl; installed = refl; made = (reception_of th strict net t s u x r e).1 }
  did t s (Does TableUpdate) r strict e = record { from = s; work = InstallsTable; subs = refl; advs = refl; pending = refl; installed = refl; made = (table_update th strict net t s r e).1 }
  did t s (Does (NextCommand c)) r strict e = go (slice_get (net.script c) (s.done c)) (cond-some (is_among t net.servers) (is_among c (net.clients t)) (command_outcome th net t s c (slice_get (net.script c) (s.done c))) r e).2
    where
      go : (o : Option (PhasedCommand th)) → command_outcome th net t s c o ≡ Some r → Did t s r
      go None f = absurd cc
      go (Some x) f = record { from = with_command_executed th net s c; work = command_work th net c (s.done c) x.command; subs = refl; advs = refl; pending = refl; installed = refl; made = same_Some _ _ f }

  sent-by : (a b : ServerState th) (t v : ℕ) → a.subs ≡ b.subs → a.advs ≡ b.advs → sent th net a t v ≡ sent th net b t v
  sent-by a b t v p q = λ i. sent th net (record { subs = p i; advs = q i; installed = a.installed; pending = a.pending; done = a.done; inbox = a.inbox }) t v

  sent_adverts-by : (a b : ServerState th) (t v : ℕ) → a.subs ≡ b.subs → a.advs ≡ b.advs → sent_adverts th net a t v ≡ sent_adverts th net b t v
  sent_adverts-by a b t v p q = λ i. sent_adverts th net (record { subs = p i; advs = q i; installed = a.installed; pending = a.pending; done = a.done; inbox = a.inbox }) t v

  module _ (strict : StrictOrders th) where
    subs-puts : (t : ℕ) (s : ServerState th) (d : Input Task (Message th)) (r : Outcome (ServerState th) (Message th)) → local_step th net t s d ≡ Some r → (v : ℕ) → Has v (net.links t) → fold_subs (sent th net s t v) (r.outs v) ≡ sent th net r.state t v
    subs-puts t s d r e v h =
        let w = did t s d r strict e in
        subst (λ (z : Outcome (ServerState th) (Message th)). fold_subs (sent th net s t v) (z.outs v) ≡ sent th net z.state t v) w.made
        (ap (fold_subs (sent th net s t v)) (near-outs t w.from w.work v h) ∙ ap (λ z. fold_subs z ((full_effect th net t w.from w.work).outs v)) (sym (sent-by w.from s t v w.subs w.advs)) ∙ subs-wide t w.from w.work v)

    advs-puts : (t : ℕ) (s : ServerState th) (d : Input Task (Message th)) (r : Outcome (ServerState th) (Message th)) → local_step th net t s d ≡ Some r → (v : ℕ) → Has v (net.links t) → fold_advs (sent_adverts th net s t v) (r.outs v) ≡ sent_adverts th net r.state t v
    advs-puts t s d r e v h =
        let w = did t s d r strict e in
        subst (λ (z : Outcome (ServerState th) (Message th)). fold_advs (sent_adverts th net s t v) (z.outs v) ≡ sent_adverts th net z.state t v) w.made
        (ap (fold_advs (sent_adverts th net s t v)) (near-outs t w.from w.work v h) ∙ ap (λ z. fold_advs z ((full_effect th net t w.from w.work).outs v)) (sym (sent_adverts-by w.from s t v w.subs w.advs)) ∙ advs-wide t w.from w.work v)

    subs-takes : (t : ℕ) (s : ServerState th) (u : ℕ) (x : Message th) → (effect th net t s (message_work th net s u x)).state.subs u ≡ apply_filters th net (s.subs u) x
    subs-takes t s u (Subs out add) = at-same s.subs u (union th.before (minus th.before (s.subs u) out) add)
    subs-takes t s u (Advs out add) = refl
    subs-takes t s u (Noticed p o n) = refl

    advs-takes : (t : ℕ) (s : ServerState th) (u : ℕ) (x : Message th) → (effect th net t s (message_work th net s u x)).state.advs u ≡ apply_adverts th net (s.advs u) x
    advs-takes t s u (Subs out add) = refl
    advs-takes t s u (Advs out add) = at-same s.advs u (union th.before_advert (minus th.before_advert (s.advs u) out) add)
    advs-takes t s u (Noticed p o n) = refl

    subs-others : (t : ℕ) (s : ServerState th) (u : ℕ) (x : Message th) (v : ℕ) → (v ≡ u → ⊥) → (effect th net t s (message_work th net s u x)).state.subs v ≡ s.subs v
    subs-others t s u (Subs out add) v n = at-other s.subs u (union th.before (minus th.before (s.subs u) out) add) v n
    subs-others t s u (Advs out add) v n = refl
    subs-others t s u (Noticed p o k) v n = refl

    advs-others : (t : ℕ) (s : ServerState th) (u : ℕ) (x : Message th) (v : ℕ) → (v ≡ u → ⊥) → (effect th net t s (message_work th net s u x)).state.advs v ≡ s.advs v
    advs-others t s u (Subs out add) v n = refl
    advs-others t s u (Advs out add) v n = at-other s.advs u (union th.before_advert (minus th.before_advert (s.advs u) out) add) v n
    advs-others t s u (Noticed p o k) v n = refl

    -- a client's command touches its own interface alone
    next_work : (t : ℕ) (s : ServerState th) (c j : ℕ) (x : Command th) (v : ℕ) → (v ≡ 64 + c → ⊥) → ((effect th net t s (command_work th net c j x)).state.subs v ≡ s.subs v) × ((effect th net t s (command_work th net c j x)).state.advs v ≡ s.advs v)
    next_work t s c j (Subscribe f) v n = (at-other s.subs (64 + c) (Rattle.law_routing.specs.Clients.filters_after th [] (Rattle.std.specs.Prelude.take (suc j) (net.script c))) v n, refl)
    next_work t s c j (Unsubscribe f) v n = (at-other s.subs (64 + c) (Rattle.law_routing.specs.Clients.filters_after th [] (Rattle.std.specs.Prelude.take (suc j) (net.script c))) v n, refl)
    next_work t s c j (Advertise a) v n = go net.adverts
      where
        go : (b : Bool) → ((effect th net t s (cond b (SetsAdverts (64 + c) (Rattle.law_routing.specs.Clients.adverts_after th [] (Rattle.std.specs.Prelude.take (suc j) (net.script c)))) Nothing)).state.subs v ≡ s.subs v) × ((effect th net t s (cond b (SetsAdverts (64 + c) (Rattle.law_routing.specs.Clients.adverts_after th [] (Rattle.std.specs.Prelude.take (suc j) (net.script c)))) Nothing)).state.advs v ≡ s.advs v)
        go true = (refl, at-other s.advs (64 + c) (Rattle.law_routing.specs.Clients.adverts_after th [] (Rattle.std.specs.Prelude.take (suc j) (net.script c))) v n)
        go false = (refl, refl)
    next_work t s c j (Unadvertise a) v n = go net.adverts
      where
        go : (b : Bool) → ((effect th net t s (cond b (SetsAdverts (64 + c) (Rattle.law_routing.specs.Clients.adverts_after th [] (Rattle.std.specs.Prelude.take (suc j) (net.script c)))) Nothing)).state.subs v ≡ s.subs v) × ((effect th net t s (cond b (SetsAdverts (64 + c) (Rattle.law_routing.specs.Clients.adverts_after th [] (Rattle.std.specs.Prelude.take (suc j) (net.script c)))) Nothing)).state.advs v ≡ s.advs v)
        go true = (refl, at-other s.advs (64 + c) (Rattle.law_routing.specs.Clients.adverts_after th [] (Rattle.std.specs.Prelude.take (suc j) (net.script c))) v n)
        go false = (refl, refl)
    next_work t s c j (Publish k) v n = go (not net.adverts || some_pass (λ a. th.allows a k) (Rattle.law_routing.specs.Clients.adverts_after th [] (Rattle.std.specs.Prelude.take j (net.script c))))
      where
        go : (b : Bool) → ((effect th net t s (cond b (Routes (64 + c) c (Rattle.law_routing.specs.Clients.ordinal th (Rattle.std.specs.Prelude.take (suc j) (net.script c))) k) Nothing)).state.subs v ≡ s.subs v) × ((effect th net t s (cond b (Routes (64 + c) c (Rattle.law_routing.specs.Clients.ordinal th (Rattle.std.specs.Prelude.take (suc j) (net.script c))) k) Nothing)).state.advs v ≡ s.advs v)
        go true = (refl, refl)
        go false = (refl, refl)

    own : (t : ℕ) (s : ServerState th) (a : Task) (r : Outcome (ServerState th) (Message th)) → local_step th net t s (Does a) ≡ Some r → (v : ℕ) → Has v (net.links t) → (r.state.subs v ≡ s.subs v) × (r.state.advs v ≡ s.advs v)
    own t s TableUpdate r e v h = subst (λ (z : Outcome (ServerState th) (Message th)). (z.state.subs v ≡ s.subs v) × (z.state.advs v ≡ s.advs v)) (table_update th strict net t s r e).1 (refl, refl)
    own t s (NextCommand c) r e v h =
        let f = cond-some (is_among t net.servers) (is_among c (net.clients t)) (command_outcome th net t s c (slice_get (net.script c) (s.done c))) r e in
        go (slice_get (net.script c) (s.done c)) (one-has c (net.clients t) f.1) f.2
      where
        go : (o : Option (PhasedCommand th)) → Has c (net.clients t) → command_outcome th net t s c o ≡ Some r → (r.state.subs v ≡ s.subs v) × (r.state.advs v ≡ s.advs v)
        go None i f = absurd cc
        go (Some x) i f = subst (λ (z : Outcome (ServerState th) (Message th)). (z.state.subs v ≡ s.subs v) × (z.state.advs v ≡ s.advs v)) (same_Some _ _ f) (next_work t (with_command_executed th net s c) c (s.done c) x.command v (λ q. omega (arith, q, numbered.small t v h, numbered.counted t c i)))

    pub subs-laws : ContentLaws (routing_machine th net) (filter_content th net)
    subs-laws = record {
      puts = subs-puts;
      takes = λ t s u x r e. subst (λ (z : Outcome (ServerState th) (Message th)). z.state.subs u ≡ apply_filters th net (s.subs u) x) (reception_of th strict net t s u x r e).1 (subs-takes t s u x);
      others = λ t s u x r e v h n. subst (λ (z : Outcome (ServerState th) (Message th)). z.state.subs v ≡ s.subs v) (reception_of th strict net t s u x r e).1 (subs-others t s u x v n);
      own = λ t s a r e v h. (own t s a r e v h).0;
    }

    pub advs-laws : ContentLaws (routing_machine th net) (advert_content th net)
    advs-laws = record {
      puts = advs-puts;
      takes = λ t s u x r e. subst (λ (z : Outcome (ServerState th) (Message th)). z.state.advs u ≡ apply_adverts th net (s.advs u) x) (reception_of th strict net t s u x r e).1 (advs-takes t s u x);
      others = λ t s u x r e v h n. subst (λ (z : Outcome (ServerState th) (Message th)). z.state.advs v ≡ s.advs v) (reception_of th strict net t s u x r e).1 (advs-others t s u x v n);
      own = λ t s a r e v h. (own t s a r e v h).1;
    }
