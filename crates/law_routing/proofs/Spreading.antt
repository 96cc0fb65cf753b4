-- Proves how far the messages of the servers spread.
use Rattle.std.proofs.Common.{◌≡◌, ℕ, suc, ◌+◌, ◌-◌, ◌≤◌, ◌<◌, ◌==◌, Bool, true, false, cond, not, ◌&&◌, ◌||◌, List, [], ◌∷◌, ◌++◌, inl, inr, length, filter, slice_get, Option, Some, None, refl, sym, ap, subst, ◌∙◌, arith, eq-eqb, append-nil}
use Rattle.law_machine.specs.Machine.{Has, Input, Does, Receives, Outcome, at}
use Rattle.law_machine.specs.Load.{MeasureLaws}
use Rattle.base.specs.Numbers.{sum_over, IsDistinct}
use Rattle.std.proofs.lemmas.Option.{slice_get_within, same_Some}
use Rattle.law_machine.proofs.Bound.{sum-le, sum-same, sum-only, only}
use Rattle.law_machine.proofs.Lists.{Same, Is, Not, compare, at-other}
use Rattle.base.specs.Sets.{same, same_list, roots, union}
use Rattle.law_routing.specs.Theory.{Theory}
use Rattle.law_routing.specs.Net.{Net, PhasedCommand}
use Rattle.law_routing.specs.Server.{Message, Subs, Advs, Noticed, ServerState, is_among, union_except, interfaces, sent, sent_adverts, filter_change, advert_change}
use Rattle.law_routing.specs.Step.{Task, NextCommand, TableUpdate, Work, SetsFilters, SetsAdverts, Routes, InstallsTable, Nothing, with_filters, with_adverts, with_command_executed, command_outcome, command_work, full_effect, effect, message_work, local_step}
use Rattle.law_routing.specs.Clients.{some_pass}
use Rattle.law_routing.specs.Routing.{routing_machine, is_advert_message, is_update, commands_left, measure, narrow_measure}
use Rattle.law_routing.specs.Tree.{IsTreeBySizes, StrictOrders}
use Rattle.law_routing.proofs.Laws.{one-has, cond-some, machine-laws}
use Rattle.base.proofs.Numbers.{sum_over-zero}

same_list-self : {T : Type 0} (before : T → T → Bool) → ((x : T) → before x x ≡ false) → (xs : List T) → same_list before xs xs ≡ true
same_list-self before n [] = refl
same_list-self before n (x ∷ xs) = rw (n x, same_list-self before n xs) refl

pub gather-at : {T : Type 0} (before : T → T → Bool) (sets : ℕ → List T) (u : ℕ) (set : List T) (is : List ℕ) → union_except before (at sets u set) u is ≡ union_except before sets u is
gather-at before sets u set [] = refl
gather-at before sets u set (i ∷ is) = go (compare i u) (gather-at before sets u set is)
  where
    go : Same i u → union_except before (at sets u set) u is ≡ union_except before sets u is → union_except before (at sets u set) u (i ∷ is) ≡ union_except before sets u (i ∷ is)
    go (Is e v) ih = rw v ih
    go (Not n v) ih = rw v (ap (λ z. union before (sets i) z) ih)

module _ (th : Theory) (strict : StrictOrders th) (net : Net th) where
  change-same : (old new : List th.Filter) → old ≡ new → filter_change th net old new ≡ []
  change-same old new e = subst (λ z. filter_change th net old z ≡ []) e (rw (same_list-self th.before strict.filters old) refl)

  change_adverts-same : (old new : List th.Advert) → old ≡ new → advert_change th net old new ≡ []
  change_adverts-same old new e = subst (λ z. advert_change th net old z ≡ []) e (rw (same_list-self th.before_advert strict.adverts old) refl)

  change-one : (old new : List th.Filter) → length (filter_change th net old new) ≤ 1
  change-one old new = go (same_list th.before old new)
    where
      go : (b : Bool) → length {A = Message th} (cond b [] (Subs (Rattle.base.specs.Sets.minus th.before old new) (Rattle.base.specs.Sets.minus th.before new old) ∷ [])) ≤ 1
      go true = omega arith
      go false = omega arith

  change_adverts-one : (old new : List th.Advert) → length (advert_change th net old new) ≤ 1
  change_adverts-one old new = go (same_list th.before_advert old new)
    where
      go : (b : Bool) → length {A = Message th} (cond b [] (Advs (Rattle.base.specs.Sets.minus th.before_advert old new) (Rattle.base.specs.Sets.minus th.before_advert new old) ∷ [])) ≤ 1
      go true = omega arith
      go false = omega arith

  change-plain : (old new : List th.Filter) (y : Message th) → Has y (filter_change th net old new) → is_advert_message th net y ≡ false
  change-plain old new y h = go (same_list th.before old new) h
    where
      go : (b : Bool) → Has y (cond b [] (Subs (Rattle.base.specs.Sets.minus th.before old new) (Rattle.base.specs.Sets.minus th.before new old) ∷ [])) → is_advert_message th net y ≡ false
      go true h = absurd h
      go false h = elim h [ inl e ↦ ap (is_advert_message th net) e | inr n ↦ absurd n ]

  module _ (t : ℕ) (s : ServerState th) where
    -- a changed set of filters changes nothing of what is sent of advertisements
    subs-outs : (i : ℕ) (set : List th.Filter) (v : ℕ) → (full_effect th net t s (SetsFilters i set)).outs v ≡ filter_change th net (sent th net s t v) (sent th net (with_filters th net s i set) t v)
    subs-outs i set v = ap (λ z. filter_change th net (sent th net s t v) (sent th net (with_filters th net s i set) t v) ++ z) (change_adverts-same (sent_adverts th net s t v) (sent_adverts th net (with_filters th net s i set) t v) refl) ∙ append-nil (filter_change th net (sent th net s t v) (sent th net (with_filters th net s i set) t v))

    -- and nothing towards its own interface
    subs-back : (i : ℕ) (set : List th.Filter) → (full_effect th net t s (SetsFilters i set)).outs i ≡ []
    subs-back i set = subs-outs i set i ∙ change-same (sent th net s t i) (sent th net (with_filters th net s i set) t i)
        (ap (λ z. roots th.covers th.before (filter (λ f. not net.adverts || some_pass (th.overlaps f) (s.advs i)) z)) (sym (gather-at th.before s.subs i set (interfaces th net t))))

    -- a changed set of advertisements: towards its own interface filters, elsewhere advertisements
    advs-back : (i : ℕ) (set : List th.Advert) → (full_effect th net t s (SetsAdverts i set)).outs i ≡ filter_change th net (sent th net s t i) (sent th net (with_adverts th net s i set) t i)
    advs-back i set = ap (λ z. filter_change th net (sent th net s t i) (sent th net (with_adverts th net s i set) t i) ++ z)
        (change_adverts-same (sent_adverts th net s t i) (sent_adverts th net (with_adverts th net s i set) t i) (ap (λ z. cond net.adverts (roots th.covers_advert th.before_advert z) []) (sym (gather-at th.before_advert s.advs i set (interfaces th net t))))) ∙ append-nil (filter_change th net (sent th net s t i) (sent th net (with_adverts th net s i set) t i))

    advs-on : (i : ℕ) (set : List th.Advert) (v : ℕ) → (v ≡ i → ⊥) → (full_effect th net t s (SetsAdverts i set)).outs v ≡ advert_change th net (sent_adverts th net s t v) (sent_adverts th net (with_adverts th net s i set) t v)
    advs-on i set v n = ap (λ z. z ++ advert_change th net (sent_adverts th net s t v) (sent_adverts th net (with_adverts th net s i set) t v))
        (change-same (sent th net s t v) (sent th net (with_adverts th net s i set) t v)
        (ap (λ z. roots th.covers th.before (filter (λ f. not net.adverts || some_pass (th.overlaps f) z) (union_except th.before s.subs v (interfaces th net t)))) (sym (at-other s.advs i set v n))))

    wide-one : (k : Work th) (v : ℕ) → length ((full_effect th net t s k).outs v) ≤ 1
    wide-one (SetsFilters i set) v = omega (arith, ap length (subs-outs i set v), change-one (sent th net s t v) (sent th net (with_filters th net s i set) t v))
    wide-one (SetsAdverts i set) v = go (compare v i)
      where
        go : Same v i → length ((full_effect th net t s (SetsAdverts i set)).outs v) ≤ 1
        go (Is p q) = subst (λ z. length ((full_effect th net t s (SetsAdverts i set)).outs z) ≤ 1) (sym p) (omega (arith, ap length (advs-back i set), change-one (sent th net s t i) (sent th net (with_adverts th net s i set) t i)))
        go (Not n q) = omega (arith, ap length (advs-on i set v n), change_adverts-one (sent_adverts th net s t v) (sent_adverts th net (with_adverts th net s i set) t v))
    wide-one (Routes i p o n) v = go (not (v == i) && some_pass (th.matches n) (s.installed v))
      where
        go : (b : Bool) → length {A = Message th} (cond b (Noticed p o n ∷ []) []) ≤ 1
        go true = omega arith
        go false = omega arith
    wide-one InstallsTable v = omega arith
    wide-one Nothing v = omega arith

    -- a message received from u
    wide-back : (u : ℕ) (x : Message th) → is_advert_message th net x ≡ false → (full_effect th net t s (message_work th net s u x)).outs u ≡ []
    wide-back u (Subs out add) e = subs-back u (Rattle.base.specs.Sets.union th.before (Rattle.base.specs.Sets.minus th.before (s.subs u) out) add)
    wide-back u (Advs out add) e = absurd cc
    wide-back u (Noticed p o n) e = rw (eq-eqb u u refl) refl

    wide-plain : (u : ℕ) (x : Message th) → is_advert_message th net x ≡ false → (v : ℕ) (y : Message th) → Has y ((full_effect th net t s (message_work th net s u x)).outs v) → is_advert_message th net y ≡ false
    wide-plain u (Subs out add) e v y h =
        let set = Rattle.base.specs.Sets.union th.before (Rattle.base.specs.Sets.minus th.before (s.subs u) out) add in
        change-plain (sent th net s t v) (sent th net (with_filters th net s u set) t v) y (subst (Has y) (subs-outs u set v) h)
    wide-plain u (Advs out add) e v y h = absurd cc
    wide-plain u (Noticed p o n) e v y h = go (not (v == u) && some_pass (th.matches n) (s.installed v)) h
      where
        go : (b : Bool) → Has y (cond b (Noticed p o n ∷ []) []) → is_advert_message th net y ≡ false
        go true h = elim h [ inl q ↦ ap (is_advert_message th net) q | inr z ↦ absurd z ]
        go false h = absurd h

    wide-back_plain : (u : ℕ) (x : Message th) (y : Message th) → Has y ((full_effect th net t s (message_work th net s u x)).outs u) → is_advert_message th net y ≡ false
    wide-back_plain u (Subs out add) y h = wide-plain u (Subs out add) refl u y h
    wide-back_plain u (Advs out add) y h =
        let set = Rattle.base.specs.Sets.union th.before_advert (Rattle.base.specs.Sets.minus th.before_advert (s.advs u) out) add in
        change-plain (sent th net s t u) (sent th net (with_adverts th net s u set) t u) y (subst (Has y) (advs-back u set) h)
    wide-back_plain u (Noticed p o n) y h = wide-plain u (Noticed p o n) refl u y h

    near : (P : List (Message th) → Type 0) → P [] → (xs : List (Message th)) → P xs → (b : Bool) → P (cond b xs [])
    near P p xs q true = q
    near P p xs q false = p

    effect-one : (k : Work th) (v : ℕ) → length ((effect th net t s k).outs v) ≤ 1
    effect-one k v = near (λ z. length z ≤ 1) (omega arith) ((full_effect th net t s k).outs v) (wide-one k v) (is_among v (net.links t))

    back : (u : ℕ) (x : Message th) → is_advert_message th net x ≡ false → (effect th net t s (message_work th net s u x)).outs u ≡ []
    back u x e = near (λ z. z ≡ []) refl ((full_effect th net t s (message_work th net s u x)).outs u) (wide-back u x e) (is_among u (net.links t))

    plain : (u : ℕ) (x : Message th) → is_advert_message th net x ≡ false → (v : ℕ) (y : Message th) → Has y ((effect th net t s (message_work th net s u x)).outs v) → is_advert_message th net y ≡ false
    plain u x e v y = near (λ z. Has y z → is_advert_message th net y ≡ false) (λ h. absurd h) ((full_effect th net t s (message_work th net s u x)).outs v) (wide-plain u x e v y) (is_among v (net.links t))

    back_plain : (u : ℕ) (x : Message th) (y : Message th) → Has y ((effect th net t s (message_work th net s u x)).outs u) → is_advert_message th net y ≡ false
    back_plain u x y = near (λ z. Has y z → is_advert_message th net y ≡ false) (λ h. absurd h) ((full_effect th net t s (message_work th net s u x)).outs u) (wide-back_plain u x y) (is_among u (net.links t))

  pub reception_of : (t : ℕ) (s : ServerState th) (u : ℕ) (x : Message th) (r : Outcome (ServerState th) (Message th)) → local_step th net t s (Receives u x) ≡ Some r → Has u (net.links t) × (effect th net t s (message_work th net s u x) ≡ r)
  reception_of t s u x r e =
      let c = cond-some (is_among t net.servers) (is_among u (net.links t)) (Some (effect th net t s (message_work th net s u x))) r e in
      (one-has u (net.links t) c.1, same_Some _ _ c.2)

  pub table_update : (t : ℕ) (s : ServerState th) (r : Outcome (ServerState th) (Message th)) → local_step th net t s (Does TableUpdate) ≡ Some r → (s.pending ≡ true) × (effect th net t s InstallsTable ≡ r)
  table_update t s r e =
      let c = cond-some (is_among t net.servers) s.pending (Some (effect th net t s InstallsTable)) r e in
      (c.1, same_Some _ _ c.2)

  pub one : (t : ℕ) (s : ServerState th) (d : Input Task (Message th)) (r : Outcome (ServerState th) (Message th)) → local_step th net t s d ≡ Some r → (v : ℕ) → length (r.outs v) ≤ 1
  one t s (Receives u x) r e v = subst (λ (z : Outcome (ServerState th) (Message th)). length (z.outs v) ≤ 1) (reception_of t s u x r e).1 (effect-one t s (message_work th net s u x) v)
  one t s (Does TableUpdate) r e v = subst (λ (z : Outcome (ServerState th) (Message th)). length (z.outs v) ≤ 1) (table_update t s r e).1 (effect-one t s InstallsTable v)
  one t s (Does (NextCommand c)) r e v = go (slice_get (net.script c) (s.done c)) (cond-some (is_among t net.servers) (is_among c (net.clients t)) (command_outcome th net t s c (slice_get (net.script c) (s.done c))) r e).2
    where
      go : (o : Option (PhasedCommand th)) → command_outcome th net t s c o ≡ Some r → length (r.outs v) ≤ 1
      go None f = absurd cc
      go (Some x) f = subst (λ (z : Outcome (ServerState th) (Message th)). length (z.outs v) ≤ 1) (same_Some _ _ f) (effect-one t (with_command_executed th net s c) (command_work th net c (s.done c) x.command) v)

  silent : (t : ℕ) (s : ServerState th) (a : Task) (r : Outcome (ServerState th) (Message th)) → local_step th net t s (Does a) ≡ Some r → is_update th net a ≡ true → (v : ℕ) → r.outs v ≡ []
  silent t s (NextCommand c) r e f v = absurd cc
  silent t s TableUpdate r e f v = subst (λ (z : Outcome (ServerState th) (Message th)). z.outs v ≡ []) (table_update t s r e).1 (near t s (λ z. z ≡ []) refl [] refl (is_among v (net.links t)))

  clears : (t : ℕ) (s : ServerState th) (a : Task) (r : Outcome (ServerState th) (Message th)) → local_step th net t s (Does a) ≡ Some r → is_update th net a ≡ true → (s.pending ≡ true) × (r.state.pending ≡ false)
  clears t s (NextCommand c) r e f = absurd cc
  clears t s TableUpdate r e f = ((table_update t s r e).0, subst (λ (z : Outcome (ServerState th) (Message th)). z.state.pending ≡ false) (table_update t s r e).1 refl)

  pub done-same : (t : ℕ) (s : ServerState th) (k : Work th) → (effect th net t s k).state.done ≡ s.done
  done-same t s (SetsFilters i set) = refl
  done-same t s (SetsAdverts i set) = refl
  done-same t s (Routes i p o n) = refl
  done-same t s InstallsTable = refl
  done-same t s Nothing = refl

  commanding : (t : ℕ) (s : ServerState th) (c : ℕ) (r : Outcome (ServerState th) (Message th)) → local_step th net t s (Does (NextCommand c)) ≡ Some r → Has c (net.clients t) × (s.done c < length (net.script c)) × (r.state.done ≡ at s.done c (suc (s.done c)))
  commanding t s c r e =
      let f = cond-some (is_among t net.servers) (is_among c (net.clients t)) (command_outcome th net t s c (slice_get (net.script c) (s.done c))) r e in
      go (slice_get (net.script c) (s.done c)) refl (one-has c (net.clients t) f.1) f.2
    where
      go : (o : Option (PhasedCommand th)) → slice_get (net.script c) (s.done c) ≡ o → Has c (net.clients t) → command_outcome th net t s c o ≡ Some r → Has c (net.clients t) × (s.done c < length (net.script c)) × (r.state.done ≡ at s.done c (suc (s.done c)))
      go None q h f = absurd cc
      go (Some x) q h f = (h, slice_get_within (net.script c) (s.done c) x q, subst (λ (z : Outcome (ServerState th) (Message th)). z.state.done ≡ at s.done c (suc (s.done c))) (same_Some _ _ f) (done-same t (with_command_executed th net s c) (command_work th net c (s.done c) x.command)))

  uses : ((t : ℕ) → IsDistinct (net.clients t)) → (t : ℕ) (s : ServerState th) (a : Task) (r : Outcome (ServerState th) (Message th)) → local_step th net t s (Does a) ≡ Some r → is_update th net a ≡ false → suc (commands_left th net t r.state) ≤ commands_left th net t s
  uses housed t s TableUpdate r e f = absurd cc
  uses housed t s (NextCommand c) r e f =
      let g = commanding t s c r e in
      omega (arith, sum-le (λ x. length (net.script x) - r.state.done x) (only c 1) (λ x. length (net.script x) - s.done x) (λ x. 0) (net.clients t) (λ x h. each x g.1 (compare x c) (ap (λ z. z x) g.2)), sum-only c 1 (net.clients t) g.0, sum_over-zero (net.clients t))
    where
      each : (x : ℕ) → s.done c < length (net.script c) → Same x c → r.state.done x ≡ at s.done c (suc (s.done c)) x → (length (net.script x) - r.state.done x) + only c 1 x ≤ (length (net.script x) - s.done x) + 0
      each x l (Is p v) q =
          let now : r.state.done x ≡ suc (s.done c) = rw v at q in
          rw v (omega (arith, subst (λ z. s.done z < length (net.script z)) (sym p) l, now, ap s.done p))
      each x l (Not n v) q =
          let now : r.state.done x ≡ s.done x = rw v at q in
          rw v (omega (arith, now))

  keeps : (t : ℕ) (s : ServerState th) (d : Input Task (Message th)) (r : Outcome (ServerState th) (Message th)) → local_step th net t s d ≡ Some r → commands_left th net t r.state ≤ commands_left th net t s
  keeps t s (Receives u x) r e = same ((effect th net t s (message_work th net s u x)).state.done) (done-same t s (message_work th net s u x))
    where
      same : (f : ℕ → ℕ) → f ≡ s.done → commands_left th net t r.state ≤ commands_left th net t s
      same f q = omega (arith, ap (λ (z : ℕ → ℕ). sum_over (λ c. length (net.script c) - z c) (net.clients t)) (ap (λ (z : Outcome (ServerState th) (Message th)). z.state.done) (sym (reception_of t s u x r e).1) ∙ done-same t s (message_work th net s u x)))
  keeps t s (Does TableUpdate) r e = omega (arith, ap (λ (z : Outcome (ServerState th) (Message th)). commands_left th net t z.state) (table_update t s r e).1)
  keeps t s (Does (NextCommand c)) r e =
      let g = commanding t s c r e in
      sum-same (λ x. length (net.script x) - r.state.done x) (λ x. length (net.script x) - s.done x) (net.clients t) (λ x h. each x (compare x c) (ap (λ z. z x) g.2))
    where
      each : (x : ℕ) → Same x c → r.state.done x ≡ at s.done c (suc (s.done c)) x → length (net.script x) - r.state.done x ≤ length (net.script x) - s.done x
      each x (Is p v) q =
          let now : r.state.done x ≡ suc (s.done c) = rw v at q in
          omega (arith, now, ap s.done p)
      each x (Not n v) q =
          let now : r.state.done x ≡ s.done x = rw v at q in
          omega (arith, now)

  pub spreads : (size : ℕ → ℕ → ℕ) → ((t : ℕ) → IsDistinct (net.clients t)) → IsTreeBySizes net.servers net.links size → MeasureLaws (routing_machine th net) (measure th net size)
  spreads size housed tree = record {
    distinct = tree.distinct;
    single = tree.single;
    linked = tree.linked;
    both = tree.both;
    apart = tree.apart;
    weighs = tree.weighs;
    total = tree.total;
    among = (machine-laws th net).among;
    one = λ t s d r e v h. one t s d r e v;
    from = λ t s u x r e. (reception_of t s u x r e).0;
    silent = silent;
    back = λ t s u x r e f. subst (λ (z : Outcome (ServerState th) (Message th)). z.outs u ≡ []) (reception_of t s u x r e).1 (back t s u x f);
    plain = λ t s u x r e f v y. subst (λ (z : Outcome (ServerState th) (Message th)). Has y (z.outs v) → is_advert_message th net y ≡ false) (reception_of t s u x r e).1 (plain t s u x f v y);
    back_plain = λ t s u x r e y. subst (λ (z : Outcome (ServerState th) (Message th)). Has y (z.outs u) → is_advert_message th net y ≡ false) (reception_of t s u x r e).1 (back_plain t s u x y);
    clears = clears;
    uses = uses housed;
    keeps = keeps;
  }

  -- under subscription semantics no message makes one back
  module _ (plain-net : net.adverts ≡ false) where
    sent-alike : (t : ℕ) (s : ServerState th) (u : ℕ) (set : List th.Advert) → sent th net s t u ≡ sent th net (with_adverts th net s u set) t u
    sent-alike t s u set =
        ap (λ (b : Bool). roots th.covers th.before (filter (λ f. not b || some_pass (th.overlaps f) (s.advs u)) (union_except th.before s.subs u (interfaces th net t)))) plain-net
        ∙ sym (ap (λ (b : Bool). roots th.covers th.before (filter (λ f. not b || some_pass (th.overlaps f) (at s.advs u set u)) (union_except th.before s.subs u (interfaces th net t)))) plain-net)

    wide-none-back : (t : ℕ) (s : ServerState th) (u : ℕ) (x : Message th) → (full_effect th net t s (message_work th net s u x)).outs u ≡ []
    wide-none-back t s u (Subs out add) = wide-back t s u (Subs out add) refl
    wide-none-back t s u (Advs out add) =
        let set = Rattle.base.specs.Sets.union th.before_advert (Rattle.base.specs.Sets.minus th.before_advert (s.advs u) out) add in
        advs-back t s u set ∙ change-same (sent th net s t u) (sent th net (with_adverts th net s u set) t u) (sent-alike t s u set)
    wide-none-back t s u (Noticed p o n) = wide-back t s u (Noticed p o n) refl

    none-back : (t : ℕ) (s : ServerState th) (u : ℕ) (x : Message th) → (effect th net t s (message_work th net s u x)).outs u ≡ []
    none-back t s u x = near t s (λ z. z ≡ []) refl ((full_effect th net t s (message_work th net s u x)).outs u) (wide-none-back t s u x) (is_among u (net.links t))

    pub spreads-narrow : (size : ℕ → ℕ → ℕ) → ((t : ℕ) → IsDistinct (net.clients t)) → IsTreeBySizes net.servers net.links size → MeasureLaws (routing_machine th net) (narrow_measure th net size)
    spreads-narrow size housed tree = record {
      distinct = tree.distinct;
      single = tree.single;
      linked = tree.linked;
      both = tree.both;
      apart = tree.apart;
      weighs = tree.weighs;
      total = tree.total;
      among = (machine-laws th net).among;
      one = λ t s d r e v h. one t s d r e v;
      from = λ t s u x r e. (reception_of t s u x r e).0;
      silent = silent;
      back = λ t s u x r e f. subst (λ (z : Outcome (ServerState th) (Message th)). z.outs u ≡ []) (reception_of t s u x r e).1 (none-back t s u x);
      plain = λ t s u x r e f v y h. refl;
      back_plain = λ t s u x r e y h. refl;
      clears = clears;
      uses = uses housed;
      keeps = keeps;
    }
