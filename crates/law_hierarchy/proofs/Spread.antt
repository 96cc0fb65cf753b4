-- How far messages spread in a hierarchy, what is sent and held on its links, and the bounds of its runs.
use Rattle.std.proofs.Common.{◌≡◌, ℕ, zero, suc, ◌+◌, ◌*◌, ◌-◌, ◌≤◌, ◌<◌, ◌==◌, Bool, true, false, cond, not, ◌&&◌, ◌||◌, List, [], ◌∷◌, ◌++◌, ◌⊎◌, inl, inr, length, drop, slice_get, Option, Some, None, refl, sym, ap, subst, ◌∙◌, arith, eq-eqb, ne_eqb, mul-le-mul_right}
use Rattle.base.specs.Sets.{Has, roots, same_list, minus, union, IsRising}
use Rattle.base.specs.Numbers.{sum_over, count}
use Rattle.base.proofs.Sets.{update, same_list-equal, same_list-self, rising-roots}
use Rattle.base_tree.specs.Hops.{side_size}
use Rattle.law_machine.specs.Machine.{Input, Does, Receives, Outcome, at}
use Rattle.law_machine.specs.Content.{ContentLaws, replayed}
use Rattle.law_machine.specs.Load.{MeasureLaws, load, pending_count, remaining, commands}
use Rattle.law_machine.proofs.Lists.{Same, Is, Not, compare, at-same, at-other}
use Rattle.law_machine.proofs.Runs.{bound, counted, within-left}
use Rattle.law_machine.proofs.Stamps.{run-stamps}
use Rattle.law_routing.specs.Theory.{Theory, TheoryLaws}
use Rattle.law_routing.specs.Net.{Net, NetLaws, Command, Subscribe, Unsubscribe, Advertise, Unadvertise, Publish}
use Rattle.law_routing.specs.Clients.{some_pass, accepts, adverts_after}
use Rattle.law_routing.specs.Contents.{apply_filters}
use Rattle.law_routing.specs.Server.{Message, Subs, Advs, Noticed, ServerState, is_among, union_except, interfaces, filter_change}
use Rattle.law_routing.specs.Step.{Task, NextCommand, TableUpdate, Work, SetsFilters, SetsAdverts, Routes, InstallsTable, Nothing, with_filters, with_command_executed, command_work, message_work}
use Rattle.law_routing.specs.Step.{local_step as peer_step, effect as peer_effect}
use Rattle.law_routing.specs.Routing.{is_advert_message, is_update, commands_left, all_commands}
use Rattle.law_routing.specs.Routing.{measure as peer_measure, routing_machine}
use Rattle.law_routing.proofs.Along.{strict-of, tree}
use Rattle.law_routing.proofs.Listing.{has-one}
use Rattle.law_routing.proofs.Spreading.{spreads, done-same, gather-at}
use Rattle.law_routing.proofs.Total.{all-zero}
use Rattle.law_hierarchy.specs.Masters.{top, master, is_master, up}
use Rattle.law_hierarchy.specs.Step.{full_effect, effect, local_step, hierarchy_machine, opening, measure}
use Rattle.law_hierarchy.specs.Content.{sent_up, filter_content}
use Rattle.law_hierarchy.specs.HierarchyRun.{HierarchyRun, IsBounded}
use Rattle.law_hierarchy.proofs.Shadow.{gather-rising}
use Rattle.law_hierarchy.proofs.Local.{served, commands as commanded, takes, publishes, machine-laws}

near : {X : Type 0} (P : List X → Type 0) → P [] → (xs : List X) → P xs → (b : Bool) → P (cond b xs [])
near P p xs q true = q
near P p xs q false = p

module _ (th : Theory) (laws : TheoryLaws th) (net : Net th) where
  abbrev change : List th.Filter → List th.Filter → List (Message th)
  change old new = filter_change th net old new

  abbrev notice-if : Bool → ℕ → ℕ → th.Notice → List (Message th)
  notice-if b p o n = cond b (Noticed p o n ∷ []) []

  change-one : (old new : List th.Filter) → length (change old new) ≤ 1
  change-one old new = go (same_list th.before old new)
    where
      go : (b : Bool) → length {A = Message th} (cond b [] (Subs (minus th.before old new) (minus th.before new old) ∷ [])) ≤ 1
      go true = omega arith
      go false = omega arith

  change-plain : (old new : List th.Filter) (y : Message th) → Has y (change old new) → is_advert_message th net y ≡ false
  change-plain old new y h = go (same_list th.before old new) h
    where
      go : (b : Bool) → Has y (cond b [] (Subs (minus th.before old new) (minus th.before new old) ∷ [])) → is_advert_message th net y ≡ false
      go true h = absurd h
      go false h = elim h [ inl e ↦ ap (is_advert_message th net) e | inr n ↦ absurd n ]

  change-makes : (old new : List th.Filter) → IsRising th.before new → replayed (hierarchy_machine th net) (filter_content th net) old (change old new) ≡ new
  change-makes old new r = go (same_list th.before old new) refl
    where
      go : (b : Bool) → same_list th.before old new ≡ b → replayed (hierarchy_machine th net) (filter_content th net) old (cond b [] (Subs (minus th.before old new) (minus th.before new old) ∷ [])) ≡ new
      go true e = same_list-equal laws.filters old new e
      go false e = update laws.filters old new r

  notice-one : (b : Bool) (p o : ℕ) (n : th.Notice) → length (notice-if b p o n) ≤ 1
  notice-one true p o n = omega arith
  notice-one false p o n = omega arith

  notice-plain : (b : Bool) (p o : ℕ) (n : th.Notice) (y : Message th) → Has y (notice-if b p o n) → is_advert_message th net y ≡ false
  notice-plain true p o n y h = elim h [ inl e ↦ ap (is_advert_message th net) e | inr n ↦ absurd n ]
  notice-plain false p o n y h = absurd h

  notice-makes : (b : Bool) (p o : ℕ) (n : th.Notice) (x : List th.Filter) → replayed (hierarchy_machine th net) (filter_content th net) x (notice-if b p o n) ≡ x
  notice-makes true p o n x = refl
  notice-makes false p o n x = refl

  rising-up : (s : ServerState th) (t : ℕ) → IsRising th.before (up th net s t)
  rising-up s t = rising-roots laws.filters (union_except th.before s.subs (master th net t) (interfaces th net t)) (gather-rising laws.filters s.subs (master th net t) (interfaces th net t))

  module _ (t : ℕ) (s : ServerState th) where
    full-one : (k : Work th) (v : ℕ) → length ((full_effect th net t s k).outs v) ≤ 1
    full-one (SetsFilters i fs) v = near (λ z. length z ≤ 1) (omega arith) (change (up th net s t) (up th net (with_filters th net s i fs) t)) (change-one (up th net s t) (up th net (with_filters th net s i fs) t)) (is_master th net t v)
    full-one (SetsAdverts i xs) v = omega arith
    full-one (Routes i p o n) v = notice-one (not (v == i) && (is_master th net t v || some_pass (th.matches n) (s.installed v))) p o n
    full-one InstallsTable v = omega arith
    full-one Nothing v = omega arith

    full-plain : (k : Work th) (v : ℕ) (y : Message th) → Has y ((full_effect th net t s k).outs v) → is_advert_message th net y ≡ false
    full-plain (SetsFilters i fs) v y h = near (λ z. Has y z → is_advert_message th net y ≡ false) (λ h. absurd h) (change (up th net s t) (up th net (with_filters th net s i fs) t)) (change-plain (up th net s t) (up th net (with_filters th net s i fs) t) y) (is_master th net t v) h
    full-plain (SetsAdverts i xs) v y h = absurd h
    full-plain (Routes i p o n) v y h = notice-plain (not (v == i) && (is_master th net t v || some_pass (th.matches n) (s.installed v))) p o n y h
    full-plain InstallsTable v y h = absurd h
    full-plain Nothing v y h = absurd h

    -- none goes back to where a message came from
    full-back : (u : ℕ) (x : Message th) → (full_effect th net t s (message_work th net s u x)).outs u ≡ []
    full-back u (Subs out add) = go (compare u (master th net t)) (union th.before (minus th.before (s.subs u) out) add)
      where
        go : Same u (master th net t) → (fs : List th.Filter) → cond (is_master th net t u) (change (up th net s t) (up th net (with_filters th net s u fs) t)) [] ≡ []
        go (Not n v) fs = rw v (ap (λ z. cond z (change (up th net s t) (up th net (with_filters th net s u fs) t)) []) (flat (not (t == top))))
          where
            flat : (b : Bool) → b && false ≡ false
            flat true = refl
            flat false = refl
        go (Is e v) fs = near (λ z. z ≡ []) refl (change (up th net s t) (up th net (with_filters th net s u fs) t)) same (is_master th net t u)
          where
            stays : up th net (with_filters th net s u fs) t ≡ up th net s t
            stays = subst (λ z. roots th.covers th.before (union_except th.before (at s.subs u fs) z (interfaces th net t)) ≡ roots th.covers th.before (union_except th.before s.subs z (interfaces th net t))) e (ap (roots th.covers th.before) (gather-at th.before s.subs u fs (interfaces th net t)))

            same : change (up th net s t) (up th net (with_filters th net s u fs) t) ≡ []
            same = ap (change (up th net s t)) stays ∙ rw (same_list-self laws.filters (up th net s t)) refl
    full-back u (Advs out add) = refl
    full-back u (Noticed p o n) = rw (eq-eqb u u refl) refl

    effect-one : (k : Work th) (v : ℕ) → length ((effect th net t s k).outs v) ≤ 1
    effect-one k v = near (λ z. length z ≤ 1) (omega arith) ((full_effect th net t s k).outs v) (full-one k v) (is_among v (net.links t))

    effect-plain : (k : Work th) (v : ℕ) (y : Message th) → Has y ((effect th net t s k).outs v) → is_advert_message th net y ≡ false
    effect-plain k v y = near (λ z. Has y z → is_advert_message th net y ≡ false) (λ h. absurd h) ((full_effect th net t s k).outs v) (full-plain k v y) (is_among v (net.links t))

    effect-back : (u : ℕ) (x : Message th) → (effect th net t s (message_work th net s u x)).outs u ≡ []
    effect-back u x = near (λ z. z ≡ []) refl ((full_effect th net t s (message_work th net s u x)).outs u) (full-back u x) (is_among u (net.links t))

    effect-done : (k : Work th) → (effect th net t s k).state.done ≡ s.done
    effect-done (SetsFilters i set) = refl
    effect-done (SetsAdverts i set) = refl
    effect-done (Routes i p o n) = refl
    effect-done InstallsTable = refl
    effect-done Nothing = refl

    -- what is sent up
    effect-makes : (k : Work th) (v : ℕ) → Has v (net.links t) → replayed (hierarchy_machine th net) (filter_content th net) (sent_up th net s t v) ((effect th net t s k).outs v) ≡ sent_up th net (effect th net t s k).state t v
    effect-makes k v here = rw (has-one v (net.links t) here) (go k)
      where
        go : (k : Work th) → replayed (hierarchy_machine th net) (filter_content th net) (sent_up th net s t v) ((full_effect th net t s k).outs v) ≡ sent_up th net (full_effect th net t s k).state t v
        go (SetsFilters i fs) = by (is_master th net t v)
          where
            by : (b : Bool) → replayed (hierarchy_machine th net) (filter_content th net) (cond b (up th net s t) []) (cond b (change (up th net s t) (up th net (with_filters th net s i fs) t)) []) ≡ cond b (up th net (with_filters th net s i fs) t) []
            by true = change-makes (up th net s t) (up th net (with_filters th net s i fs) t) (rising-up (with_filters th net s i fs) t)
            by false = refl
        go (SetsAdverts i xs) = refl
        go (Routes i p o n) = notice-makes (not (v == i) && (is_master th net t v || some_pass (th.matches n) (s.installed v))) p o n (sent_up th net s t v)
        go InstallsTable = refl
        go Nothing = refl

    -- what is held of a link
    effect-takes : (u : ℕ) (x : Message th) → (effect th net t s (message_work th net s u x)).state.subs u ≡ apply_filters th net (s.subs u) x
    effect-takes u (Subs out add) = at-same s.subs u (union th.before (minus th.before (s.subs u) out) add)
    effect-takes u (Advs out add) = refl
    effect-takes u (Noticed p o n) = refl

    effect-others : (u : ℕ) (x : Message th) (v : ℕ) → (v ≡ u → ⊥) → (effect th net t s (message_work th net s u x)).state.subs v ≡ s.subs v
    effect-others u (Subs out add) v n = at-other s.subs u (union th.before (minus th.before (s.subs u) out) add) v n
    effect-others u (Advs out add) v n = refl
    effect-others u (Noticed p o n) v m = refl

    effect-own : (c count : ℕ) (k : Command th) (v : ℕ) → (v ≡ 64 + c → ⊥) → (effect th net t s (command_work th net c count k)).state.subs v ≡ s.subs v
    effect-own c count (Subscribe f) v n = at-other s.subs (64 + c) (Rattle.law_routing.specs.Clients.filters_after th [] (Rattle.std.proofs.Common.take (suc count) (net.script c))) v n
    effect-own c count (Unsubscribe f) v n = at-other s.subs (64 + c) (Rattle.law_routing.specs.Clients.filters_after th [] (Rattle.std.proofs.Common.take (suc count) (net.script c))) v n
    effect-own c count (Advertise a) v n = go net.adverts
      where
        go : (b : Bool) → (effect th net t s (cond b (SetsAdverts (64 + c) (adverts_after th [] (Rattle.std.proofs.Common.take (suc count) (net.script c)))) Nothing)).state.subs v ≡ s.subs v
        go true = refl
        go false = refl
    effect-own c count (Unadvertise a) v n = go net.adverts
      where
        go : (b : Bool) → (effect th net t s (cond b (SetsAdverts (64 + c) (adverts_after th [] (Rattle.std.proofs.Common.take (suc count) (net.script c)))) Nothing)).state.subs v ≡ s.subs v
        go true = refl
        go false = refl
    effect-own c count (Publish m) v n = go (accepts th net (adverts_after th [] (Rattle.std.proofs.Common.take count (net.script c))) m)
      where
        go : (b : Bool) → (effect th net t s (cond b (Routes (64 + c) c (Rattle.law_routing.specs.Clients.ordinal th (Rattle.std.proofs.Common.take (suc count) (net.script c))) m) Nothing)).state.subs v ≡ s.subs v
        go true = refl
        go false = refl

  pub one : (t : ℕ) (s : ServerState th) (d : Input Task (Message th)) (r : Outcome (ServerState th) (Message th)) → local_step th net t s d ≡ Some r → (v : ℕ) → length (r.outs v) ≤ 1
  one t s d r e v = let x = served th net t s d r e in omega (arith, ap (λ (z : Outcome (ServerState th) (Message th)). length (z.outs v)) x.made, effect-one t x.from x.work v)

  -- the peer, on the same state, counts as many commands
  record Counts (t : ℕ) (s : ServerState th) (d : Input Task (Message th)) (r : Outcome (ServerState th) (Message th)) : Type 0 where
    peer : Outcome (ServerState th) (Message th)
    step : peer_step th net t s d ≡ Some peer
    done : peer.state.done ≡ r.state.done

  counts : (t : ℕ) (s : ServerState th) (d : Input Task (Message th)) (r : Outcome (ServerState th) (Message th)) → local_step th net t s d ≡ Some r → Counts t s d r
  counts t s (Receives u x) r e =
      let k = takes th net t s u x r e in
      record { peer = peer_effect th net t s (message_work th net s u x); step = rw (has-one t net.servers k.here, has-one u (net.links t) k.near) refl; done = done-same th (strict-of th laws) net t s (message_work th net s u x) ∙ sym (ap (λ (z : Outcome (ServerState th) (Message th)). z.state.done) k.made ∙ effect-done t s (message_work th net s u x)) }
  counts t s (Does TableUpdate) r e =
      let k = publishes th net t s r e in
      record { peer = peer_effect th net t s InstallsTable; step = rw (has-one t net.servers k.here, k.pending) refl; done = sym (ap (λ (z : Outcome (ServerState th) (Message th)). z.state.done) k.made) }
  counts t s (Does (NextCommand c)) r e =
      let k = commanded th net t s c r e in
      let before = with_command_executed th net s c in
      let work = command_work th net c (s.done c) k.next.command in
      record { peer = peer_effect th net t before work; step = rw (has-one t net.servers k.here, has-one c (net.clients t) k.lives, k.at) refl; done = done-same th (strict-of th laws) net t before work ∙ sym (ap (λ (z : Outcome (ServerState th) (Message th)). z.state.done) k.made ∙ effect-done t before work) }

  module _ (good : NetLaws th net) where
    peer-spreads : MeasureLaws (routing_machine th net) (peer_measure th net (side_size net.hop net.servers))
    peer-spreads = spreads th (strict-of th laws) net (side_size net.hop net.servers) good.single (tree th laws net good)

    silent : (t : ℕ) (s : ServerState th) (a : Task) (r : Outcome (ServerState th) (Message th)) → local_step th net t s (Does a) ≡ Some r → is_update th net a ≡ true → (v : ℕ) → r.outs v ≡ []
    silent t s (NextCommand c) r e f v = absurd cc
    silent t s TableUpdate r e f v = ap (λ (z : Outcome (ServerState th) (Message th)). z.outs v) (publishes th net t s r e).made ∙ near (λ z. z ≡ []) refl [] refl (is_among v (net.links t))

    clears : (t : ℕ) (s : ServerState th) (a : Task) (r : Outcome (ServerState th) (Message th)) → local_step th net t s (Does a) ≡ Some r → is_update th net a ≡ true → (s.pending ≡ true) × (r.state.pending ≡ false)
    clears t s (NextCommand c) r e f = absurd cc
    clears t s TableUpdate r e f = let k = publishes th net t s r e in (k.pending, ap (λ (z : Outcome (ServerState th) (Message th)). z.state.pending) k.made)

    pub measure-laws : MeasureLaws (hierarchy_machine th net) (measure th net (side_size net.hop net.servers))
    measure-laws = record {
      distinct = peer-spreads.distinct;
      single = peer-spreads.single;
      linked = peer-spreads.linked;
      both = peer-spreads.both;
      apart = peer-spreads.apart;
      weighs = peer-spreads.weighs;
      total = peer-spreads.total;
      among = (machine-laws th net).among;
      one = λ t s d r e v h. one t s d r e v;
      from = λ t s u x r e. (takes th net t s u x r e).near;
      silent = silent;
      back = λ t s u x r e f. ap (λ (z : Outcome (ServerState th) (Message th)). z.outs u) (takes th net t s u x r e).made ∙ effect-back t s u x;
      plain = λ t s u x r e f v y h. effect-plain t s (message_work th net s u x) v y (subst (λ (z : Outcome (ServerState th) (Message th)). Has y (z.outs v)) (takes th net t s u x r e).made h);
      back_plain = λ t s u x r e y h. effect-plain t s (message_work th net s u x) u y (subst (λ (z : Outcome (ServerState th) (Message th)). Has y (z.outs u)) (takes th net t s u x r e).made h);
      clears = clears;
      uses = λ t s a r e f. (let k = counts t s (Does a) r e in omega (arith, peer-spreads.uses t s a k.peer k.step f, same t k.peer.state r.state k.done));
      keeps = λ t s d r e. (let k = counts t s d r e in omega (arith, peer-spreads.keeps t s d k.peer k.step, same t k.peer.state r.state k.done));
    }
      where
        same : (t : ℕ) (s s' : ServerState th) → s.done ≡ s'.done → commands_left th net t s ≡ commands_left th net t s'
        same t s s' e = ap (λ (z : ℕ → ℕ). sum_over (λ c. length (net.script c) - z c) (net.clients t)) e

    own : (t : ℕ) (s : ServerState th) (a : Task) (r : Outcome (ServerState th) (Message th)) → local_step th net t s (Does a) ≡ Some r → (v : ℕ) → Has v (net.links t) → r.state.subs v ≡ s.subs v
    own t s TableUpdate r e v here = ap (λ (z : Outcome (ServerState th) (Message th)). z.state.subs v) (publishes th net t s r e).made
    own t s (NextCommand c) r e v here =
        let k = commanded th net t s c r e in
        ap (λ (z : Outcome (ServerState th) (Message th)). z.state.subs v) k.made ∙ effect-own t (with_command_executed th net s c) c (s.done c) k.next.command v (λ q. omega (arith, q, good.small t v here, good.counted t c k.lives))

    served-makes : (t : ℕ) (s from : ServerState th) → from.subs ≡ s.subs → (v : ℕ) → sent_up th net from t v ≡ sent_up th net s t v
    served-makes t s from e v = ap (λ (z : ℕ → List th.Filter). cond (is_master th net t v) (roots th.covers th.before (union_except th.before z (master th net t) (interfaces th net t))) []) e

    pub content-laws : ContentLaws (hierarchy_machine th net) (filter_content th net)
    content-laws = record {
      puts = puts;
      takes = λ t s u x r e. ap (λ (z : Outcome (ServerState th) (Message th)). z.state.subs u) (takes th net t s u x r e).made ∙ effect-takes t s u x;
      others = λ t s u x r e v near n. ap (λ (z : Outcome (ServerState th) (Message th)). z.state.subs v) (takes th net t s u x r e).made ∙ effect-others t s u x v n;
      own = own;
    }
      where
        puts : (t : ℕ) (s : ServerState th) (d : Input Task (Message th)) (r : Outcome (ServerState th) (Message th)) → local_step th net t s d ≡ Some r → (v : ℕ) → Has v (net.links t) → replayed (hierarchy_machine th net) (filter_content th net) (sent_up th net s t v) (r.outs v) ≡ sent_up th net r.state t v
        puts t s d r e v here =
            let x = served th net t s d r e in
            (λ i. replayed (hierarchy_machine th net) (filter_content th net) (sym (served-makes t s x.from x.counts.subs v) i) ((x.made i).outs v))
            ∙ (effect-makes t x.from x.work v here ∙ ap (λ (z : Outcome (ServerState th) (Message th)). sent_up th net z.state t v) (sym x.made))

-- the bounds of a run
module _ (th : Theory) (laws : TheoryLaws th) (run : HierarchyRun th) where
  pub no-load : load (hierarchy_machine th run.net) (measure th run.net (side_size run.net.hop run.net.servers)) (opening th run.net) ≡ 0
  no-load = all-zero (λ u. sum_over (λ t. 0) (run.net.links u)) run.net.servers (λ u. all-zero (λ t. 0) (run.net.links u) (λ t. refl))

  pub none-pending : pending_count (hierarchy_machine th run.net) (measure th run.net (side_size run.net.hop run.net.servers)) (opening th run.net) ≡ 0
  none-pending = all-zero (λ t. 0) run.net.servers (λ t. refl)

  pub less-remain : remaining (hierarchy_machine th run.net) (measure th run.net (side_size run.net.hop run.net.servers)) (opening th run.net) ≤ all_commands th run.net
  less-remain = omega arith

  pub bounded-run : IsBounded th run
  bounded-run =
      let m = hierarchy_machine th run.net in
      let k = measure th run.net (side_size run.net.hop run.net.servers) in
      let spread = measure-laws th laws run.net run.laws.lawful in
      let within : Rattle.law_machine.specs.Runs.IsWithinPuts (hierarchy_machine th run.net) (opening th run.net) = λ a b. omega arith in
      let b = bound m k spread (opening th run.net) 0 run.journal run.end run.last run.legal within no-load none-pending in
      let c = counted m k spread (opening th run.net) 0 run.journal run.end run.last run.legal within in
      let r = within-left m k spread (opening th run.net) 0 run.journal run.end run.last run.legal in
      let less : commands m k run.journal ≤ all_commands th run.net = omega (arith, r, less-remain) in
      let stamps = run-stamps m 0 (opening th run.net) 0 run.journal run.end run.last run.legal (record { clocks = λ t. omega arith; puts = λ u t s i. absurd i }) in
      record {
        receptions = b.0;
        updates = omega (arith, c.1, none-pending);
        entries = b.1;
        commands = less;
        within = omega (arith, b.1, mul-le-mul_right (length run.net.servers * length run.net.servers + 1) less);
        stamps = λ e h. omega (arith, stamps.1 e h);
        clocks = λ t. omega (arith, stamps.0.clocks t);
        puts = λ u t x h. omega (arith, stamps.0.puts u t x h);
      }
