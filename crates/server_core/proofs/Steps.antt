-- What a call does to a core is what a work does to the server's state that the core represents.
use Rattle.std.proofs.Common.{◌≡◌, ◌≢◌, ◌↔◌, inl, inr, ℕ, ◌+◌, ◌-◌, ◌<◌, ◌≤◌, ◌==◌, nat_lt, nat_le, cond, not, ◌&&◌, ◌||◌, Bool, true, false, List, [], ◌∷◌, ◌++◌, map, filter, refl, sym, ap, subst, ◌∙◌, arith}
use Rattle.std.specs.List.{flat_map}
use Rattle.std.specs.List.Sorted.{IsStrictlyIncreasing}
use Rattle.std.proofs.lemmas.Bool.{cases_eq}
use Rattle.std.proofs.lemmas.Bool.Decides.{nat_tests}
use Rattle.filter_constraints.specs.Constraint.{ConstraintParts}
use Rattle.filter_types.specs.Notice.{Attribute}
use Rattle.base.specs.Laws.{CoverLaws}
use Rattle.base.specs.Sets.{Has, IsRising, union, minus, roots, same_list}
use Rattle.base.proofs.Roots.{Has-filter, filter-Has}
use Rattle.base.proofs.Sets.{ext, rising-filter, same_list-self, has-map, map-has, increasing-rising}
use Rattle.filter_covering.specs.Laws.{sub_laws}
use Rattle.law_routing.specs.Net.{Net}
use Rattle.law_routing.specs.Clients.{some_pass}
use Rattle.law_routing.specs.Server.{Message, Subs, Advs, Noticed, Publication, ServerState, is_among, union_except, interfaces, messages_to, needed_adverts}
use Rattle.law_routing.specs.Step.{Work, SetsFilters, SetsAdverts, Routes, with_filters, with_adverts, with_deliveries, effect}
use Rattle.law_routing.proofs.Laws.{one-has}
use Rattle.law_routing.proofs.Listing.{has-one}
use Rattle.net_model.specs.Real.{real}
use Rattle.net_model.specs.Parts.{NetParts}
use Rattle.server_message.specs.Parts.{SendingParts, onto, sent_by}
use Rattle.server_spec.specs.Holdings.{held_from}
use Rattle.server_spec.specs.Control.{by_adverts, subs, advs, changes_to, filter_change, advert_change}
use Rattle.server_spec.specs.Routing.{RepresentsControl}
use Rattle.server_spec.proofs.Routed.{messages-are as control-messages}
use Rattle.net_model.specs.Meaning.{phased_command, deliveries_of}
use Rattle.server_spec.specs.Session.{SessionParts}
use Rattle.server_core.specs.Clients.{bare, client_numbers, handed}
use Rattle.server_core.specs.Pending.{is_some_there}
use Rattle.server_core.specs.Ledger.{LedgerParts, FiltersSet, AdvertsSet}
use Rattle.server_core.specs.Acting.{links_on, clients_on, delivery_under, sent_on, delivered, IsSpread}
use Rattle.server_core.specs.Core.{CoreParts, core_parts, installed_from, RepresentsServer}
use Rattle.server_core.specs.Routed.{IsRoute}
use Rattle.base.proofs.Lists.{flat_map-same}

-- lists

pub flat-none : {A B : Type 0} (f : A → List B) (xs : List A) → ((x : A) → Has x xs → f x ≡ []) → flat_map f xs ≡ []
flat-none f [] none = refl
flat-none f (x ∷ xs) none = rw (none x (inl refl)) (flat-none f xs (λ y m. none y (inr m)))

numbers : CoverLaws nat_le nat_lt
numbers = record { reflexive = λ x. grind (arith, nat_tests); transitive = λ x y z e f. grind (arith, nat_tests, e, f); irreflexive = λ x. grind (arith, nat_tests); chain = λ x y z e f. grind (arith, nat_tests, e, f); total = λ x y e f. grind (arith, nat_tests, e, f) }

-- what goes to links of a set
messages-filter : (run : NetParts) (P : ℕ → Bool) (m : Message real) (links : List ℕ) → flat_map (λ link. map (onto run link) (cond (P link) (m ∷ []) [])) links ≡ sent_on run m (filter P links)
messages-filter run P m [] = refl
messages-filter run P m (l ∷ links) = go (P l) refl (messages-filter run P m links)
  where
    go : (b : Bool) → P l ≡ b → flat_map (λ link. map (onto run link) (cond (P link) (m ∷ []) [])) links ≡ sent_on run m (filter P links)
        → flat_map (λ link. map (onto run link) (cond (P link) (m ∷ []) [])) (l ∷ links) ≡ sent_on run m (filter P (l ∷ links))
    go true e ih = rw (e, ih) refl
    go false e ih = rw (e, ih) refl

-- a work of a message, in the words of the control
abbrev pub act_work : LedgerParts → ℕ → Message real → Work real
act_work ledger from (Subs out add) = SetsFilters from (union real.before add (minus real.before (subs ledger.control from) out))
act_work ledger from (Advs out add) = SetsAdverts from (union real.before_advert add (minus real.before_advert (advs ledger.control from) out))
act_work ledger from (Noticed publisher ordinal n) = Routes from publisher ordinal n

-- what a work made: the state that the new core represents, and its messages
pub record IsDone (run : NetParts) (net : Net real) (server : ℕ) (state : ServerState real) (work : Work real) (new : CoreParts) (links : List ℕ) (sent : List SendingParts) : Type 0 where
  pub state_after : RepresentsServer net new (effect real net server state work).state
  pub sent_are : sent ≡ sent_by run (effect real net server state work).outs links

module _ (net : Net real) (server clock clock_after from : ℕ) (old new : LedgerParts) (clients clients_new : List SessionParts) (state : ServerState real)
    (stands : RepresentsServer net (core_parts server old (map bare clients) clock) state) (reached : Has from (interfaces real net server)) where
  links-are : net.links server ≡ old.control.links
  links-are = stands.control.links

  among : (link : ℕ) → Has link old.control.links → is_among link (net.links server) ≡ true
  among link m = has-one link (net.links server) (subst (Has link) (sym links-are) m)

  apart-from : (i : ℕ) → (Has i (interfaces real net server) → ⊥) → i ≢ from
  apart-from i n q = n (subst (λ z. Has z (interfaces real net server)) (sym q) reached)

  -- of messages to links
  sent-same : (outs : ℕ → List (Message real)) (messages : ℕ → List (Message real)) → ((link : ℕ) → Has link old.control.links → messages link ≡ outs link)
      → sent_by old.net messages old.control.links ≡ sent_by old.net (λ l. cond (is_among l (net.links server)) (outs l) []) old.control.links
  sent-same outs messages same = flat_map-same (λ link. map (onto old.net link) (messages link)) (λ link. map (onto old.net link) (cond (is_among link (net.links server)) (outs link) [])) old.control.links
      (λ link m. ap (map (onto old.net link)) (same link m ∙ sym (ap (λ b. cond b (outs link) []) (among link m))))

  module _ (out add : List (List ConstraintParts)) (sent : List SendingParts) (same : map bare clients_new ≡ map bare clients) where
    -- a change of filters
    module _ (set : FiltersSet from out add old new sent) where
      abbrev pub sets : List (List ConstraintParts)
      sets = union real.before add (minus real.before (subs old.control from) out)

      abbrev pub after : ServerState real
      after = with_filters real net state from sets

      stands-after : RepresentsControl net server new.control after
      stands-after = record {
        adverts = stands.control.adverts ∙ sym (ap by_adverts set.semantics);
        links = stands.control.links ∙ sym set.links;
        subs_held = λ i m. elim (cases_eq i from) [
          | inl q ↦
              let t : (i == from) ≡ true = grind (arith, nat_tests, q) in
              ap (λ b. cond b sets (state.subs i)) t ∙ sym set.held ∙ ap (subs new.control) (sym q)
          | inr n ↦
              let f : (i == from) ≡ false = grind (arith, nat_tests, n) in
              ap (λ b. cond b sets (state.subs i)) f ∙ stands.control.subs_held i m ∙ sym (set.others i n)
        ];
        advs_held = λ i m. stands.control.advs_held i m ∙ ap (λ z. held_from real.before_advert i z) (sym set.offered);
        subs_apart = λ i n. set.others i (apart-from i n) ∙ stands.control.subs_apart i n;
        advs_apart = λ i n. ap (λ z. held_from real.before_advert i z) set.offered ∙ stands.control.advs_apart i n;
      }

      messages-are : (link : ℕ) → Has link old.control.links → changes_to old.control new.control link ≡ messages_to real net state after server link
      messages-are link m = control-messages net server old.control new.control state after stands.control stands-after (inr (sym set.offered)) link m

      pub filters-done : IsDone old.net net server state (SetsFilters from sets) (core_parts server new (map bare clients_new) clock_after) old.control.links sent
      filters-done = record {
        state_after = record {
          among = stands.among;
          control = stands-after;
          installed = λ i m. stands.installed i m ∙ ap (λ z. held_from real.before i z) (sym set.installed);
          installed_apart = λ i n. ap (λ z. held_from real.before i z) set.installed ∙ stands.installed_apart i n;
          pending = ap (λ b. b || not (same_list real.before (state.subs from) sets)) stands.pending
              ∙ ap (λ z. is_some_there old.pending || not (same_list real.before z sets)) (stands.control.subs_held from reached)
              ∙ ap (λ z. is_some_there old.pending || not (same_list real.before (subs old.control from) z)) (sym set.held)
              ∙ sym set.pending;
          clients = stands.clients ∙ ap client_numbers (sym same);
          scripts = λ s m. stands.scripts s (subst (Has s) same m);
          taken = λ s m. stands.taken s (subst (Has s) same m);
          inboxes = λ s m. stands.inboxes s (subst (Has s) same m);
        };
        sent_are = set.sent_are ∙ sent-same (messages_to real net state after server) (changes_to old.control new.control) messages-are;
      }

    -- a change of advertisements
    module _ (set : AdvertsSet from out add old new sent) where
      abbrev pub offers : List (List ConstraintParts)
      offers = union real.before_advert add (minus real.before_advert (advs old.control from) out)

      abbrev pub offered : ServerState real
      offered = with_adverts real net state from offers

      stands-offered : RepresentsControl net server new.control offered
      stands-offered = record {
        adverts = stands.control.adverts ∙ sym (ap by_adverts set.semantics);
        links = stands.control.links ∙ sym set.links;
        subs_held = λ i m. stands.control.subs_held i m ∙ ap (λ z. held_from real.before i z) (sym set.filters);
        advs_held = λ i m. elim (cases_eq i from) [
          | inl q ↦
              let t : (i == from) ≡ true = grind (arith, nat_tests, q) in
              ap (λ b. cond b offers (state.advs i)) t ∙ sym set.held ∙ ap (advs new.control) (sym q)
          | inr n ↦
              let f : (i == from) ≡ false = grind (arith, nat_tests, n) in
              ap (λ b. cond b offers (state.advs i)) f ∙ stands.control.advs_held i m ∙ sym (set.others i n)
        ];
        subs_apart = λ i n. ap (λ z. held_from real.before i z) set.filters ∙ stands.control.subs_apart i n;
        advs_apart = λ i n. set.others i (apart-from i n) ∙ stands.control.advs_apart i n;
      }

      state-after : RepresentsServer net (core_parts server new (map bare clients_new) clock_after) offered
      state-after = record {
        among = stands.among;
        control = stands-offered;
        installed = λ i m. stands.installed i m ∙ ap (λ z. held_from real.before i z) (sym set.installed);
        installed_apart = λ i n. ap (λ z. held_from real.before i z) set.installed ∙ stands.installed_apart i n;
        pending = stands.pending ∙ ap is_some_there (sym set.pending);
        clients = stands.clients ∙ ap client_numbers (sym same);
        scripts = λ s m. stands.scripts s (subst (Has s) same m);
        taken = λ s m. stands.taken s (subst (Has s) same m);
        inboxes = λ s m. stands.inboxes s (subst (Has s) same m);
      }

      -- without advertisement semantics nothing is sent
      quiet : net.adverts ≡ false → (link : ℕ) → messages_to real net state offered server link ≡ []
      quiet e link =
          let all = union_except real.before state.subs link (interfaces real net server) in
          let still = roots real.covers real.before (filter (λ (f : List ConstraintParts). true) all) in
          ap (λ b. filter_change (roots real.covers real.before (filter (λ f. not b || some_pass (real.overlaps f) (state.advs link)) all)) (roots real.covers real.before (filter (λ f. not b || some_pass (real.overlaps f) (offered.advs link)) all))
          ++ advert_change (cond b (roots real.covers_advert real.before_advert (needed_adverts real net state server link)) []) (cond b (roots real.covers_advert real.before_advert (needed_adverts real net offered server link)) [])) e
          ∙ ap (λ b. cond b [] (Subs (minus real.before still still) (minus real.before still still) ∷ []) ++ []) (same_list-self sub_laws still)

      messages-offered : by_adverts old.control.semantics ≡ true → (link : ℕ) → Has link old.control.links → changes_to old.control new.control link ≡ messages_to real net state offered server link
      messages-offered e link m = control-messages net server old.control new.control state offered stands.control stands-offered (inl e) link m

      none-out : net.adverts ≡ false → (link : ℕ) → cond (is_among link (net.links server)) (messages_to real net state offered server link) [] ≡ []
      none-out e link = go (is_among link (net.links server)) (messages_to real net state offered server link) (quiet e link)
        where
          go : (b : Bool) (z : List (Message real)) → z ≡ [] → cond b z [] ≡ []
          go true z q = q
          go false z q = refl

      pub adverts-done : IsDone old.net net server state (SetsAdverts from offers) (core_parts server new (map bare clients_new) clock_after) old.control.links sent
      adverts-done = go (by_adverts old.control.semantics) refl
        where
          go : (b : Bool) → by_adverts old.control.semantics ≡ b → IsDone old.net net server state (SetsAdverts from offers) (core_parts server new (map bare clients_new) clock_after) old.control.links sent
          go true e = record {
            state_after = state-after;
            sent_are = set.sent_are e ∙ sent-same (messages_to real net state offered server) (changes_to old.control new.control) (messages-offered e);
          }
          go false e =
              let off : net.adverts ≡ false = stands.control.adverts ∙ e in
              record {
                state_after = state-after;
                sent_are = set.silent e ∙ sym (flat-none (λ link. map (onto old.net link) (cond (is_among link (net.links server)) (messages_to real net state offered server link) [])) old.control.links (λ link m. ap (map (onto old.net link)) (none-out off link)));
              }

  -- a notice
  module _ (publisher ordinal : ℕ) (n : List Attribute) (route : List ℕ) (sent : List SendingParts) (same : new ≡ old) (spread : IsSpread old.net from publisher ordinal n route old.control.links clients clients_new sent)
      (is-route : IsRoute n (installed_from (core_parts server old (map bare clients) clock)) route)
      (links-rise : IsRising nat_lt old.control.links) (links-small : (link : ℕ) → Has link old.control.links → link ≤ 64)
      (ids : (s : SessionParts) → Has s (map bare clients) → 1 ≤ s.client) where
    abbrev pub installed : Publication real
    installed = record { publisher = publisher; ordinal = ordinal; notice = n }

    abbrev pub spread-state : ServerState real
    spread-state = with_deliveries real net state server installed

    abbrev pub goes : ℕ → Bool
    goes l = not (l == from) && some_pass (real.matches n) (state.installed l)

    abbrev pub note : Message real
    note = Noticed publisher ordinal n

    both-true : (a b : Bool) → (a && b) ≡ true → (a ≡ true) × (b ≡ true)
    both-true true true e = (refl, refl)
    both-true true false e = absurd cc
    both-true false b e = absurd cc

    link-in : (l : ℕ) → Has l old.control.links → Has l (interfaces real net server)
    link-in l m = front (net.links server) (subst (Has l) (sym links-are) m)
      where
        front : (xs : List ℕ) → Has l xs → Has l (xs ++ map (λ c. 64 + c) (net.clients server))
        front [] k = absurd k
        front (x ∷ xs) (inl q) = inl q
        front (x ∷ xs) (inr k) = inr (front xs k)

    client-in : (c : ℕ) → Has c (net.clients server) → Has (64 + c) (interfaces real net server)
    client-in c m = back (net.links server)
      where
        back : (xs : List ℕ) → Has (64 + c) (xs ++ map (λ c. 64 + c) (net.clients server))
        back [] = map-has (λ c. 64 + c) (net.clients server) c m
        back (x ∷ xs) = inr (back xs)

    -- which interfaces are on the route
    on-route : (i : ℕ) → Has i (interfaces real net server) → Has i route ↔ (some_pass (real.matches n) (state.installed i) ≡ true)
    on-route i m = subst (λ z. Has i route ↔ (some_pass (real.matches n) z ≡ true)) (sym (stands.installed i m)) (is-route.exact i)

    same-links : filter goes old.control.links ≡ links_on old.control.links from route
    same-links = ext numbers (filter goes old.control.links) (links_on old.control.links from route) (rising-filter numbers goes old.control.links links-rise) (rising-filter numbers (λ i. nat_le i 64 && (not (i == from) && is_among i old.control.links)) route (increasing-rising route is-route.rising)) to of
      where
        to : (l : ℕ) → Has l (filter goes old.control.links) → Has l (links_on old.control.links from route)
        to l m =
            let p = filter-Has goes l old.control.links m in
            let q = both-true (not (l == from)) (some_pass (real.matches n) (state.installed l)) p.1 in
            let low : nat_le l 64 ≡ true = let s = links-small l p.0 in grind (arith, nat_tests, s) in
            Has-filter (λ i. nat_le i 64 && (not (i == from) && is_among i old.control.links)) l route ((on-route l (link-in l p.0)).1 q.1) (rw (low, q.0, has-one l old.control.links p.0) refl)

        of : (l : ℕ) → Has l (links_on old.control.links from route) → Has l (filter goes old.control.links)
        of l m =
            let p = filter-Has (λ i. nat_le i 64 && (not (i == from) && is_among i old.control.links)) l route m in
            let q = both-true (nat_le l 64) (not (l == from) && is_among l old.control.links) p.1 in
            let r = both-true (not (l == from)) (is_among l old.control.links) q.1 in
            let there = one-has l old.control.links r.1 in
            Has-filter goes l old.control.links there (rw (r.0, (on-route l (link-in l there)).0 p.0) refl)

    -- which clients
    to-client : (c : ℕ) → 1 ≤ c → Has (64 + c) route → Has c (clients_on route)
    to-client c low m =
        let high : nat_lt 64 (64 + c) ≡ true = grind (arith, nat_tests, low) in
        let minus : c ≡ 64 + c - 64 = omega arith in
        subst (λ z. Has z (clients_on route)) (sym minus) (map-has (λ i. i - 64) (filter (λ i. nat_lt 64 i) route) (64 + c) (Has-filter (λ i. nat_lt 64 i) (64 + c) route m high))

    of-client : (c : ℕ) → Has c (clients_on route) → Has (64 + c) route
    of-client c m =
        let r = has-map (λ i. i - 64) (filter (λ i. nat_lt 64 i) route) c m in
        let p = filter-Has (λ i. nat_lt 64 i) r.0 route r.1 in
        let e : r.0 ≡ 64 + c = let t = p.1 in let u = r.2 in grind (arith, nat_tests, t, u) in
        subst (λ z. Has z route) e p.0

    truth : {P : Type 0} (a b : Bool) → ((a ≡ true) ↔ P) → ((b ≡ true) ↔ P) → a ≡ b
    truth true b p q = sym (q.1 (p.0 refl))
    truth false true p q = p.1 (q.0 refl)
    truth false false p q = refl

    lives : (t : SessionParts) → Has t clients → Has t.client (net.clients server)
    lives t m = subst (Has t.client) (sym stands.clients) (map-has (λ s. s.client) (map bare clients) (bare t) (map-has bare clients t m))

    receives : (t : SessionParts) → Has t clients → (is_among t.client (net.clients server) && some_pass (real.matches n) (state.installed (64 + t.client))) ≡ is_among t.client (clients_on route)
    receives t m =
        let here : is_among t.client (net.clients server) ≡ true = has-one t.client (net.clients server) (lives t m) in
        let p = on-route (64 + t.client) (client-in t.client (lives t m)) in
        ap (λ b. b && some_pass (real.matches n) (state.installed (64 + t.client))) here
        ∙ truth (some_pass (real.matches n) (state.installed (64 + t.client))) (is_among t.client (clients_on route)) ((λ e. p.1 e), (λ h. p.0 h))
        ((λ e. of-client t.client (one-has t.client (clients_on route) e)), (λ h. has-one t.client (clients_on route) (to-client t.client (ids (bare t) (map-has bare clients t m)) h)))

    abbrev pub pick : Bool → SessionParts → SessionParts
    pick b t = bare (cond b (handed (delivery_under publisher ordinal n) t) t)

    pick-client : (b : Bool) (t : SessionParts) → (pick b t).client ≡ t.client
    pick-client true t = refl
    pick-client false t = refl

    pick-script : (b : Bool) (t : SessionParts) → (pick b t).script ≡ t.script
    pick-script true t = refl
    pick-script false t = refl

    pick-taken : (b : Bool) (t : SessionParts) → (pick b t).taken ≡ t.taken
    pick-taken true t = refl
    pick-taken false t = refl

    append-map : {A B : Type 0} (f : A → B) (xs : List A) (x : A) → map f xs ++ f x ∷ [] ≡ map f (xs ++ x ∷ [])
    append-map f [] x = refl
    append-map f (y ∷ ys) x = ap (λ z. f y ∷ z) (append-map f ys x)

    pick-inbox : (b : Bool) (t : SessionParts) → t.inbox ≡ deliveries_of (state.inbox t.client) → (pick b t).inbox ≡ deliveries_of (cond b (state.inbox t.client ++ installed ∷ []) (state.inbox t.client))
    pick-inbox true t e = ap (λ z. z ++ delivery_under publisher ordinal n ∷ []) e ∙ append-map _ (state.inbox t.client) installed
    pick-inbox false t e = e

    -- a session then is one of before with or without the delivery
    pub data Was (s : SessionParts) : Type 0 where
      was : (t : SessionParts) → Has t clients → s ≡ pick (is_among t.client (clients_on route)) t → Was s

    pub was-one : (s : SessionParts) → Has s (map bare clients_new) → Was s
    was-one s m = go clients (λ t k. k) (subst (Has s) spread.inboxes m)
      where
        go : (all : List SessionParts) → ((t : SessionParts) → Has t all → Has t clients) → Has s (map bare (delivered (clients_on route) (delivery_under publisher ordinal n) all)) → Was s
        go [] sub k = absurd k
        go (t ∷ all) sub (inl q) = was t (sub t (inl refl)) q
        go (t ∷ all) sub (inr k) = go all (λ u h. sub u (inr h)) k

    numbers-same : (all : List SessionParts) → client_numbers (map bare (delivered (clients_on route) (delivery_under publisher ordinal n) all)) ≡ client_numbers (map bare all)
    numbers-same [] = refl
    numbers-same (t ∷ all) = ap (λ z. z ∷ client_numbers (map bare (delivered (clients_on route) (delivery_under publisher ordinal n) all))) (pick-client (is_among t.client (clients_on route)) t) ∙ ap (λ z. t.client ∷ z) (numbers-same all)

    taken-then : (s : SessionParts) → Was s → state.done s.client ≡ s.taken
    taken-then s (was t m e) =
        let b = is_among t.client (clients_on route) in
        ap state.done (ap (λ z. z.client) e ∙ pick-client b t) ∙ stands.taken (bare t) (map-has bare clients t m) ∙ sym (ap (λ z. z.taken) e ∙ pick-taken b t)

    scripts-then : (s : SessionParts) → Was s → net.script s.client ≡ map phased_command s.script
    scripts-then s (was t m e) =
        let b = is_among t.client (clients_on route) in
        ap net.script (ap (λ z. z.client) e ∙ pick-client b t) ∙ stands.scripts (bare t) (map-has bare clients t m) ∙ ap (map phased_command) (sym (ap (λ z. z.script) e ∙ pick-script b t))

    inboxes-then : (s : SessionParts) → Was s → s.inbox ≡ deliveries_of (spread-state.inbox s.client)
    inboxes-then s (was t m e) =
        let b = is_among t.client (clients_on route) in
        let c : s.client ≡ t.client = ap (λ z. z.client) e ∙ pick-client b t in
        ap (λ z. z.inbox) e ∙ pick-inbox b t (stands.inboxes (bare t) (map-has bare clients t m))
        ∙ ap (λ z. deliveries_of (cond z (state.inbox t.client ++ installed ∷ []) (state.inbox t.client))) (sym (receives t m))
        ∙ ap (λ z. deliveries_of (spread-state.inbox z)) (sym c)

    pub spread-done : IsDone old.net net server state (Routes from publisher ordinal n) (core_parts server new (map bare clients_new) clock_after) old.control.links sent
    spread-done = record {
      state_after = subst (λ z. RepresentsServer net (core_parts server z (map bare clients_new) clock_after) spread-state) (sym same) (record {
        among = stands.among;
        control = record {
          adverts = stands.control.adverts;
          links = stands.control.links;
          subs_held = stands.control.subs_held;
          advs_held = stands.control.advs_held;
          subs_apart = stands.control.subs_apart;
          advs_apart = stands.control.advs_apart;
        };
        installed = stands.installed;
        installed_apart = stands.installed_apart;
        pending = stands.pending;
        clients = stands.clients ∙ sym (ap client_numbers spread.inboxes ∙ numbers-same clients);
        scripts = λ s m. scripts-then s (was-one s m);
        taken = λ s m. taken-then s (was-one s m);
        inboxes = λ s m. inboxes-then s (was-one s m);
      });
      sent_are = spread.sent_are ∙ ap (sent_on old.net note) (sym same-links) ∙ sym (messages-filter old.net goes note old.control.links)
          ∙ flat_map-same (λ link. map (onto old.net link) (cond (goes link) (note ∷ []) [])) (λ link. map (onto old.net link) (cond (is_among link (net.links server)) (cond (goes link) (note ∷ []) []) [])) old.control.links
          (λ link m. ap (λ b. map (onto old.net link) (cond b (cond (goes link) (note ∷ []) []) [])) (sym (among link m)));
    }
