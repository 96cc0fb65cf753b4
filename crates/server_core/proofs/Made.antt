-- The calls of a core as steps of the server, and what the code keeps of the core through them.
use Rattle.std.proofs.Common.{◌≡◌, ◌≢◌, inl, inr, ℕ, suc, max, ◌+◌, ◌^◌, ◌<◌, ◌≤◌, ◌==◌, nat_lt, cond, ◌&&◌, Bool, true, false, List, [], ◌∷◌, ◌++◌, map, take, Some, None, refl, sym, ap, subst, ◌∙◌, arith}
use Rattle.std.specs.Int.{IsInRange}
use Rattle.base.specs.Sets.{Has, IsRising, union, minus}
use Rattle.filter_types.specs.Before.{list_before}
use Rattle.filter_covering.specs.Laws.{sub_laws, ad_laws}
use Rattle.law_machine.specs.Machine.{Does, Receives}
use Rattle.law_routing.specs.Net.{Net}
use Rattle.law_routing.specs.Clients.{filters_after, adverts_after}
use Rattle.law_routing.specs.Server.{Message, Subs, Advs, Noticed, ServerState, is_among, interfaces}
use Rattle.law_routing.specs.Step.{TableUpdate, SetsFilters, SetsAdverts, InstallsTable, with_update, effect, message_work}
use Rattle.law_routing.proofs.Listing.{has-one}
use Rattle.net_model.specs.Real.{real}
use Rattle.server_message.specs.Parts.{SendingParts, onto}
use Rattle.server_spec.specs.Holdings.{held_from}
use Rattle.server_spec.specs.Control.{by_adverts, subs, advs}
use Rattle.server_spec.proofs.Routed.{either-way}
use Rattle.server_spec.proofs.Holdings.{rising-where}
use Rattle.net_model.specs.Meaning.{phased_command}
use Rattle.server_spec.specs.Session.{SessionParts}
use Rattle.server_spec.specs.Turn.{filter_set_at, advert_set_at}
use Rattle.server_core.specs.Clients.{bare}
use Rattle.server_core.specs.Pending.{is_some_there}
use Rattle.server_core.specs.Ledger.{LedgerParts}
use Rattle.server_core.specs.Acting.{HasActed, IsRouted}
use Rattle.server_core.specs.Core.{CoreParts, core_parts, RepresentsServer}
use Rattle.server_core.specs.Kept.{IsCore}
use Rattle.server_core.specs.Routed.{RoutesMessage}
use Rattle.server_core.specs.Step.{IsServerStep, MakesStep}
use Rattle.server_core.proofs.Steps.{IsDone, act_work, filters-done, adverts-done, spread-done, flat-none}
use Rattle.base.proofs.Sets.{map-has}

-- a table update
module _ (server clock stamp : ℕ) (old new : LedgerParts) (clients : List SessionParts) (net-same : new.net ≡ old.net) (control-same : new.control ≡ old.control) (all-installed : new.installed ≡ old.control.filters) (none-pending : new.pending ≡ []) where
  update_table-state : (net : Net real) (state : ServerState real) → RepresentsServer net (core_parts server old clients clock) state → RepresentsServer net (core_parts server new clients stamp) (with_update real net state)
  update_table-state net state stands = record {
    among = stands.among;
    control = record {
      adverts = stands.control.adverts ∙ ap (λ z. by_adverts z.semantics) (sym control-same);
      links = stands.control.links ∙ ap (λ z. z.links) (sym control-same);
      subs_held = λ i m. stands.control.subs_held i m ∙ ap (λ z. subs z i) (sym control-same);
      advs_held = λ i m. stands.control.advs_held i m ∙ ap (λ z. advs z i) (sym control-same);
      subs_apart = λ i n. ap (λ z. subs z i) control-same ∙ stands.control.subs_apart i n;
      advs_apart = λ i n. ap (λ z. advs z i) control-same ∙ stands.control.advs_apart i n;
    };
    installed = λ i m. stands.control.subs_held i m ∙ ap (λ z. held_from real.before i z) (sym all-installed);
    installed_apart = λ i n. ap (λ z. held_from real.before i z) all-installed ∙ stands.control.subs_apart i n;
    pending = ap is_some_there (sym none-pending);
    clients = stands.clients;
    scripts = stands.scripts;
    taken = stands.taken;
    inboxes = stands.inboxes;
  }

  some-pending : {X : Type 0} (pending : List X) → (pending ≡ [] → ⊥) → is_some_there pending ≡ true
  some-pending [] n = absurd (n refl)
  some-pending (x ∷ pending) n = refl

  pub no-message : (b : Bool) → cond {A = List (Message real)} b [] [] ≡ []
  no-message true = refl
  no-message false = refl

  update_table-step : (old.pending ≡ [] → ⊥) → (net : Net real) (state : ServerState real) → RepresentsServer net (core_parts server old clients clock) state
      → IsServerStep net state (Does TableUpdate) (core_parts server old clients clock) (core_parts server new clients stamp) []
  update_table-step some net state stands =
      let on : state.pending ≡ true = stands.pending ∙ some-pending old.pending some in
      record {
        outcome = effect real net server state InstallsTable;
        step = ap (λ b. cond (b && state.pending) (Some (effect real net server state InstallsTable)) None) stands.among ∙ ap (λ b. cond b (Some (effect real net server state InstallsTable)) None) on;
        state_after = update_table-state net state stands;
        sent_are = sym (flat-none (λ link. map (onto old.net link) (cond (is_among link (net.links server)) [] [])) old.control.links (λ link m. ap (map (onto old.net link)) (no-message (is_among link (net.links server)))));
      }

  pub update_table-made : (old.pending ≡ [] → ⊥) → stamp ≡ suc (max clock 0) → MakesStep (Does TableUpdate) 0 (core_parts server old clients clock) (core_parts server new clients stamp) stamp []
  update_table-made some e = record {
    step = update_table-step some;
    stamp_is = e;
    clock_is = refl;
    same_net = net-same;
    same_server = refl;
    same_links = ap (λ z. z.links) control-same;
  }

  pub update_table-kept : IsCore (core_parts server old clients clock) → stamp < 2 ^ 62 → IsCore (core_parts server new clients stamp)
  update_table-kept kept low = record {
    clock_low = low;
    links_rise = subst (λ z. IsRising nat_lt z.links) (sym control-same) kept.links_rise;
    links_small = subst (λ z. (link : ℕ) → Has link z.links → link ≤ 64) (sym control-same) kept.links_small;
    one_semantics = λ s m. kept.one_semantics s m ∙ ap (λ z. z.semantics) (sym control-same);
    ids = kept.ids;
    own_filters = λ s m. ap (λ z. subs z (64 + s.client)) control-same ∙ kept.own_filters s m;
    own_adverts = λ s m e. ap (λ z. advs z (64 + s.client)) control-same ∙ kept.own_adverts s m (ap (λ z. by_adverts z.semantics) (sym control-same) ∙ e);
  }

-- what a message adds rises
abbrev pub AddsRising : Message real → Type 0
AddsRising (Subs out add) = IsRising list_before add
AddsRising (Advs out add) = IsRising list_before add
AddsRising (Noticed publisher ordinal n) = Unit {0}

-- what a session says of its client's own lists
pub record IsOwn (s t : SessionParts) : Type 0 where
  pub client : s.client ≡ t.client
  pub semantics : s.semantics ≡ t.semantics
  pub script : s.script ≡ t.script
  pub taken : s.taken ≡ t.taken

pub own-refl : (s : SessionParts) → IsOwn s s
own-refl s = record { client = refl; semantics = refl; script = refl; taken = refl }

pub filters-own : (s t : SessionParts) → IsOwn s t → filter_set_at s s.taken ≡ filter_set_at t t.taken
filters-own s t o = ap (λ z. filters_after real [] (take z (map phased_command s.script))) o.taken ∙ ap (λ z. filters_after real [] (take t.taken (map phased_command z))) o.script

pub adverts-own : (s t : SessionParts) → IsOwn s t → advert_set_at s s.taken ≡ advert_set_at t t.taken
adverts-own s t o = ap (λ z. adverts_after real [] (take z (map phased_command s.script))) o.taken ∙ ap (λ z. adverts_after real [] (take t.taken (map phased_command z))) o.script

module _ (server clock clock_after from : ℕ) (old new : LedgerParts) (clients clients_new : List SessionParts) (route : List ℕ) (sent : List SendingParts)
    (kept : IsCore (core_parts server old (map bare clients) clock)) where
  -- the sessions after an act are those of before but for deliveries
  pub own-of : (m : Message real) → HasActed from m route old new clients clients_new sent → (s : SessionParts) → Has s (map bare clients_new) → (t : SessionParts) × Has t (map bare clients) × IsOwn s t
  own-of (Subs out add) a s h = (s, subst (Has s) a.1 h, own-refl s)
  own-of (Advs out add) a s h = (s, subst (Has s) a.1 h, own-refl s)
  own-of (Noticed publisher ordinal n) a s h = picked clients (λ t k. k) (subst (Has s) a.1.inboxes h)
    where
      picked : (all : List SessionParts) → ((t : SessionParts) → Has t all → Has t clients) → Has s (map bare (Rattle.server_core.specs.Acting.delivered (Rattle.server_core.specs.Acting.clients_on route) (Rattle.server_core.specs.Acting.delivery_under publisher ordinal n) all)) → (t : SessionParts) × Has t (map bare clients) × IsOwn s t
      picked [] sub k = absurd k
      picked (t ∷ all) sub (inr k) = picked all (λ u m. sub u (inr m)) k
      picked (t ∷ all) sub (inl q) = (bare t, map-has bare clients t (sub t (inl refl)), same (is_among t.client (Rattle.server_core.specs.Acting.clients_on route)) q)
        where
          same : (b : Bool) → s ≡ bare (cond b (Rattle.server_core.specs.Clients.handed (Rattle.server_core.specs.Acting.delivery_under publisher ordinal n) t) t) → IsOwn s (bare t)
          same true e = record { client = ap (λ z. z.client) e; semantics = ap (λ z. z.semantics) e; script = ap (λ z. z.script) e; taken = ap (λ z. z.taken) e }
          same false e = record { client = ap (λ z. z.client) e; semantics = ap (λ z. z.semantics) e; script = ap (λ z. z.script) e; taken = ap (λ z. z.taken) e }

  -- what an act leaves of links, semantics and what other interfaces hold
  pub record IsLeft : Type 0 where
    pub net : new.net ≡ old.net
    pub semantics : new.control.semantics ≡ old.control.semantics
    pub links : new.control.links ≡ old.control.links
    pub filters : (i : ℕ) → i ≢ from → subs new.control i ≡ subs old.control i
    pub adverts : (i : ℕ) → i ≢ from → advs new.control i ≡ advs old.control i

  pub left-of : (m : Message real) → HasActed from m route old new clients clients_new sent → IsLeft
  left-of (Subs out add) a = record { net = a.0.net; semantics = a.0.semantics; links = a.0.links; filters = a.0.others; adverts = λ i n. ap (λ z. held_from real.before_advert i z) a.0.offered }
  left-of (Advs out add) a = record { net = a.0.net; semantics = a.0.semantics; links = a.0.links; filters = λ i n. ap (λ z. held_from real.before i z) a.0.filters; adverts = a.0.others }
  left-of (Noticed publisher ordinal n) a = record { net = ap (λ z. z.net) a.0; semantics = ap (λ z. z.control.semantics) a.0; links = ap (λ z. z.control.links) a.0; filters = λ i n. ap (λ z. subs z.control i) a.0; adverts = λ i n. ap (λ z. advs z.control i) a.0 }

  pub message-kept : (m : Message real) → HasActed from m route old new clients clients_new sent → from ≤ 64 → clock_after < 2 ^ 62 → IsCore (core_parts server new (map bare clients_new) clock_after)
  message-kept m a low below =
      let left = left-of m a in
      record {
        clock_low = below;
        links_rise = subst (IsRising nat_lt) (sym left.links) kept.links_rise;
        links_small = subst (λ z. (link : ℕ) → Has link z → link ≤ 64) (sym left.links) kept.links_small;
        one_semantics = λ s h. let t = own-of m a s h in t.2.semantics ∙ kept.one_semantics t.0 t.1 ∙ sym left.semantics;
        ids = λ s h. let t = own-of m a s h in subst (IsInRange 1 1024) (sym t.2.client) (kept.ids t.0 t.1);
        own_filters = λ s h. let t = own-of m a s h in ap (λ z. subs new.control (64 + z)) t.2.client ∙ left.filters (64 + t.0.client) (apart t.0 t.1) ∙ kept.own_filters t.0 t.1 ∙ sym (filters-own s t.0 t.2);
        own_adverts = λ s h e. let t = own-of m a s h in ap (λ z. advs new.control (64 + z)) t.2.client ∙ left.adverts (64 + t.0.client) (apart t.0 t.1) ∙ kept.own_adverts t.0 t.1 (ap by_adverts (sym left.semantics) ∙ e) ∙ sym (adverts-own s t.0 t.2);
      }
    where
      apart : (t : SessionParts) → Has t (map bare clients) → 64 + t.client ≢ from
      apart t h e = let one = (kept.ids t h).0 in absurd (omega (arith, low, e, one))

  -- the work of an act
  pub acted : (m : Message real) → HasActed from m route old new clients clients_new sent → (net : Net real) (state : ServerState real) → RepresentsServer net (core_parts server old (map bare clients) clock) state
      → Has from (interfaces real net server) → RoutesMessage (core_parts server old (map bare clients) clock) m route
      → IsDone old.net net server state (act_work old from m) (core_parts server new (map bare clients_new) clock_after) old.control.links sent
  acted (Subs out add) a net state stands reached r = filters-done net server clock clock_after from old new clients clients_new state stands reached out add sent a.1 a.0
  acted (Advs out add) a net state stands reached r = adverts-done net server clock clock_after from old new clients clients_new state stands reached out add sent a.1 a.0
  acted (Noticed publisher ordinal n) a net state stands reached r = spread-done net server clock clock_after from old new clients clients_new state stands reached publisher ordinal n route sent a.0 a.1 r kept.links_rise kept.links_small (λ s h. (kept.ids s h).0)

  -- which is that of the message
  message-work : (m : Message real) → AddsRising m → (net : Net real) (state : ServerState real) → RepresentsServer net (core_parts server old (map bare clients) clock) state
      → Has from (interfaces real net server) → act_work old from m ≡ message_work real net state from m
  message-work (Subs out add) ok net state stands reached =
      let held = subs old.control from in
      ap (SetsFilters from) (either-way held out add (rising-where sub_laws (λ h. h.interface == from) old.control.filters) ok)
      ∙ ap (λ z. SetsFilters from (union real.before (minus real.before z out) add)) (sym (stands.control.subs_held from reached))
  message-work (Advs out add) ok net state stands reached =
      let held = advs old.control from in
      ap (SetsAdverts from) (either-way held out add (rising-where ad_laws (λ h. h.interface == from) old.control.adverts) ok)
      ∙ ap (λ z. SetsAdverts from (union real.before_advert (minus real.before_advert z out) add)) (sym (stands.control.advs_held from reached))
  message-work (Noticed publisher ordinal n) ok net state stands reached = refl

  pub message-made : (m : Message real) (taken : ℕ) → HasActed from m route old new clients clients_new sent → AddsRising m → Has from old.control.links → RoutesMessage (core_parts server old (map bare clients) clock) m route → clock_after ≡ suc (max clock taken)
      → MakesStep (Receives from m) taken (core_parts server old (map bare clients) clock) (core_parts server new (map bare clients_new) clock_after) clock_after sent
  message-made m taken a ok there r e = record {
    step = step;
    stamp_is = e;
    clock_is = refl;
    same_net = (left-of m a).net;
    same_server = refl;
    same_links = (left-of m a).links;
  }
    where
      front : (x : ℕ) (xs ys : List ℕ) → Has x xs → Has x (xs ++ ys)
      front x [] ys k = absurd k
      front x (y ∷ xs) ys (inl q) = inl q
      front x (y ∷ xs) ys (inr k) = inr (front x xs ys k)

      step : (net : Net real) (state : ServerState real) → RepresentsServer net (core_parts server old (map bare clients) clock) state → IsServerStep net state (Receives from m) (core_parts server old (map bare clients) clock) (core_parts server new (map bare clients_new) clock_after) sent
      step net state stands =
          let linked : Has from (net.links server) = subst (Has from) (sym stands.control.links) there in
          let reached : Has from (interfaces real net server) = front from (net.links server) (map (λ c. 64 + c) (net.clients server)) linked in
          let work = message-work m ok net state stands reached in
          let done = subst (λ z. IsDone old.net net server state z (core_parts server new (map bare clients_new) clock_after) old.control.links sent) work (acted m a net state stands reached r) in
          record {
            outcome = effect real net server state (message_work real net state from m);
            step = ap (λ b. cond (b && is_among from (net.links server)) (Some (effect real net server state (message_work real net state from m))) None) stands.among
                ∙ ap (λ b. cond b (Some (effect real net server state (message_work real net state from m))) None) (has-one from (net.links server) linked);
            state_after = done.state_after;
            sent_are = done.sent_are;
          }

-- what an act asks of a message
pub routed-message : (core : CoreParts) (m : Message real) (route : List ℕ) → RoutesMessage core m route → IsRouted m route
routed-message core (Noticed publisher ordinal n) route r = r.rising
routed-message core (Subs out add) route r = tt
routed-message core (Advs out add) route r = tt
