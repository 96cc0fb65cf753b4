-- A message that is received, as a step of a server of a hierarchy.
use Rattle.std.proofs.Common.{◌≡◌, ◌↔◌, inl, inr, ℕ, suc, max, ◌+◌, ◌^◌, ◌<◌, ◌≤◌, ◌==◌, cond, not, ◌&&◌, ◌||◌, Bool, true, false, List, [], ◌∷◌, ◌++◌, map, Some, None, refl, sym, ap, ap₂, subst, ◌∙◌}
use Rattle.std.proofs.lemmas.Option.{same_Some}
use Rattle.filter_types.specs.Notice.{Attribute}
use Rattle.base.specs.Sets.{Has, union, minus}
use Rattle.law_machine.specs.Machine.{Receives}
use Rattle.law_routing.specs.Net.{Net}
use Rattle.law_routing.specs.Clients.{some_pass}
use Rattle.law_routing.specs.Server.{Message, Subs, Advs, Noticed, ServerState, is_among, interfaces}
use Rattle.law_routing.specs.Step.{Work, Routes, message_work}
use Rattle.law_routing.specs.Step.{effect as peer_effect}
use Rattle.law_routing.proofs.Laws.{cond-some, one-has}
use Rattle.law_routing.proofs.Listing.{has-one}
use Rattle.net_model.specs.Real.{real}
use Rattle.net_model.specs.Parts.{NetParts}
use Rattle.net_model.specs.Nets.{with_adverts}
use Rattle.server_message.specs.Parts.{SendingParts, onto, sent_by}
use Rattle.server_spec.specs.Session.{SessionParts}
use Rattle.law_hierarchy.specs.Masters.{is_master}
use Rattle.law_hierarchy.specs.Step.{effect, local_step}
use Rattle.server_core.specs.Clients.{bare, client_numbers}
use Rattle.server_core.specs.Ledger.{LedgerParts}
use Rattle.server_core.specs.Acting.{IsSpread, links_on, clients_on, delivery_under, sent_on}
use Rattle.server_core.specs.Core.{core_parts, installed_from, RepresentsServer}
use Rattle.server_core.specs.Kept.{IsCore}
use Rattle.server_core.specs.Routed.{IsRoute, RoutesMessage}
use Rattle.server_core.proofs.Steps.{flat-none}
use Rattle.server_core.proofs.Keeping.{numbers-delivered}
use Rattle.server_core.proofs.Made.{AddsRising, message-made, message-kept}
use Rattle.hierarchy_network.specs.Core.{hierarchy_parts, unsteered, RepresentsHierarchyServer}
use Rattle.hierarchy_network.specs.Step.{IsHierarchyStep, MakesHierarchyStep}
use Rattle.hierarchy_network.specs.Acting.{sent_up, goes, IsSpreadUp, HasActedUp}
use Rattle.hierarchy_network.specs.CoreKept.{plain}
use Rattle.hierarchy_network.proofs.Plain.{plain-bare, plain-state, unplain-state, spread-plainly, AllOf, all-delivered}
use Rattle.hierarchy_network.proofs.CoreSent.{none-anyway, up-of, picked-links}
use Rattle.hierarchy_network.proofs.Effects.{filters-up}
use Rattle.base.proofs.Lists.{flat_map-same}
use Rattle.base.proofs.Sets.{has-append-left}

-- a state does not turn on the clock
pub at-clock : (net : Net real) (server clock stamp : ℕ) (ledger : LedgerParts) (sessions : List SessionParts) (state : ServerState real)
    → RepresentsServer net (core_parts server ledger sessions clock) state → RepresentsServer net (core_parts server ledger sessions stamp) state
at-clock net server clock stamp ledger sessions state stands = record {
  among = stands.among;
  control = stands.control;
  installed = stands.installed;
  installed_apart = stands.installed_apart;
  pending = stands.pending;
  clients = stands.clients;
  scripts = stands.scripts;
  taken = stands.taken;
  inboxes = stands.inboxes;
}

pub core-at : (server clock stamp : ℕ) (ledger : LedgerParts) (sessions : List SessionParts) → stamp < 2 ^ 62 → IsCore (core_parts server ledger sessions clock) → IsCore (core_parts server ledger sessions stamp)
core-at server clock stamp ledger sessions low kept = record {
  clock_low = low;
  links_rise = kept.links_rise;
  links_small = kept.links_small;
  one_semantics = kept.one_semantics;
  ids = kept.ids;
  own_filters = kept.own_filters;
  own_adverts = kept.own_adverts;
}

-- a core with plain sessions represents the same states
pub to-plain : (net : Net real) (server clock : ℕ) (ledger : LedgerParts) (ss : List SessionParts) (state : ServerState real)
    → RepresentsServer net (core_parts server ledger (map bare ss) clock) state → RepresentsServer net (core_parts server ledger (map bare (map plain ss)) clock) state
to-plain net server clock ledger ss state stands =
    subst (λ z. RepresentsServer net (core_parts server ledger z clock) state) (sym (plain-bare ss)) (plain-state net (core_parts server ledger (map bare ss) clock) state stands)

pub from-plain : (net : Net real) (server clock : ℕ) (ledger : LedgerParts) (ss : List SessionParts) (state : ServerState real)
    → RepresentsServer net (core_parts server ledger (map bare (map plain ss)) clock) state → RepresentsServer net (core_parts server ledger (map bare ss) clock) state
from-plain net server clock ledger ss state stands =
    unplain-state net (core_parts server ledger (map bare ss) clock) state (subst (λ z. RepresentsServer net (core_parts server ledger z clock) state) (plain-bare ss) stands)

-- two tests of one thing
pub alike : {P : Type 0} (a b : Bool) → ((a ≡ true) ↔ P) → ((b ≡ true) ↔ P) → a ≡ b
alike true b p q = sym (q.1 (p.0 refl))
alike false true p q = p.1 (q.0 refl)
alike false false p q = refl

-- where a notice goes, by its route
module _ (net : Net real) (server clock master from : ℕ) (ledger : LedgerParts) (ss : List SessionParts) (state : ServerState real)
    (stands : RepresentsHierarchyServer net (hierarchy_parts (core_parts server ledger ss clock) master) state) (n : List Attribute) (route : List ℕ)
    (is-route : IsRoute n (installed_from (core_parts server ledger ss clock)) route) where
  links-are : net.links server ≡ ledger.control.links
  links-are = stands.stands.control.links

  on-route : (link : ℕ) → Has link ledger.control.links → is_among link route ≡ some_pass (real.matches n) (state.installed link)
  on-route link h =
      let there : Has link (interfaces real net server) = has-append-left link (net.links server) (map (λ c. 64 + c) (net.clients server)) (subst (Has link) (sym links-are) h) in
      alike (is_among link route) (some_pass (real.matches n) (state.installed link)) ((λ e. one-has link route e), (λ k. has-one link route k))
      (subst (λ z. (some_pass (real.matches n) z ≡ true) ↔ Has link route) (sym (stands.stands.installed link there)) ((λ e. (is-route.exact link).1 e), (λ k. (is-route.exact link).0 k)))

  pub goes-up : (publisher ordinal : ℕ) (link : ℕ) → Has link ledger.control.links
      → cond (goes master from route link) (Noticed publisher ordinal n ∷ []) [] ≡ (effect real net server state (Routes from publisher ordinal n)).outs link
  goes-up publisher ordinal link h =
      ap₂ (λ a b. cond {A = List (Message real)} (not (link == from) && (a || b)) (Noticed publisher ordinal n ∷ []) []) (sym (stands.masters link h)) (on-route link h)
      ∙ sym (ap (λ b. cond b (cond (not (link == from) && (is_master real net server link || some_pass (real.matches n) (state.installed link))) (Noticed publisher ordinal n ∷ []) []) [])
      (has-one link (net.links server) (subst (Has link) (sym links-are) h)))

module _ (server clock stamp master from : ℕ) (old new : LedgerParts) (before after : List SessionParts) (route : List ℕ) (sent : List SendingParts)
    (kept : IsCore (core_parts server old (map bare (map plain before)) clock)) where
  -- what was done, with plain sessions, among peers
  bares : map bare after ≡ map bare before → map bare (map plain after) ≡ map bare (map plain before)
  bares e = plain-bare after ∙ (ap (map plain) e ∙ sym (plain-bare before))

  abbrev note-links : List ℕ
  note-links = links_on old.control.links from route

  spread-plain : (publisher ordinal : ℕ) (n : List Attribute) → IsSpreadUp old.net master from publisher ordinal n route old.control.links before after sent
      → IsSpread old.net from publisher ordinal n route old.control.links (map plain before) (map plain after) (sent_on old.net (Noticed publisher ordinal n) note-links)
  spread-plain publisher ordinal n s = spread-plainly old.net master from publisher ordinal n route old.control.links before after sent s

  -- what is kept
  pub taken-kept : (m : Message real) → HasActedUp master from m route old new before after sent → from ≤ 64 → stamp < 2 ^ 62 → IsCore (core_parts server new (map bare (map plain after)) stamp)
  taken-kept (Subs out add) a low below = message-kept server clock stamp from old new (map plain before) (map plain after) route a.0.all kept (Subs out add) (a.0.set, bares a.1) low below
  taken-kept (Advs out add) a low below =
      subst (λ z. IsCore (core_parts server z (map bare (map plain after)) stamp)) (sym a.0)
      (subst (λ z. IsCore (core_parts server old z stamp)) (sym (bares a.1)) (core-at server clock stamp old (map bare (map plain before)) below kept))
  taken-kept (Noticed publisher ordinal n) a low below =
      message-kept server clock stamp from old new (map plain before) (map plain after) route (sent_on old.net (Noticed publisher ordinal n) note-links) kept (Noticed publisher ordinal n) (a.0, spread-plain publisher ordinal n a.1) low below

  pub taken-semantics : (m : Message real) → HasActedUp master from m route old new before after sent → new.control.semantics ≡ old.control.semantics
  taken-semantics (Subs out add) a = a.0.set.semantics
  taken-semantics (Advs out add) a = ap (λ z. z.control.semantics) a.0
  taken-semantics (Noticed publisher ordinal n) a = ap (λ z. z.control.semantics) a.0

  pub taken-net : (m : Message real) → HasActedUp master from m route old new before after sent → new.net ≡ old.net
  taken-net (Subs out add) a = a.0.set.net
  taken-net (Advs out add) a = ap (λ z. z.net) a.0
  taken-net (Noticed publisher ordinal n) a = ap (λ z. z.net) a.0

  pub taken-installed : (m : Message real) → HasActedUp master from m route old new before after sent → new.installed ≡ old.installed
  taken-installed (Subs out add) a = a.0.set.installed
  taken-installed (Advs out add) a = ap (λ z. z.installed) a.0
  taken-installed (Noticed publisher ordinal n) a = ap (λ z. z.installed) a.0

  pub taken-links : (m : Message real) → HasActedUp master from m route old new before after sent → new.control.links ≡ old.control.links
  taken-links (Subs out add) a = a.0.set.links
  taken-links (Advs out add) a = ap (λ z. z.control.links) a.0
  taken-links (Noticed publisher ordinal n) a = ap (λ z. z.control.links) a.0

  pub taken-numbers : (m : Message real) → HasActedUp master from m route old new before after sent → client_numbers (map bare after) ≡ client_numbers (map bare before)
  taken-numbers (Subs out add) a = ap client_numbers a.1
  taken-numbers (Advs out add) a = ap client_numbers a.1
  taken-numbers (Noticed publisher ordinal n) a = ap client_numbers a.1.inboxes ∙ numbers-delivered (clients_on route) (delivery_under publisher ordinal n) before

  pub taken-all : (m : Message real) → HasActedUp master from m route old new before after sent → AllOf old.net.semantics (map bare before) → AllOf old.net.semantics (map bare after)
  taken-all (Subs out add) a all = subst (AllOf old.net.semantics) (sym a.1) all
  taken-all (Advs out add) a all = subst (AllOf old.net.semantics) (sym a.1) all
  taken-all (Noticed publisher ordinal n) a all =
      subst (AllOf old.net.semantics) (sym a.1.inboxes) (all-delivered old.net.semantics (clients_on route) (delivery_under publisher ordinal n) before all)

  module _ (net : Net real) (state : ServerState real) (stands : RepresentsHierarchyServer net (hierarchy_parts (core_parts server old (map bare before) clock) master) state)
      (there : Has from old.control.links) where
    linked : Has from (net.links server)
    linked = subst (Has from) (sym stands.stands.control.links) there

    -- the step of the hierarchy that takes it
    step-of : (m : Message real) → local_step real net server state (Receives from m) ≡ Some (effect real net server state (message_work real net state from m))
    step-of m =
        ap (λ b. cond (b && is_among from (net.links server)) (Some (effect real net server state (message_work real net state from m))) None) stands.stands.among
        ∙ ap (λ b. cond b (Some (effect real net server state (message_work real net state from m))) None) (has-one from (net.links server) linked)

    same-after : (next : ServerState real) → new.net ≡ old.net → new.control.links ≡ old.control.links → RepresentsServer (unsteered net) (core_parts server new (map bare after) stamp) next
        → RepresentsHierarchyServer net (hierarchy_parts (core_parts server new (map bare after) stamp) master) next
    same-after next nets links is = record {
      stands = is;
      refuses = stands.refuses ∙ ap (λ (z : NetParts). with_adverts z.semantics) (sym nets);
      masters = λ link h. stands.masters link (subst (Has link) links h);
    }

  -- THE STEP
  pub taken-step : (m : Message real) (taken : ℕ) → HasActedUp master from m route old new before after sent → AddsRising m → Has from old.control.links
      → RoutesMessage (core_parts server old (map bare before) clock) m route → stamp ≡ suc (max clock taken)
      → (net : Net real) (state : ServerState real) → RepresentsHierarchyServer net (hierarchy_parts (core_parts server old (map bare before) clock) master) state
      → IsHierarchyStep net state (Receives from m) (hierarchy_parts (core_parts server old (map bare before) clock) master) (hierarchy_parts (core_parts server new (map bare after) stamp) master) sent
  taken-step (Subs out add) taken a ok there r e net state stands =
      let peers = message-made server clock stamp from old new (map plain before) (map plain after) route a.0.all kept (Subs out add) taken (a.0.set, bares a.1) ok there tt e in
      let s = peers.step (unsteered net) state (to-plain (unsteered net) server clock old before state stands.stands) in
      let work : Work real = message_work real net state from (Subs out add) in
      let made : s.outcome ≡ peer_effect real (unsteered net) server state work =
      sym (same_Some _ _ (cond-some (is_among server net.servers) (is_among from (net.links server)) (Some (peer_effect real (unsteered net) server state work)) s.outcome s.step).2) in
      record {
        outcome = effect real net server state work;
        step = step-of net state stands there (Subs out add);
        state_after = same-after net state stands there (effect real net server state work).state a.0.set.net a.0.set.links
            (from-plain (unsteered net) server stamp new after (effect real net server state work).state
            (subst (λ z. RepresentsServer (unsteered net) (core_parts server new (map bare (map plain after)) stamp) z.state) made s.state_after));
        sent_are = a.0.sent_are ∙ (ap (sent_up master) (s.sent_are ∙ ap (λ z. sent_by old.net z.outs old.control.links) made)
            ∙ (up-of old.net master (peer_effect real (unsteered net) server state work).outs old.control.links
            ∙ flat_map-same (λ link. map (onto old.net link) (cond (link == master) ((peer_effect real (unsteered net) server state work).outs link) [])) (λ link. map (onto old.net link) ((effect real net server state work).outs link)) old.control.links
            (λ link h. ap (map (onto old.net link)) (filters-up net server state from (union real.before (minus real.before (state.subs from) out) add) master link (stands.masters link h)))));
      }
  taken-step (Advs out add) taken a ok there r e net state stands =
      let work : Work real = message_work real net state from (Advs out add) in
      record {
        outcome = effect real net server state work;
        step = step-of net state stands there (Advs out add);
        state_after = same-after net state stands there state (ap (λ z. z.net) a.0) (ap (λ z. z.control.links) a.0)
            (subst (λ z. RepresentsServer (unsteered net) (core_parts server z (map bare after) stamp) state) (sym a.0)
            (subst (λ z. RepresentsServer (unsteered net) (core_parts server old z stamp) state) (sym a.1) (at-clock (unsteered net) server clock stamp old (map bare before) state stands.stands)));
        sent_are = a.2 ∙ sym (flat-none (λ link. map (onto old.net link) ((effect real net server state work).outs link)) old.control.links (λ link m. ap (map (onto old.net link)) (none-anyway (is_among link (net.links server)))));
      }
  taken-step (Noticed publisher ordinal n) taken a ok there r e net state stands =
      let spread = spread-plain publisher ordinal n a.1 in
      let peers = message-made server clock stamp from old new (map plain before) (map plain after) route (sent_on old.net (Noticed publisher ordinal n) note-links) kept (Noticed publisher ordinal n) taken (a.0, spread) ok there r e in
      let s = peers.step (unsteered net) state (to-plain (unsteered net) server clock old before state stands.stands) in
      let work : Work real = message_work real net state from (Noticed publisher ordinal n) in
      let made : s.outcome ≡ peer_effect real (unsteered net) server state work =
      sym (same_Some _ _ (cond-some (is_among server net.servers) (is_among from (net.links server)) (Some (peer_effect real (unsteered net) server state work)) s.outcome s.step).2) in
      record {
        outcome = effect real net server state work;
        step = step-of net state stands there (Noticed publisher ordinal n);
        state_after = same-after net state stands there (effect real net server state work).state (ap (λ z. z.net) a.0) (ap (λ z. z.control.links) a.0)
            (from-plain (unsteered net) server stamp new after (effect real net server state work).state
            (subst (λ z. RepresentsServer (unsteered net) (core_parts server new (map bare (map plain after)) stamp) z.state) made s.state_after));
        sent_are = a.1.sent_are ∙ (picked-links old.net (goes master from route) (Noticed publisher ordinal n) old.control.links
            ∙ flat_map-same (λ link. map (onto old.net link) (cond (goes master from route link) (Noticed publisher ordinal n ∷ []) [])) (λ link. map (onto old.net link) ((effect real net server state work).outs link)) old.control.links
            (λ link h. ap (map (onto old.net link)) (goes-up net server clock master from old (map bare before) state stands n route r publisher ordinal link h)));
      }

  pub taken-made : (m : Message real) (taken : ℕ) → HasActedUp master from m route old new before after sent → AddsRising m → Has from old.control.links
      → RoutesMessage (core_parts server old (map bare before) clock) m route → stamp ≡ suc (max clock taken)
      → MakesHierarchyStep (Receives from m) taken (hierarchy_parts (core_parts server old (map bare before) clock) master) (hierarchy_parts (core_parts server new (map bare after) stamp) master) stamp sent
  taken-made m taken a ok there r e = record {
    step = taken-step m taken a ok there r e;
    stamp_is = e;
    clock_is = refl;
    same_net = taken-net m a;
    same_server = refl;
    same_links = taken-links m a;
    same_master = refl;
  }
