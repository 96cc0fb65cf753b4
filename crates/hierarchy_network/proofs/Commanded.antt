-- A client's next command as a step of a server of a hierarchy.
use Rattle.std.proofs.Common.{◌≡◌, ℕ, suc, max, ◌+◌, ◌^◌, ◌<◌, ◌==◌, cond, ◌&&◌, Bool, true, false, List, [], ◌∷◌, map, length, slice_get, Option, Some, None, refl, sym, ap, subst, ◌∙◌}
use Rattle.std.proofs.lemmas.Option.{same_Some}
use Rattle.std.specs.List.Sorted.{IsStrictlyIncreasing}
use Rattle.filter_constraints.specs.Constraint.{ConstraintParts}
use Rattle.filter_types.specs.Notice.{Attribute}
use Rattle.base.specs.Sets.{Has}
use Rattle.law_machine.specs.Machine.{Does}
use Rattle.law_routing.specs.Net.{Net, PhasedCommand}
use Rattle.law_routing.specs.Clients.{accepts}
use Rattle.law_routing.specs.Server.{Message, Noticed, ServerState, is_among}
use Rattle.law_routing.specs.Step.{NextCommand, Work, SetsAdverts, Routes, Nothing, with_command_executed, command_work}
use Rattle.law_routing.specs.Step.{effect as peer_effect, command_outcome as peer_outcome}
use Rattle.law_routing.proofs.Laws.{cond-some}
use Rattle.law_routing.proofs.Listing.{has-one}
use Rattle.net_model.specs.Real.{real}
use Rattle.filter_text.specs.declared.id.Id.{Id}
use Rattle.filter_text.specs.Deliveries.{Delivery}
use Rattle.filter_text.specs.declared.command.Command.{Command}
use Rattle.filter_text.specs.declared.command.Command.TheVariants as commands
use Rattle.filter_text.specs.declared.semantics.Semantics.TheVariants.{Subscription}
use Rattle.net_model.specs.Parts.{NetParts}
use Rattle.net_model.specs.Nets.{with_adverts}
use Rattle.server_message.specs.Parts.{SendingParts, onto, sent_by}
use Rattle.server_spec.specs.declared.planned.Planned.{Planned}
use Rattle.server_spec.specs.declared.planned.Planned.TheVariants as plans
use Rattle.server_spec.specs.Session.{SessionParts, adverts_at, publishes_at, net_under}
use Rattle.server_spec.specs.Plan.{plan_in, next_plan}
use Rattle.server_spec.specs.Turn.{filter_set_at, advert_set_at}
use Rattle.law_hierarchy.specs.Step.{effect, command_outcome, local_step}
use Rattle.server_core.specs.Clients.{bare, client_numbers, at_client, stepped}
use Rattle.server_core.specs.Ledger.{LedgerParts}
use Rattle.server_core.specs.Acting.{HasDone, IsSpread, planned_message, delivered, delivery_under, links_on, sent_on}
use Rattle.server_core.specs.Core.{core_parts, installed_from, RepresentsServer}
use Rattle.server_core.specs.Kept.{IsCore}
use Rattle.server_core.specs.Routed.{IsRoute, RoutesNext}
use Rattle.server_core.proofs.Sessions.{only}
use Rattle.server_core.proofs.Keeping.{one-notice}
use Rattle.server_core.proofs.Steps.{flat-none}
use Rattle.server_core.proofs.Commands.{plan_work, work-planned, committed, bare-stepped, command-made, command-kept}
use Rattle.hierarchy_network.specs.Core.{hierarchy_parts, unsteered, RepresentsHierarchyServer}
use Rattle.hierarchy_network.specs.Step.{IsHierarchyStep}
use Rattle.hierarchy_network.specs.Acting.{sent_up, goes, links_from}
use Rattle.hierarchy_network.specs.CoreKept.{plain}
use Rattle.hierarchy_network.proofs.Plain.{plain-bare, plain-numbers, plain-stepped, AllOf}
use Rattle.hierarchy_network.proofs.CoreSent.{none-anyway, up-of, picked-links}
use Rattle.hierarchy_network.proofs.Effects.{filters-up}
use Rattle.hierarchy_network.proofs.Receptions.{at-clock, to-plain, from-plain, goes-up}
use Rattle.base.proofs.Sets.{has-map}
use Rattle.base.proofs.Lists.{flat_map-same}

-- a plan that refuses nothing is that of the session under subscription semantics
abbrev pub RefusesNone : Planned → Type 0
RefusesNone p = (o : ℕ) → p ≡ plans.Refused o → ⊥

plain-in : (s : SessionParts) (p : Planned) → RefusesNone p → (o : Option (ℕ × Command)) → plan_in s o ≡ Some p → plan_in (plain s) o ≡ Some p
plain-in s p none None e = absurd cc
plain-in s p none (Some (phase, commands.Subscribe f)) e = e
plain-in s p none (Some (phase, commands.Unsubscribe f)) e = e
plain-in s p none (Some (phase, commands.Advertise a)) e = e
plain-in s p none (Some (phase, commands.Unadvertise a)) e = e
plain-in s p none (Some (phase, commands.Publish n)) e = by (accepts real (net_under s.semantics) (adverts_at s s.taken) n) e
  where
    by : (b : Bool) → Some (cond b (plans.Publish (record { publisher = s.client; ordinal = publishes_at s (suc s.taken) }) n) (plans.Refused (publishes_at s (suc s.taken)))) ≡ Some p
        → Some (plans.Publish (record { publisher = s.client; ordinal = publishes_at s (suc s.taken) }) n) ≡ Some p
    by true e = e
    by false e = absurd (none (publishes_at s (suc s.taken)) (sym (same_Some _ _ e)))

pub plain-plan : (s : SessionParts) (p : Planned) → RefusesNone p → next_plan s ≡ Some p → next_plan (plain s) ≡ Some p
plain-plan s p none e = plain-in s p none (slice_get s.script s.taken) e

-- a publish that is refused is one under subscription semantics
pub record PublishesSome (s : SessionParts) : Type 0 where
  pub id : Id
  pub notice : List Attribute
  pub plans_it : next_plan (plain s) ≡ Some (plans.Publish id notice)

plain-refused : (s : SessionParts) (o : ℕ) → next_plan s ≡ Some (plans.Refused o) → PublishesSome s
plain-refused s o e = go (slice_get s.script s.taken) refl e
  where
    go : (step : Option (ℕ × Command)) → slice_get s.script s.taken ≡ step → plan_in s step ≡ Some (plans.Refused o) → PublishesSome s
    go None at e = absurd cc
    go (Some (phase, commands.Subscribe f)) at e = absurd cc
    go (Some (phase, commands.Unsubscribe f)) at e = absurd cc
    go (Some (phase, commands.Advertise a)) at e = absurd cc
    go (Some (phase, commands.Unadvertise a)) at e = absurd cc
    go (Some (phase, commands.Publish n)) at e = record {
      id = record { publisher = s.client; ordinal = publishes_at s (suc s.taken) };
      notice = n;
      plans_it = ap (plan_in (plain s)) at;
    }

-- a command at sessions of which those of the client have one plan
module _ (server clock stamp client master : ℕ) (old new : LedgerParts) (before after : List SessionParts) (route : List ℕ)
    (kept : IsCore (core_parts server old (map bare (map plain before)) clock))
    (plainly : old.control.semantics ≡ Subscription) (all-of : AllOf old.net.semantics (map bare before))
    (lives : Has client (client_numbers (map bare before)))
    (some-left : (s : SessionParts) → Has s (map bare before) → s.client ≡ client → s.taken < length s.script) where
  pub here : (s : SessionParts) × Has s (map bare before) × (s.client ≡ client)
  here = let r = has-map (λ (s : SessionParts). s.client) (map bare before) client lives in (r.0, r.1, sym r.2)

  -- of plain sessions
  plain-one : (s : SessionParts) → Has s (map bare (map plain before)) → (t : SessionParts) × Has t (map bare before) × (s ≡ plain t)
  plain-one s h = has-map plain (map bare before) s (subst (Has s) (plain-bare before) h)

  left-plain : (s : SessionParts) → Has s (map bare (map plain before)) → s.client ≡ client → s.taken < length s.script
  left-plain s h e =
      let r = plain-one s h in
      subst (λ (z : SessionParts). z.taken < length z.script) (sym r.2) (some-left r.0 r.1 (ap (λ (z : SessionParts). z.client) (sym r.2) ∙ e))

  lives-plain : Has client (client_numbers (map bare (map plain before)))
  lives-plain = subst (Has client) (sym (ap client_numbers (plain-bare before) ∙ plain-numbers (map bare before))) lives

  stepped-plain : map bare (at_client client stepped (map plain after)) ≡ map bare (map plain (at_client client stepped after))
  stepped-plain = ap (map bare) (plain-stepped client after)

  module _ (net : Net real) (state : ServerState real) (stands : RepresentsHierarchyServer net (hierarchy_parts (core_parts server old (map bare before) clock) master) state) where
    client-here : Has client (net.clients server)
    client-here = subst (Has client) (sym stands.stands.clients) lives

    abbrev state-then : ServerState real
    state-then = with_command_executed real net state client

    count : here.0.taken ≡ state.done client
    count = sym (stands.stands.taken here.0 here.1) ∙ ap state.done here.2

    same-semantics : net.adverts ≡ with_adverts here.0.semantics
    same-semantics = stands.refuses ∙ ap with_adverts (sym (all-of here.0 here.1))

    -- the next command, by its plan, and the work that it comes to
    pub record IsNext (p : Planned) : Type 0 where
      pub next : PhasedCommand real
      pub at_next : slice_get (net.script client) (state.done client) ≡ Some next
      pub work : command_work real net client (state.done client) next.command ≡ plan_work net.adverts here.0 p

    next-of : (p : Planned) → next_plan here.0 ≡ Some p → IsNext p
    next-of p q =
        let r = work-planned here.0 net same-semantics (stands.stands.scripts here.0 here.1) (some-left here.0 here.1 here.2) p q in
        record {
          next = r.0;
          at_next = sym (ap (λ z. slice_get (net.script z) here.0.taken) here.2 ∙ ap (slice_get (net.script client)) count) ∙ r.1;
          work = sym (ap (λ z. command_work real net z here.0.taken r.0.command) here.2 ∙ ap (λ z. command_work real net client z r.0.command) count) ∙ r.2;
        }

    -- the step of the hierarchy that takes it
    step-of : (p : Planned) → next_plan here.0 ≡ Some p → local_step real net server state (Does (NextCommand client)) ≡ Some (effect real net server state-then (plan_work net.adverts here.0 p))
    step-of p q =
        let n = next-of p q in
        ap (λ b. cond (b && is_among client (net.clients server)) (command_outcome real net server state client (slice_get (net.script client) (state.done client))) None) stands.stands.among
        ∙ (ap (λ b. cond b (command_outcome real net server state client (slice_get (net.script client) (state.done client))) None) (has-one client (net.clients server) client-here)
        ∙ (ap (command_outcome real net server state client) n.at_next ∙ ap (λ z. Some (effect real net server state-then z)) n.work))

    same-after : (next : ServerState real) → new.net ≡ old.net → new.control.links ≡ old.control.links → RepresentsServer (unsteered net) (core_parts server new (map bare (at_client client stepped after)) stamp) next
        → RepresentsHierarchyServer net (hierarchy_parts (core_parts server new (map bare (at_client client stepped after)) stamp) master) next
    same-after next nets links is = record {
      stands = is;
      refuses = stands.refuses ∙ ap (λ (z : NetParts). with_adverts z.semantics) (sym nets);
      masters = λ link h. stands.masters link (subst (Has link) links h);
    }

    -- among peers that no advertisement steers
    module _ (p : Planned) (none : RefusesNone p) (planned : (s : SessionParts) → Has s (map bare before) → s.client ≡ client → next_plan s ≡ Some p) (all : List SendingParts)
        (deed : HasDone (64 + client) (planned_message old.control.semantics p) route old new (map plain before) (map plain after) all)
        (routes : RoutesNext (core_parts server old (map bare (map plain before)) clock) client route) (stamps : stamp ≡ suc (max clock 0)) where
      planned-plain : (s : SessionParts) → Has s (map bare (map plain before)) → s.client ≡ client → next_plan s ≡ Some p
      planned-plain s h e =
          let r = plain-one s h in
          subst (λ z. next_plan z ≡ Some p) (sym r.2) (plain-plan r.0 p none (planned r.0 r.1 (ap (λ (z : SessionParts). z.client) (sym r.2) ∙ e)))

      abbrev work-then : Work real
      work-then = plan_work false (plain here.0) p

      pub record IsAmongPeers : Type 0 where
        pub state_after : RepresentsServer (unsteered net) (core_parts server new (map bare (at_client client stepped after)) stamp) (peer_effect real (unsteered net) server state-then work-then).state
        pub all_are : all ≡ sent_by old.net (peer_effect real (unsteered net) server state-then work-then).outs old.control.links
        pub nets : new.net ≡ old.net
        pub links : new.control.links ≡ old.control.links

      among-peers : IsAmongPeers
      among-peers =
          let peers = command-made server clock stamp client old new (map plain before) (map plain after) route all kept p planned-plain left-plain deed lives-plain routes stamps in
          let s = peers.step (unsteered net) state (to-plain (unsteered net) server clock old before state stands.stands) in
          let n = next-of p (planned here.0 here.1 here.2) in
          let r = work-planned (plain here.0) (unsteered net) refl (stands.stands.scripts here.0 here.1) (some-left here.0 here.1 here.2) p (plain-plan here.0 p none (planned here.0 here.1 here.2)) in
          let there : slice_get (net.script client) (state.done client) ≡ Some r.0 = sym (ap (λ z. slice_get (net.script z) here.0.taken) here.2 ∙ ap (slice_get (net.script client)) count) ∙ r.1 in
          let work : command_work real (unsteered net) client (state.done client) r.0.command ≡ work-then =
          sym (ap (λ z. command_work real (unsteered net) z here.0.taken r.0.command) here.2 ∙ ap (λ z. command_work real (unsteered net) client z r.0.command) count) ∙ r.2 in
          let c = cond-some (is_among server net.servers) (is_among client (net.clients server)) (peer_outcome real (unsteered net) server state client (slice_get (net.script client) (state.done client))) s.outcome s.step in
          let made : s.outcome ≡ peer_effect real (unsteered net) server state-then work-then =
          sym (same_Some _ _ (sym (ap (peer_outcome real (unsteered net) server state client) there ∙ ap (λ z. Some (peer_effect real (unsteered net) server state-then z)) work) ∙ c.2)) in
          record {
            state_after = from-plain (unsteered net) server stamp new (at_client client stepped after) (peer_effect real (unsteered net) server state-then work-then).state
                (subst (λ z. RepresentsServer (unsteered net) (core_parts server new z stamp) (peer_effect real (unsteered net) server state-then work-then).state) stepped-plain
                (subst (λ z. RepresentsServer (unsteered net) (core_parts server new (map bare (at_client client stepped (map plain after))) stamp) z.state) made s.state_after));
            all_are = s.sent_are ∙ ap (λ z. sent_by old.net z.outs old.control.links) made;
            nets = peers.same_net;
            links = peers.same_links;
          }

  -- what is kept through a command that is not refused
  pub commanded-kept : (p : Planned) → RefusesNone p → ((s : SessionParts) → Has s (map bare before) → s.client ≡ client → next_plan s ≡ Some p) → (all : List SendingParts)
      → HasDone (64 + client) (planned_message old.control.semantics p) route old new (map plain before) (map plain after) all → stamp < 2 ^ 62
      → IsCore (core_parts server new (map bare (map plain (at_client client stepped after))) stamp)
  commanded-kept p none planned all deed low =
      subst (λ z. IsCore (core_parts server new z stamp)) stepped-plain
      (command-kept server clock stamp client old new (map plain before) (map plain after) route all kept p
      (λ s h e. let r = plain-one s h in subst (λ z. next_plan z ≡ Some p) (sym r.2) (plain-plan r.0 p none (planned r.0 r.1 (ap (λ (z : SessionParts). z.client) (sym r.2) ∙ e))))
      left-plain deed low)

  -- THE STEPS
  abbrev pub MadeIn : List SendingParts → Type 0
  MadeIn sent = (net : Net real) (state : ServerState real) → RepresentsHierarchyServer net (hierarchy_parts (core_parts server old (map bare before) clock) master) state
      → IsHierarchyStep net state (Does (NextCommand client)) (hierarchy_parts (core_parts server old (map bare before) clock) master)
      (hierarchy_parts (core_parts server new (map bare (at_client client stepped after)) stamp) master) sent

  no-messages : (b a : Bool) → cond {A = List (Message real)} b (cond a [] []) [] ≡ cond a [] []
  no-messages true a = refl
  no-messages false true = refl
  no-messages false false = refl

  -- a change of filters
  pub filters-step : (out add : List (List ConstraintParts)) → ((s : SessionParts) → Has s (map bare before) → s.client ≡ client → next_plan s ≡ Some (plans.Subs out add)) → (all sent : List SendingParts)
      → HasDone (64 + client) (planned_message old.control.semantics (plans.Subs out add)) route old new (map plain before) (map plain after) all
      → RoutesNext (core_parts server old (map bare (map plain before)) clock) client route → stamp ≡ suc (max clock 0) → sent ≡ sent_up master all → MadeIn sent
  filters-step out add planned all sent deed routes stamps up net state stands =
      let p : Planned = plans.Subs out add in
      let a = among-peers net state stands p (λ o e. cc) planned all deed routes stamps in
      let work : Work real = plan_work net.adverts here.0 p in
      let then = state-then net state stands in
      record {
        outcome = effect real net server then work;
        step = step-of net state stands p (planned here.0 here.1 here.2);
        state_after = same-after net state stands (effect real net server then work).state a.nets a.links a.state_after;
        sent_are = up ∙ (ap (sent_up master) a.all_are
            ∙ (up-of old.net master (peer_effect real (unsteered net) server then work).outs old.control.links
            ∙ flat_map-same (λ link. map (onto old.net link) (cond (link == master) ((peer_effect real (unsteered net) server then work).outs link) [])) (λ link. map (onto old.net link) ((effect real net server then work).outs link)) old.control.links
            (λ link h. ap (map (onto old.net link)) (filters-up net server then (64 + here.0.client) (filter_set_at here.0 (suc here.0.taken)) master link (stands.masters link h)))));
      }

  -- a change of advertisements
  offers-nothing : (net : Net real) (state : ServerState real) (i : ℕ) (xs : List (List ConstraintParts)) (b : Bool) → effect real net server state (cond b (SetsAdverts i xs) Nothing) ≡ effect real net server state Nothing
  offers-nothing net state i xs true = refl
  offers-nothing net state i xs false = refl

  pub adverts-step : (out add : List (List ConstraintParts)) → ((s : SessionParts) → Has s (map bare before) → s.client ≡ client → next_plan s ≡ Some (plans.Advs out add)) → (all sent : List SendingParts)
      → HasDone (64 + client) (planned_message old.control.semantics (plans.Advs out add)) route old new (map plain before) (map plain after) all
      → RoutesNext (core_parts server old (map bare (map plain before)) clock) client route → stamp ≡ suc (max clock 0) → sent ≡ sent_up master all → MadeIn sent
  adverts-step out add planned all sent deed routes stamps up net state stands =
      let p : Planned = plans.Advs out add in
      let a = among-peers net state stands p (λ o e. cc) planned all deed routes stamps in
      let then = state-then net state stands in
      record {
        outcome = effect real net server then Nothing;
        step = step-of net state stands p (planned here.0 here.1 here.2) ∙ ap Some (offers-nothing net then (64 + here.0.client) (advert_set_at here.0 (suc here.0.taken)) net.adverts);
        state_after = same-after net state stands then a.nets a.links a.state_after;
        sent_are = up ∙ (ap (sent_up master) a.all_are
            ∙ (up-of old.net master (peer_effect real (unsteered net) server then Nothing).outs old.control.links
            ∙ flat_map-same (λ link. map (onto old.net link) (cond (link == master) ((peer_effect real (unsteered net) server then Nothing).outs link) [])) (λ link. map (onto old.net link) ((effect real net server then Nothing).outs link)) old.control.links
            (λ link h. ap (map (onto old.net link)) (no-messages (link == master) (is_among link (net.links server))))));
      }

  -- a publish that is accepted
  pub publish-step : (id : Id) (n : List Attribute) → ((s : SessionParts) → Has s (map bare before) → s.client ≡ client → next_plan s ≡ Some (plans.Publish id n)) → (sent : List SendingParts) → (same : new ≡ old)
      → IsSpread old.net (64 + client) id.publisher id.ordinal n route old.control.links (map plain before) (map plain after) (sent_on old.net (Noticed id.publisher id.ordinal n) (links_on old.control.links (64 + client) route))
      → IsRoute n (installed_from (core_parts server old (map bare before) clock)) route → stamp ≡ suc (max clock 0)
      → sent ≡ sent_on old.net (Noticed id.publisher id.ordinal n) (links_from master (64 + client) route old.control.links) → MadeIn sent
  publish-step id n planned sent same spread is-route stamps are net state stands =
      let p : Planned = plans.Publish id n in
      let all = sent_on old.net (Noticed id.publisher id.ordinal n) (links_on old.control.links (64 + client) route) in
      let routes : RoutesNext (core_parts server old (map bare (map plain before)) clock) client route =
      (λ s i m h e q. let r = plain-one s h in
      let t = plain-plan r.0 p (λ o f. cc) (planned r.0 r.1 (ap (λ (z : SessionParts). z.client) (sym r.2) ∙ e)) in
      subst (λ z. IsRoute z (installed_from (core_parts server old (map bare (map plain before)) clock)) route) (one-notice s id i n m (subst (λ z. next_plan z ≡ Some p) (sym r.2) t) q) is-route) in
      let a = among-peers net state stands p (λ o e. cc) planned all (same, spread) routes stamps in
      let then = state-then net state stands in
      let work : Work real = Routes (64 + client) id.publisher id.ordinal n in
      record {
        outcome = effect real net server then work;
        step = step-of net state stands p (planned here.0 here.1 here.2) ∙ ap (λ c. Some (effect real net server then (Routes (64 + c) id.publisher id.ordinal n))) here.2;
        state_after = same-after net state stands (effect real net server then work).state a.nets a.links a.state_after;
        sent_are = are ∙ (picked-links old.net (goes master (64 + client) route) (Noticed id.publisher id.ordinal n) old.control.links
            ∙ flat_map-same (λ link. map (onto old.net link) (cond (goes master (64 + client) route link) (Noticed id.publisher id.ordinal n ∷ []) [])) (λ link. map (onto old.net link) ((effect real net server then work).outs link)) old.control.links
            (λ link h. ap (map (onto old.net link)) (goes-up net server clock master (64 + client) old (map bare before) state stands n route is-route id.publisher id.ordinal link h)));
      }

  -- a publish that is refused
  pub refused-step : (o : ℕ) → ((s : SessionParts) → Has s (map bare before) → s.client ≡ client → next_plan s ≡ Some (plans.Refused o)) → (sent : List SendingParts) → new ≡ old → map bare after ≡ map bare before → sent ≡ [] → MadeIn sent
  refused-step o planned sent same bares quiet net state stands =
      let then = state-then net state stands in
      record {
        outcome = effect real net server then Nothing;
        step = step-of net state stands (plans.Refused o) (planned here.0 here.1 here.2);
        state_after = same-after net state stands then (ap (λ z. z.net) same) (ap (λ z. z.control.links) same)
            (subst (λ z. RepresentsServer (unsteered net) (core_parts server new z stamp) then) (sym (bare-stepped client after))
            (subst (λ z. RepresentsServer (unsteered net) (core_parts server z (at_client client stepped (map bare after)) stamp) then) (sym same)
            (subst (λ z. RepresentsServer (unsteered net) (core_parts server old (at_client client stepped z) stamp) then) (sym bares)
            (committed (unsteered net) server stamp client old (map bare before) state (at-clock (unsteered net) server clock stamp old (map bare before) state stands.stands)))));
        sent_are = quiet ∙ sym (flat-none (λ link. map (onto old.net link) ((effect real net server then Nothing).outs link)) old.control.links (λ link m. ap (map (onto old.net link)) (none-anyway (is_among link (net.links server)))));
      }

  none-delivered : (d : Delivery) (ss : List SessionParts) → delivered [] d ss ≡ ss
  none-delivered d [] = refl
  none-delivered d (s ∷ ss) = ap (λ z. s ∷ z) (none-delivered d ss)

  pub refused-kept : (o : ℕ) → ((s : SessionParts) → Has s (map bare before) → s.client ≡ client → next_plan s ≡ Some (plans.Refused o)) → IsStrictlyIncreasing (client_numbers (map bare before))
      → new ≡ old → map bare after ≡ map bare before → stamp < 2 ^ 62 → IsCore (core_parts server new (map bare (map plain (at_client client stepped after))) stamp)
  refused-kept o planned rises same bares low =
      let p = plain-refused here.0 o (planned here.0 here.1 here.2) in
      let spread : IsSpread old.net (64 + client) p.id.publisher p.id.ordinal p.notice [] old.control.links (map plain before) (map plain after) [] = record {
        inboxes = plain-bare after ∙ (ap (map plain) bares ∙ (sym (plain-bare before) ∙ ap (map bare) (sym (none-delivered (delivery_under p.id.publisher p.id.ordinal p.notice) (map plain before)))));
        sent_are = refl;
      } in
      subst (λ z. IsCore (core_parts server new z stamp)) stepped-plain
      (command-kept server clock stamp client old new (map plain before) (map plain after) [] [] kept (plans.Publish p.id p.notice)
      (λ s h e.
      let r = plain-one s h in
      let one : r.0 ≡ here.0 = only (map bare before) rises r.0 here.0 r.1 here.1 (ap (λ (z : SessionParts). z.client) (sym r.2) ∙ (e ∙ sym here.2)) in
      ap next_plan r.2 ∙ (ap (λ z. next_plan (plain z)) one ∙ p.plans_it))
      left-plain (same, spread) low)
