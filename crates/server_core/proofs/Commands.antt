-- A client's next command as a step of the server.
use Rattle.std.proofs.Common.{◌≡◌, ◌≢◌, inr, ℕ, zero, suc, max, ◌+◌, ◌^◌, ◌<◌, ◌≤◌, ◌==◌, nat_lt, cond, not, ◌&&◌, ◌||◌, Bool, true, false, List, [], ◌∷◌, ◌++◌, map, take, slice_get, length, Option, Some, None, refl, sym, ap, subst, ◌∙◌, arith}
use Rattle.std.specs.Int.{IsInRange}
use Rattle.std.proofs.lemmas.Bool.Decides.{nat_tests}
use Rattle.std.proofs.lemmas.Option.{same_Some}
use Rattle.filter_constraints.specs.Constraint.{ConstraintParts}
use Rattle.filter_types.specs.Notice.{Attribute}
use Rattle.base.specs.Sets.{Has, IsRising, union, minus}
use Rattle.law_machine.specs.Machine.{Does, at}
use Rattle.law_routing.specs.Net.{Net, PhasedCommand}
use Rattle.law_routing.specs.Clients.{filters_step, filters_after, adverts_step, adverts_after, accepts, ordinal}
use Rattle.law_routing.specs.Server.{Message, Subs, Advs, Noticed, ServerState, is_among, interfaces}
use Rattle.law_routing.specs.Step.{NextCommand, Work, SetsFilters, SetsAdverts, Routes, InstallsTable, Nothing, with_command_executed, effect, command_work, command_outcome}
use Rattle.law_routing.proofs.Listing.{has-one}
use Rattle.net_model.specs.Real.{real, real_laws}
use Rattle.filter_text.specs.declared.id.Id.{Id}
use Rattle.filter_text.specs.declared.command.Command.{Command}
use Rattle.filter_text.specs.declared.command.Command.TheVariants as commands
use Rattle.filter_text.specs.declared.semantics.Semantics.{Semantics}
use Rattle.filter_text.specs.declared.semantics.Semantics.TheVariants.{Subscription, Advertisement}
use Rattle.server_message.specs.Parts.{SendingParts, onto, sent_by}
use Rattle.server_spec.specs.Holdings.{held_from}
use Rattle.server_spec.specs.Control.{by_adverts, subs, advs}
use Rattle.net_model.specs.Meaning.{phased_command, command_of, deliveries_of}
use Rattle.net_model.specs.Nets.{with_adverts}
use Rattle.net_model.proofs.Adding.{accepts-same}
use Rattle.server_spec.specs.declared.planned.Planned.{Planned}
use Rattle.server_spec.specs.declared.planned.Planned.TheVariants as plans
use Rattle.server_spec.specs.Session.{SessionParts, adverts_at, publishes_at, net_under}
use Rattle.server_spec.specs.Plan.{plan_by, plan_in, next_plan}
use Rattle.server_spec.specs.Turn.{filter_set_at, advert_set_at}
use Rattle.server_spec.proofs.Turning.{filters-turn, adverts-turn}
use Rattle.server_core.specs.Clients.{bare, client_numbers, at_client, stepped}
use Rattle.server_core.specs.Ledger.{LedgerParts}
use Rattle.server_core.specs.Acting.{HasDone, planned_message}
use Rattle.server_core.specs.Core.{core_parts, RepresentsServer}
use Rattle.server_core.specs.Kept.{IsCore}
use Rattle.server_core.specs.Routed.{RoutesNext}
use Rattle.server_core.specs.Step.{IsServerStep, MakesStep}
use Rattle.server_core.proofs.Steps.{IsDone, flat-none}
use Rattle.server_core.proofs.Made.{IsOwn, own-refl, filters-own, adverts-own, own-of, IsLeft, left-of, acted}
use Rattle.base.proofs.Lists.{get-map, get-below}
use Rattle.base.proofs.Sets.{has-map, map-has}
use Rattle.server_session.proofs.Keeping.{filters-after, adverts-after}

-- the sets after a plan
abbrev pub filters_by : SessionParts → Planned → List (List ConstraintParts)
filters_by s (plans.Subs out add) = filter_set_at s (suc s.taken)
filters_by s (plans.Advs out add) = filter_set_at s s.taken
filters_by s (plans.Publish id n) = filter_set_at s s.taken
filters_by s (plans.Refused o) = filter_set_at s s.taken

abbrev pub adverts_by : SessionParts → Planned → List (List ConstraintParts)
adverts_by s (plans.Subs out add) = advert_set_at s s.taken
adverts_by s (plans.Advs out add) = advert_set_at s (suc s.taken)
adverts_by s (plans.Publish id n) = advert_set_at s s.taken
adverts_by s (plans.Refused o) = advert_set_at s s.taken

-- the work of a plan
abbrev pub plan_work : Bool → SessionParts → Planned → Work real
plan_work adverts s (plans.Subs out add) = SetsFilters (64 + s.client) (filter_set_at s (suc s.taken))
plan_work adverts s (plans.Advs out add) = cond adverts (SetsAdverts (64 + s.client) (advert_set_at s (suc s.taken))) Nothing
plan_work adverts s (plans.Publish id n) = Routes (64 + s.client) id.publisher id.ordinal n
plan_work adverts s (plans.Refused o) = Nothing

module _ (s : SessionParts) where
  step-filters : (phase : ℕ) (command : Command) → slice_get s.script s.taken ≡ Some (phase, command) → filter_set_at s (suc s.taken) ≡ filters_step real (filter_set_at s s.taken) (command_of command)
  step-filters phase command e = filters-after (map phased_command s.script) [] s.taken (phased_command (phase, command)) (get-map phased_command s.script s.taken (phase, command) e)

  step-adverts : (phase : ℕ) (command : Command) → slice_get s.script s.taken ≡ Some (phase, command) → advert_set_at s (suc s.taken) ≡ adverts_step real (advert_set_at s s.taken) (command_of command)
  step-adverts phase command e = adverts-after (map phased_command s.script) [] s.taken (phased_command (phase, command)) (get-map phased_command s.script s.taken (phase, command) e)

  chosen-filters : (b : Bool) (id : Id) (n : List Attribute) (o : ℕ) → filter_set_at s s.taken ≡ filters_by s (cond b (plans.Publish id n) (plans.Refused o))
  chosen-filters true id n o = refl
  chosen-filters false id n o = refl

  chosen-adverts : (b : Bool) (id : Id) (n : List Attribute) (o : ℕ) → advert_set_at s s.taken ≡ adverts_by s (cond b (plans.Publish id n) (plans.Refused o))
  chosen-adverts true id n o = refl
  chosen-adverts false id n o = refl

  abbrev pub id_then : Id
  id_then = record { publisher = s.client; ordinal = publishes_at s (suc s.taken) }

  filters-then : (phase : ℕ) (command : Command) → slice_get s.script s.taken ≡ Some (phase, command) → filter_set_at s (suc s.taken) ≡ filters_by s (plan_by s command)
  filters-then phase (commands.Subscribe f) e = refl
  filters-then phase (commands.Unsubscribe f) e = refl
  filters-then phase (commands.Advertise a) e = step-filters phase (commands.Advertise a) e
  filters-then phase (commands.Unadvertise a) e = step-filters phase (commands.Unadvertise a) e
  filters-then phase (commands.Publish n) e = step-filters phase (commands.Publish n) e ∙ chosen-filters (accepts real (net_under s.semantics) (adverts_at s s.taken) n) id_then n (publishes_at s (suc s.taken))

  adverts-then : (phase : ℕ) (command : Command) → slice_get s.script s.taken ≡ Some (phase, command) → advert_set_at s (suc s.taken) ≡ adverts_by s (plan_by s command)
  adverts-then phase (commands.Subscribe f) e = step-adverts phase (commands.Subscribe f) e
  adverts-then phase (commands.Unsubscribe f) e = step-adverts phase (commands.Unsubscribe f) e
  adverts-then phase (commands.Advertise a) e = refl
  adverts-then phase (commands.Unadvertise a) e = refl
  adverts-then phase (commands.Publish n) e = step-adverts phase (commands.Publish n) e ∙ chosen-adverts (accepts real (net_under s.semantics) (adverts_at s s.taken) n) id_then n (publishes_at s (suc s.taken))

  plan-is : (phase : ℕ) (command : Command) → slice_get s.script s.taken ≡ Some (phase, command) → (p : Planned) → next_plan s ≡ Some p → plan_by s command ≡ p
  plan-is phase command e p q = same_Some _ _ (sym (ap (plan_in s) e) ∙ q)

  -- the sets after the next command, by its plan
  pub filters-planned : s.taken < length s.script → (p : Planned) → next_plan s ≡ Some p → filter_set_at s (suc s.taken) ≡ filters_by s p
  filters-planned l p q =
      let r = get-below s.script s.taken l in
      filters-then r.0.0 r.0.1 r.1 ∙ ap (filters_by s) (plan-is r.0.0 r.0.1 r.1 p q)

  pub adverts-planned : s.taken < length s.script → (p : Planned) → next_plan s ≡ Some p → advert_set_at s (suc s.taken) ≡ adverts_by s p
  adverts-planned l p q =
      let r = get-below s.script s.taken l in
      adverts-then r.0.0 r.0.1 r.1 ∙ ap (adverts_by s) (plan-is r.0.0 r.0.1 r.1 p q)

  module _ (net : Net real) (one-semantics : net.adverts ≡ with_adverts s.semantics) (one-script : net.script s.client ≡ map phased_command s.script) where
    routed : (b : Bool) (o : ℕ) (n : List Attribute) → cond b (Routes (64 + s.client) s.client o n) Nothing ≡ plan_work net.adverts s (cond b (plans.Publish (record { publisher = s.client; ordinal = o }) n) (plans.Refused o))
    routed true o n = refl
    routed false o n = refl

    accepted : (n : List Attribute) → accepts real net (adverts_after real [] (take s.taken (map phased_command s.script))) n ≡ accepts real (net_under s.semantics) (adverts_at s s.taken) n
    accepted n =
        ap (λ z. not z || Rattle.law_routing.specs.Clients.some_pass (λ a. real.allows a n) (adverts_after real [] (take s.taken (map phased_command s.script)))) one-semantics
        ∙ sym (accepts-same real real_laws (net_under s.semantics) (take s.taken (map phased_command s.script)) n)

    work-is : (command : Command) → command_work real net s.client s.taken (command_of command) ≡ plan_work net.adverts s (plan_by s command)
    work-is (commands.Subscribe f) = ap (λ z. SetsFilters (64 + s.client) (filters_after real [] (take (suc s.taken) z))) one-script
    work-is (commands.Unsubscribe f) = ap (λ z. SetsFilters (64 + s.client) (filters_after real [] (take (suc s.taken) z))) one-script
    work-is (commands.Advertise a) = ap (λ z. cond net.adverts (SetsAdverts (64 + s.client) (adverts_after real [] (take (suc s.taken) z))) Nothing) one-script
    work-is (commands.Unadvertise a) = ap (λ z. cond net.adverts (SetsAdverts (64 + s.client) (adverts_after real [] (take (suc s.taken) z))) Nothing) one-script
    work-is (commands.Publish n) =
        ap (λ z. cond (accepts real net (adverts_after real [] (take s.taken z)) n) (Routes (64 + s.client) s.client (ordinal real (take (suc s.taken) z)) n) Nothing) one-script
        ∙ ap (λ b. cond b (Routes (64 + s.client) s.client (ordinal real (take (suc s.taken) (map phased_command s.script))) n) Nothing) (accepted n)
        ∙ routed (accepts real (net_under s.semantics) (adverts_at s s.taken) n) (ordinal real (take (suc s.taken) (map phased_command s.script))) n

    -- the work of the next command, by its plan
    pub work-planned : (l : s.taken < length s.script) (p : Planned) → next_plan s ≡ Some p → (x : PhasedCommand real) × (slice_get (net.script s.client) s.taken ≡ Some x) × (command_work real net s.client s.taken x.command ≡ plan_work net.adverts s p)
    work-planned l p q =
        let r = get-below s.script s.taken l in (
          phased_command r.0,
          ap (λ z. slice_get z s.taken) one-script ∙ get-map phased_command s.script s.taken r.0 r.1,
          work-is r.0.1 ∙ ap (plan_work net.adverts s) (plan-is r.0.0 r.0.1 r.1 p q),
        )

-- a command that is executed besides a work
taken-state : (net : Net real) (server client : ℕ) (state : ServerState real) (w : Work real) → (effect real net server (with_command_executed real net state client) w).state ≡ with_command_executed real net (effect real net server state w).state client
taken-state net server client state (SetsFilters i fs) = refl
taken-state net server client state (SetsAdverts i fs) = refl
taken-state net server client state (Routes i p o n) = refl
taken-state net server client state InstallsTable = refl
taken-state net server client state Nothing = refl

taken-outs : (net : Net real) (server client : ℕ) (state : ServerState real) (w : Work real) → (effect real net server (with_command_executed real net state client) w).outs ≡ (effect real net server state w).outs
taken-outs net server client state (SetsFilters i fs) = refl
taken-outs net server client state (SetsAdverts i fs) = refl
taken-outs net server client state (Routes i p o n) = refl
taken-outs net server client state InstallsTable = refl
taken-outs net server client state Nothing = refl

-- sessions of which one executed its command
pub bare-stepped : (client : ℕ) (sessions : List SessionParts) → map bare (at_client client stepped sessions) ≡ at_client client stepped (map bare sessions)
bare-stepped client [] = refl
bare-stepped client (s ∷ sessions) = go (s.client == client) (bare-stepped client sessions)
  where
    go : (b : Bool) → map bare (at_client client stepped sessions) ≡ at_client client stepped (map bare sessions) → bare (cond b (stepped s) s) ∷ map bare (at_client client stepped sessions) ≡ cond b (stepped (bare s)) (bare s) ∷ at_client client stepped (map bare sessions)
    go true ih = ap (λ z. stepped (bare s) ∷ z) ih
    go false ih = ap (λ z. bare s ∷ z) ih

pub numbers-stepped : (client : ℕ) (sessions : List SessionParts) → client_numbers (at_client client stepped sessions) ≡ client_numbers sessions
numbers-stepped client [] = refl
numbers-stepped client (s ∷ sessions) = go (s.client == client) (numbers-stepped client sessions)
  where
    go : (b : Bool) → client_numbers (at_client client stepped sessions) ≡ client_numbers sessions → (cond b (stepped s) s).client ∷ client_numbers (at_client client stepped sessions) ≡ s.client ∷ client_numbers sessions
    go true ih = ap (λ z. s.client ∷ z) ih
    go false ih = ap (λ z. s.client ∷ z) ih

-- one of them
data Took (client : ℕ) (sessions : List SessionParts) (s : SessionParts) : Type 0 where
  took : (t : SessionParts) → Has t sessions → t.client ≡ client → s ≡ stepped t → Took client sessions s
  kept-on : (t : SessionParts) → Has t sessions → t.client ≢ client → s ≡ t → Took client sessions s

took-one : (client : ℕ) (sessions : List SessionParts) (s : SessionParts) → Has s (at_client client stepped sessions) → Took client sessions s
took-one client sessions s m =
    let r = has-map (λ t. cond (t.client == client) (stepped t) t) sessions s m in
    go r.0 r.1 (r.0.client == client) refl r.2
  where
    go : (t : SessionParts) → Has t sessions → (b : Bool) → (t.client == client) ≡ b → s ≡ cond (t.client == client) (stepped t) t → Took client sessions s
    go t h true e q =
        let same : t.client ≡ client = grind (arith, nat_tests, e) in
        took t h same (q ∙ ap (λ b. cond b (stepped t) t) e)
    go t h false e q =
        let other : t.client ≢ client = grind (arith, nat_tests, e) in
        kept-on t h other (q ∙ ap (λ b. cond b (stepped t) t) e)

pub committed : (net : Net real) (server clock client : ℕ) (ledger : LedgerParts) (sessions : List SessionParts) (state : ServerState real) → RepresentsServer net (core_parts server ledger sessions clock) state → RepresentsServer net (core_parts server ledger (at_client client stepped sessions) clock) (with_command_executed real net state client)
committed net server clock client ledger sessions state stands = record {
  among = stands.among;
  control = record {
    adverts = stands.control.adverts;
    links = stands.control.links;
    subs_held = stands.control.subs_held;
    advs_held = stands.control.advs_held;
    subs_apart = stands.control.subs_apart;
    advs_apart = stands.control.advs_apart;
  };
  installed = stands.installed;
  installed_apart = stands.installed_apart;
  pending = stands.pending;
  clients = stands.clients ∙ sym (numbers-stepped client sessions);
  scripts = λ s m. scripts s (took-one client sessions s m);
  taken = λ s m. taken s (took-one client sessions s m);
  inboxes = λ s m. inboxes s (took-one client sessions s m);
}
  where
    scripts : (s : SessionParts) → Took client sessions s → net.script s.client ≡ map phased_command s.script
    scripts s (took t h e q) = subst (λ z. net.script z.client ≡ map phased_command z.script) (sym q) (stands.scripts t h)
    scripts s (kept-on t h n q) = subst (λ z. net.script z.client ≡ map phased_command z.script) (sym q) (stands.scripts t h)

    taken : (s : SessionParts) → Took client sessions s → at state.done client (suc (state.done client)) s.client ≡ s.taken
    taken s (took t h e q) =
        let on : (t.client == client) ≡ true = grind (arith, nat_tests, e) in
        subst (λ z. at state.done client (suc (state.done client)) z.client ≡ z.taken) (sym q)
        (ap (λ b. cond b (suc (state.done client)) (state.done t.client)) on ∙ ap (λ z. suc (state.done z)) (sym e) ∙ ap suc (stands.taken t h))
    taken s (kept-on t h n q) =
        let off : (t.client == client) ≡ false = grind (arith, nat_tests, n) in
        subst (λ z. at state.done client (suc (state.done client)) z.client ≡ z.taken) (sym q)
        (ap (λ b. cond b (suc (state.done client)) (state.done t.client)) off ∙ stands.taken t h)

    inboxes : (s : SessionParts) → Took client sessions s → s.inbox ≡ deliveries_of (state.inbox s.client)
    inboxes s (took t h e q) = subst (λ z. z.inbox ≡ deliveries_of (state.inbox z.client)) (sym q) (stands.inboxes t h)
    inboxes s (kept-on t h n q) = subst (λ z. z.inbox ≡ deliveries_of (state.inbox z.client)) (sym q) (stands.inboxes t h)

module _ (server clock stamp client : ℕ) (old new : LedgerParts) (clients mid : List SessionParts) (route : List ℕ) (sent : List SendingParts)
    (kept : IsCore (core_parts server old (map bare clients) clock)) (p : Planned)
    (planned : (s : SessionParts) → Has s (map bare clients) → s.client ≡ client → next_plan s ≡ Some p)
    (some-left : (s : SessionParts) → Has s (map bare clients) → s.client ≡ client → s.taken < length s.script)
    (deed : HasDone (64 + client) (planned_message old.control.semantics p) route old new clients mid sent) where
  -- what a deed leaves
  deed-left : (o : Option (Message real)) → HasDone (64 + client) o route old new clients mid sent → IsLeft server clock stamp (64 + client) old new clients mid route sent kept
  deed-left None d = record { net = ap (λ z. z.net) d.0; semantics = ap (λ z. z.control.semantics) d.0; links = ap (λ z. z.control.links) d.0; filters = λ i n. ap (λ z. subs z.control i) d.0; adverts = λ i n. ap (λ z. advs z.control i) d.0 }
  deed-left (Some m) d = left-of server clock stamp (64 + client) old new clients mid route sent kept m d

  deed-own : (o : Option (Message real)) → HasDone (64 + client) o route old new clients mid sent → (s : SessionParts) → Has s (map bare mid) → (t : SessionParts) × Has t (map bare clients) × IsOwn s t
  deed-own None d s h = (s, subst (Has s) d.1 h, own-refl s)
  deed-own (Some m) d s h = own-of server clock stamp (64 + client) old new clients mid route sent kept m d s h

  left : IsLeft server clock stamp (64 + client) old new clients mid route sent kept
  left = deed-left (planned_message old.control.semantics p) deed

  own-filters : (s : SessionParts) → Has s (map bare clients) → s.client ≡ client → subs old.control (64 + client) ≡ filter_set_at s s.taken
  own-filters s h e = ap (λ z. subs old.control (64 + z)) (sym e) ∙ kept.own_filters s h

  own-adverts : (s : SessionParts) → Has s (map bare clients) → s.client ≡ client → by_adverts old.control.semantics ≡ true → advs old.control (64 + client) ≡ advert_set_at s s.taken
  own-adverts s h e on = ap (λ z. advs old.control (64 + z)) (sym e) ∙ kept.own_adverts s h on

  -- what is held from the client then
  filters-now : (semantics : Semantics) (q : Planned) → ((s : SessionParts) → Has s (map bare clients) → s.client ≡ client → next_plan s ≡ Some q) → HasDone (64 + client) (planned_message semantics q) route old new clients mid sent
      → (s : SessionParts) → Has s (map bare clients) → s.client ≡ client → subs new.control (64 + client) ≡ filters_by s q
  filters-now semantics (plans.Subs out add) pl d s h e = d.0.held ∙ ap (λ z. union real.before add (minus real.before z out)) (own-filters s h e) ∙ filters-turn s out add (pl s h e)
  filters-now Subscription (plans.Advs out add) pl d s h e = ap (λ z. subs z.control (64 + client)) d.0 ∙ own-filters s h e
  filters-now Advertisement (plans.Advs out add) pl d s h e = ap (λ z. held_from real.before (64 + client) z) d.0.filters ∙ own-filters s h e
  filters-now semantics (plans.Publish id n) pl d s h e = ap (λ z. subs z.control (64 + client)) d.0 ∙ own-filters s h e
  filters-now semantics (plans.Refused o) pl d s h e = ap (λ z. subs z.control (64 + client)) d.0 ∙ own-filters s h e

  adverts-now : (semantics : Semantics) → semantics ≡ old.control.semantics → by_adverts semantics ≡ true → (q : Planned) → ((s : SessionParts) → Has s (map bare clients) → s.client ≡ client → next_plan s ≡ Some q) → HasDone (64 + client) (planned_message semantics q) route old new clients mid sent
      → (s : SessionParts) → Has s (map bare clients) → s.client ≡ client → advs new.control (64 + client) ≡ adverts_by s q
  adverts-now semantics same on (plans.Subs out add) pl d s h e = ap (λ z. held_from real.before_advert (64 + client) z) d.0.offered ∙ own-adverts s h e (ap by_adverts (sym same) ∙ on)
  adverts-now Subscription same on (plans.Advs out add) pl d s h e = absurd cc
  adverts-now Advertisement same on (plans.Advs out add) pl d s h e = d.0.held ∙ ap (λ z. union real.before_advert add (minus real.before_advert z out)) (own-adverts s h e (ap by_adverts (sym same) ∙ on)) ∙ adverts-turn s out add (pl s h e)
  adverts-now semantics same on (plans.Publish id n) pl d s h e = ap (λ z. advs z.control (64 + client)) d.0 ∙ own-adverts s h e (ap by_adverts (sym same) ∙ on)
  adverts-now semantics same on (plans.Refused o) pl d s h e = ap (λ z. advs z.control (64 + client)) d.0 ∙ own-adverts s h e (ap by_adverts (sym same) ∙ on)

  filters-then-at : (s t : SessionParts) → IsOwn s t → filter_set_at (stepped s) (suc s.taken) ≡ filter_set_at t (suc t.taken)
  filters-then-at s t o = ap (λ z. filters_after real [] (take (suc z) (map phased_command s.script))) o.taken ∙ ap (λ z. filters_after real [] (take (suc t.taken) (map phased_command z))) o.script

  adverts-then-at : (s t : SessionParts) → IsOwn s t → advert_set_at (stepped s) (suc s.taken) ≡ advert_set_at t (suc t.taken)
  adverts-then-at s t o = ap (λ z. adverts_after real [] (take (suc z) (map phased_command s.script))) o.taken ∙ ap (λ z. adverts_after real [] (take (suc t.taken) (map phased_command z))) o.script

  pub command-kept : stamp < 2 ^ 62 → IsCore (core_parts server new (map bare (at_client client stepped mid)) stamp)
  command-kept low = record {
    clock_low = low;
    links_rise = subst (IsRising nat_lt) (sym left.links) kept.links_rise;
    links_small = subst (λ z. (link : ℕ) → Has link z → link ≤ 64) (sym left.links) kept.links_small;
    one_semantics = λ s h. semantics s (one s h);
    ids = λ s h. ids s (one s h);
    own_filters = λ s h. filters s (one s h);
    own_adverts = λ s h on. adverts s (one s h) on;
  }
    where
      one : (s : SessionParts) → Has s (map bare (at_client client stepped mid)) → Took client (map bare mid) s
      one s h = took-one client (map bare mid) s (subst (Has s) (bare-stepped client mid) h)

      before : (t : SessionParts) → Has t (map bare mid) → (u : SessionParts) × Has u (map bare clients) × IsOwn t u
      before t h = deed-own (planned_message old.control.semantics p) deed t h

      semantics : (s : SessionParts) → Took client (map bare mid) s → s.semantics ≡ new.control.semantics
      semantics s (took t h e q) = let u = before t h in ap (λ z. z.semantics) q ∙ u.2.semantics ∙ kept.one_semantics u.0 u.1 ∙ sym left.semantics
      semantics s (kept-on t h n q) = let u = before t h in ap (λ z. z.semantics) q ∙ u.2.semantics ∙ kept.one_semantics u.0 u.1 ∙ sym left.semantics

      ids : (s : SessionParts) → Took client (map bare mid) s → IsInRange 1 1024 s.client
      ids s (took t h e q) = let u = before t h in subst (IsInRange 1 1024) (sym (ap (λ z. z.client) q ∙ u.2.client)) (kept.ids u.0 u.1)
      ids s (kept-on t h n q) = let u = before t h in subst (IsInRange 1 1024) (sym (ap (λ z. z.client) q ∙ u.2.client)) (kept.ids u.0 u.1)

      filters : (s : SessionParts) → Took client (map bare mid) s → subs new.control (64 + s.client) ≡ filter_set_at s s.taken
      filters s (took t h e q) =
          let u = before t h in
          let c : u.0.client ≡ client = sym u.2.client ∙ e in
          subst (λ z. subs new.control (64 + z.client) ≡ filter_set_at z z.taken) (sym q)
          (ap (λ z. subs new.control (64 + z)) e ∙ filters-now old.control.semantics p planned deed u.0 u.1 c ∙ sym (filters-planned u.0 (some-left u.0 u.1 c) p (planned u.0 u.1 c)) ∙ sym (filters-then-at t u.0 u.2))
      filters s (kept-on t h n q) =
          let u = before t h in
          subst (λ z. subs new.control (64 + z.client) ≡ filter_set_at z z.taken) (sym q)
          (left.filters (64 + t.client) (λ e. n (omega (arith, e))) ∙ ap (λ z. subs old.control (64 + z)) u.2.client ∙ kept.own_filters u.0 u.1 ∙ sym (filters-own t u.0 u.2))

      adverts : (s : SessionParts) → Took client (map bare mid) s → by_adverts new.control.semantics ≡ true → advs new.control (64 + s.client) ≡ advert_set_at s s.taken
      adverts s (took t h e q) on =
          let u = before t h in
          let c : u.0.client ≡ client = sym u.2.client ∙ e in
          subst (λ z. advs new.control (64 + z.client) ≡ advert_set_at z z.taken) (sym q)
          (ap (λ z. advs new.control (64 + z)) e ∙ adverts-now old.control.semantics refl (ap by_adverts (sym left.semantics) ∙ on) p planned deed u.0 u.1 c ∙ sym (adverts-planned u.0 (some-left u.0 u.1 c) p (planned u.0 u.1 c)) ∙ sym (adverts-then-at t u.0 u.2))
      adverts s (kept-on t h n q) on =
          let u = before t h in
          subst (λ z. advs new.control (64 + z.client) ≡ advert_set_at z z.taken) (sym q)
          (left.adverts (64 + t.client) (λ e. n (omega (arith, e))) ∙ ap (λ z. advs old.control (64 + z)) u.2.client ∙ kept.own_adverts u.0 u.1 (ap by_adverts (sym left.semantics) ∙ on) ∙ sym (adverts-own t u.0 u.2))

  -- the step
  module _ (lives : Has client (client_numbers (map bare clients))) (routes : RoutesNext (core_parts server old (map bare clients) clock) client route) where
    here : (s : SessionParts) × Has s (map bare clients) × (s.client ≡ client)
    here = let r = has-map (λ s. s.client) (map bare clients) client lives in (r.0, r.1, sym r.2)

    none : (b : Bool) → cond {A = List (Message real)} b [] [] ≡ []
    none true = refl
    none false = refl

    still : (net : Net real) (state : ServerState real) → RepresentsServer net (core_parts server old (map bare clients) clock) state → new ≡ old → map bare mid ≡ map bare clients → sent ≡ []
        → IsDone old.net net server state Nothing (core_parts server new (map bare mid) stamp) old.control.links sent
    still net state stands same bares quiet = record {
      state_after = subst (λ z. RepresentsServer net (core_parts server z (map bare mid) stamp) state) (sym same) (subst (λ z. RepresentsServer net (core_parts server old z stamp) state) (sym bares) (record {
        among = stands.among;
        control = stands.control;
        installed = stands.installed;
        installed_apart = stands.installed_apart;
        pending = stands.pending;
        clients = stands.clients;
        scripts = stands.scripts;
        taken = stands.taken;
        inboxes = stands.inboxes;
      }));
      sent_are = quiet ∙ sym (flat-none (λ link. map (onto old.net link) (cond (is_among link (net.links server)) [] [])) old.control.links (λ link m. ap (map (onto old.net link)) (none (is_among link (net.links server)))));
    }

    module _ (net : Net real) (state : ServerState real) (stands : RepresentsServer net (core_parts server old (map bare clients) clock) state) where
      client-here : Has client (net.clients server)
      client-here = subst (Has client) (sym stands.clients) lives

      reached : Has (64 + client) (interfaces real net server)
      reached = back (net.links server)
        where
          back : (xs : List ℕ) → Has (64 + client) (xs ++ map (λ c. 64 + c) (net.clients server))
          back [] = map-has (λ c. 64 + c) (net.clients server) client client-here
          back (x ∷ xs) = inr (back xs)

      done-by : (semantics : Semantics) → semantics ≡ old.control.semantics → (q : Planned) → ((s : SessionParts) → Has s (map bare clients) → s.client ≡ client → next_plan s ≡ Some q) → HasDone (64 + client) (planned_message semantics q) route old new clients mid sent
          → IsDone old.net net server state (plan_work net.adverts here.0 q) (core_parts server new (map bare mid) stamp) old.control.links sent
      done-by semantics same (plans.Subs out add) pl d =
          let work : SetsFilters (64 + client) (union real.before add (minus real.before (subs old.control (64 + client)) out)) ≡ plan_work net.adverts here.0 (plans.Subs out add) =
          ap (SetsFilters (64 + client)) (ap (λ z. union real.before add (minus real.before z out)) (own-filters here.0 here.1 here.2) ∙ filters-turn here.0 out add (pl here.0 here.1 here.2))
          ∙ ap (λ z. SetsFilters (64 + z) (filter_set_at here.0 (suc here.0.taken))) (sym here.2) in
          subst (λ z. IsDone old.net net server state z (core_parts server new (map bare mid) stamp) old.control.links sent) work (acted server clock stamp (64 + client) old new clients mid route sent kept (Subs out add) d net state stands reached tt)
      done-by Subscription same (plans.Advs out add) pl d =
          let off : net.adverts ≡ false = stands.control.adverts ∙ ap by_adverts (sym same) in
          subst (λ z. IsDone old.net net server state z (core_parts server new (map bare mid) stamp) old.control.links sent) (sym (ap (λ b. cond b (SetsAdverts (64 + here.0.client) (advert_set_at here.0 (suc here.0.taken))) Nothing) off)) (still net state stands d.0 d.1 d.2)
      done-by Advertisement same (plans.Advs out add) pl d =
          let on : net.adverts ≡ true = stands.control.adverts ∙ ap by_adverts (sym same) in
          let work : SetsAdverts (64 + client) (union real.before_advert add (minus real.before_advert (advs old.control (64 + client)) out)) ≡ plan_work net.adverts here.0 (plans.Advs out add) =
          ap (SetsAdverts (64 + client)) (ap (λ z. union real.before_advert add (minus real.before_advert z out)) (own-adverts here.0 here.1 here.2 (ap by_adverts (sym same))) ∙ adverts-turn here.0 out add (pl here.0 here.1 here.2))
          ∙ ap (λ z. SetsAdverts (64 + z) (advert_set_at here.0 (suc here.0.taken))) (sym here.2)
          ∙ sym (ap (λ b. cond b (SetsAdverts (64 + here.0.client) (advert_set_at here.0 (suc here.0.taken))) Nothing) on) in
          subst (λ z. IsDone old.net net server state z (core_parts server new (map bare mid) stamp) old.control.links sent) work (acted server clock stamp (64 + client) old new clients mid route sent kept (Advs out add) d net state stands reached tt)
      done-by semantics same (plans.Publish id n) pl d =
          subst (λ z. IsDone old.net net server state z (core_parts server new (map bare mid) stamp) old.control.links sent) (ap (λ z. Routes (64 + z) id.publisher id.ordinal n) (sym here.2))
          (acted server clock stamp (64 + client) old new clients mid route sent kept (Noticed id.publisher id.ordinal n) d net state stands reached (routes here.0 id n here.1 here.2 (pl here.0 here.1 here.2)))
      done-by semantics same (plans.Refused o) pl d = still net state stands d.0 d.1 d.2

      done : IsDone old.net net server state (plan_work net.adverts here.0 p) (core_parts server new (map bare mid) stamp) old.control.links sent
      done = done-by old.control.semantics refl p planned deed

      same-semantics : net.adverts ≡ with_adverts here.0.semantics
      same-semantics = stands.control.adverts ∙ alike old.control.semantics ∙ ap with_adverts (sym (kept.one_semantics here.0 here.1))
        where
          alike : (s : Semantics) → by_adverts s ≡ with_adverts s
          alike Subscription = refl
          alike Advertisement = refl

      step : IsServerStep net state (Does (NextCommand client)) (core_parts server old (map bare clients) clock) (core_parts server new (map bare (at_client client stepped mid)) stamp) sent
      step =
          let next = work-planned here.0 net same-semantics (stands.scripts here.0 here.1) (some-left here.0 here.1 here.2) p (planned here.0 here.1 here.2) in
          let w = plan_work net.adverts here.0 p in
          let state-then = with_command_executed real net state client in
          let count : state.done client ≡ here.0.taken = ap state.done (sym here.2) ∙ stands.taken here.0 here.1 in
          let at-next : slice_get (net.script client) (state.done client) ≡ Some next.0 = ap (λ z. slice_get (net.script z) (state.done client)) (sym here.2) ∙ ap (slice_get (net.script here.0.client)) count ∙ next.1 in
          let work : command_work real net client (state.done client) next.0.command ≡ w = ap (λ z. command_work real net z (state.done client) next.0.command) (sym here.2) ∙ ap (λ z. command_work real net here.0.client z next.0.command) count ∙ next.2 in
          record {
            outcome = effect real net server state-then w;
            step = ap (λ b. cond (b && is_among client (net.clients server)) (command_outcome real net server state client (slice_get (net.script client) (state.done client))) None) stands.among
                ∙ ap (λ b. cond b (command_outcome real net server state client (slice_get (net.script client) (state.done client))) None) (has-one client (net.clients server) client-here)
                ∙ ap (command_outcome real net server state client) at-next
                ∙ ap (λ z. Some (effect real net server state-then z)) work;
            state_after = subst (RepresentsServer net (core_parts server new (map bare (at_client client stepped mid)) stamp)) (sym (taken-state net server client state w))
                (subst (λ z. RepresentsServer net (core_parts server new z stamp) (with_command_executed real net (effect real net server state w).state client)) (sym (bare-stepped client mid))
                (committed net server stamp client new (map bare mid) (effect real net server state w).state done.state_after));
            sent_are = done.sent_are ∙ ap (λ z. sent_by old.net z old.control.links) (sym (taken-outs net server client state w));
          }

    pub command-made : stamp ≡ suc (max clock 0) → MakesStep (Does (NextCommand client)) 0 (core_parts server old (map bare clients) clock) (core_parts server new (map bare (at_client client stepped mid)) stamp) stamp sent
    command-made e = record {
      step = step;
      stamp_is = e;
      clock_is = refl;
      same_net = left.net;
      same_server = refl;
      same_links = left.links;
    }

-- sessions and what is seen of them
pub numbers-bare : (sessions : List SessionParts) → client_numbers (map bare sessions) ≡ client_numbers sessions
numbers-bare [] = refl
numbers-bare (s ∷ sessions) = ap (λ z. s.client ∷ z) (numbers-bare sessions)

-- what a plan says of sessions says the same of what is seen of them
pub planned-bare : (client : ℕ) (p : Planned) (clients later : List SessionParts) → map bare later ≡ map bare clients → ((s : SessionParts) → Has s clients → s.client ≡ client → next_plan s ≡ Some p) → (s : SessionParts) → Has s (map bare later) → s.client ≡ client → next_plan s ≡ Some p
planned-bare client p clients later same announced s m e =
    let q = has-map bare clients s (subst (Has s) same m) in
    subst (λ z. next_plan z ≡ Some p) (sym q.2) (announced q.0 q.1 (ap (λ z. z.client) (sym q.2) ∙ e))
