-- Steps with a match ahead keep what a cell's type says, and their publications.
use Rattle.std.proofs.Common.{◌≡◌, ◌<◌, ◌⊎◌, inl, inr, ℕ, List, [], length, Option, Some, None, Result, Ok, Err, IfOk, OnErr, refl, sym, ap, subst, ◌∙◌}
use Rattle.filter_constraints.specs.Constraint.{ConstraintParts}
use Rattle.filter_types.specs.Notice.{Attribute}
use Rattle.law_machine.specs.Machine.{Act, Does, Receives, Did, Received}
use Rattle.law_routing.specs.Server.{Message, Noticed, Subs}
use Rattle.law_routing.specs.Step.{Task, NextCommand, TableUpdate}
use Rattle.net_model.specs.Real.{real}
use Rattle.net_model.specs.Parts.{NetParts, EntryParts}
use Rattle.match_filters.specs.Matching.{matched}
use Rattle.base_bits.specs.Rows.{Numbers}
use Rattle.net_tables.specs.Known.{PublicationParts, known_filters, known_publications}
use Rattle.net_tables.specs.Found.{IsFound, publication_at}
use Rattle.server_message.specs.declared.load.Load.{Load}
use Rattle.server_message.specs.declared.load.Load.TheVariants as loads
use Rattle.match_routes.specs.Routes.{IsRouteBy}
use Rattle.server_core.specs.Core.{CoreParts, installed_from}
use Rattle.server_core.specs.Routed.{IsRoute, RoutesMessage}
use Rattle.server_core.specs.declared.stepped.StepFault.{StepFault}
use Rattle.base.specs.Sets.{Has}
use Rattle.server_spec.specs.declared.planned.Planned.TheVariants.{Publish}
use Rattle.server_spec.specs.Session.{SessionParts}
use Rattle.server_spec.specs.Plan.{next_plan}
use Rattle.server_core.specs.Clients.{client_numbers}
use Rattle.thread_versions.specs.declared.publisher.Publisher.{Publisher}
use Rattle.thread_versions.specs.Pairs.{pairs_after}
use Rattle.thread_versions.specs.declared.ahead.Ahead.{Ahead}
use Rattle.thread_versions.specs.Ends.{matched_in, route_in, installed}
use Rattle.thread_cell.specs.declared.held.ServerInHand.{ServerInHand}
use Rattle.thread_cell.specs.declared.held.Root.{Root}
use Rattle.net_model.specs.declared.turn.Act.{Act as EntryAct}
use Rattle.thread_cell.specs.declared.turned.Turned.{Turned}
use Rattle.thread_cell.specs.declared.turned.Turned.TheVariants.{Made, Stale, Idle}
use Rattle.thread_cell.specs.declared.choice.Choice.{Choice}
use Rattle.thread_cell.specs.declared.choice.Matched.{Matched}
use Rattle.thread_cell.specs.declared.choice.Choice.TheVariants.{Other, Outdated, Agreed}
use Rattle.server_message.specs.Message.{IsLoad, represented}
use Rattle.thread_cell.specs.Heard.{heard}
use Rattle.thread_cell.specs.Looking.{IsPublicationIn}
use Rattle.thread_cell.proofs.Heard.{heard-of, heard-either}
use Rattle.thread_cell.specs.Acted.{StampedInput, recorded_as}
use Rattle.thread_cell.specs.Kept.{AreOf}
use Rattle.thread_cell.specs.Cell.{IsServerInHand, IsKept}
use Rattle.thread_cell.specs.Turns.{IsStill}
use Rattle.thread_cell.specs.Ahead.{AnswersBy, IsChoice, IsChoiceNext, IsChoiceOf, IsRight, IsUpToDate, RoutesMatched, CarriesMatched}
use Rattle.server_core.proofs.RoutesByPairs.{route-is}
use Rattle.thread_cell.proofs.Routes.{same-notice}
use Rattle.thread_cell.proofs.Keeping.{kept-turn, kept-still}
use Rattle.base.proofs.Sets.{has-map}

module _ (net : NetParts) (root : Root) (journal : List EntryParts) (old : ServerInHand) (kept : IsKept net root journal old) where
  -- WHATEVER IS ANSWERED
  pub kept-by : (what : EntryAct) (matched : Option Matched) (new : ServerInHand) (after : List EntryParts) (r : Result Turned StepFault) → IfOk r (AnswersBy root.phase what matched old new journal after) → OnErr r (IsStill old new journal after) → IsServerInHand new → IsKept net root after new
  kept-by what None new after (Ok Made) a s held = kept-turn net root journal old kept a.input what new after a.turn held
  kept-by what None new after (Ok Stale) a s held = absurd a
  kept-by what (Some h) new after (Ok Made) a s held = kept-turn net root journal old kept a.0.input what new after a.0.turn held
  kept-by what (Some h) new after (Ok Stale) a s held = kept-turn net root journal old kept a.0.input what new after a.0.turn held
  kept-by what None new after (Ok Idle) a s held = kept-still net root journal old kept new after a.0 held
  kept-by what (Some h) new after (Ok Idle) a s held = kept-still net root journal old kept new after a.0 held
  kept-by what matched new after (Err e) a s held = kept-still net root journal old kept new after s held

-- a table update routes nothing
pub update_table-routes : (core : CoreParts) (input : StampedInput) (numbers : List ℕ) → recorded_as input ≡ Did TableUpdate → RoutesMatched core input numbers → ⊥
update_table-routes core (Does (NextCommand client)) n e r = let q : ◌≡◌ {A = Act Task} (Did (NextCommand client)) (Did TableUpdate) = e in absurd cc
update_table-routes core (Does TableUpdate) n e r = r
update_table-routes core (Receives from m) n e r = let q : ◌≡◌ {A = Act Task} (Received from) (Did TableUpdate) = e in absurd cc

-- a message is one notice
one-notice : (p q : ℕ) (n : List Attribute) (r s : ℕ) (m : List Attribute) → ◌≡◌ {A = Message real} (Noticed p q n) (Noticed r s m) → n ≡ m
one-notice p q n r s m e = cc

module _ (core : CoreParts) (publisher : Publisher) (ahead : Ahead) (agrees : AreOf core (pairs_after (installed publisher))) where
  abbrev filters : List (List ConstraintParts)
  filters = known_filters core.net.clients

  -- a route that agrees is right
  right : (numbers r : List ℕ) → matched_in ahead ≡ numbers → IsUpToDate publisher ahead → IsRouteBy numbers (pairs_after (installed publisher)) r → r ≡ route_in ahead → IsRight core publisher ahead
  right numbers r same up by is = (up, λ n values e. subst (λ z. IsRoute n (installed_from core) z) is (route-is core.net (installed_from core) (pairs_after (installed publisher)) agrees.pairs_are agrees.known n r values (subst (λ z. IsRouteBy z (pairs_after (installed publisher)) r) (sym same ∙ sym e) by)))

  module _ (p : PublicationParts) (found : Numbers) (is : IsFound core.net p found) where
    members : found.members ≡ matched p.notice filters
    members = ap (λ (z : Numbers). z.members) is.matched

    routed : (r : List ℕ) → IsRouteBy found.members (pairs_after (installed publisher)) r → IsRoute p.notice (installed_from core) r
    routed r by = route-is core.net (installed_from core) (pairs_after (installed publisher)) agrees.pairs_are agrees.known p.notice r is.values (subst (λ z. IsRouteBy z (pairs_after (installed publisher)) r) members by)

    pub choice-next : (client : ℕ) → Has client (client_numbers core.clients) → ((s : SessionParts) → Has s core.clients → s.client ≡ client → next_plan s ≡ Some (Publish p.id p.notice))
        → (ch : Choice) → IsChoice publisher ahead found.members ch → IsChoiceNext core publisher ahead client ch
    choice-next client lives publish Other f = λ x. f (sym x.3.3 ∙ ap (λ z. matched z filters) (same-notice x.3.0 p.id x.3.1 p.notice (sym x.3.2 ∙ publish x.0 x.1 x.2)) ∙ sym members)
    choice-next client lives publish Outdated f =
        let m = has-map (λ (s : SessionParts). s.client) core.clients client lives in
        ((m.0, m.1, sym m.2, (p.id, p.notice, publish m.0 m.1 (sym m.2), sym members ∙ sym f.0)), f.1)
    choice-next client lives publish (Agreed r) f = (
      right found.members r.now f.0 f.1 f.2 f.3,
      λ s id n h e plan. subst (λ z. IsRoute z (installed_from core) r.now) (sym (same-notice id p.id n p.notice (sym plan ∙ publish s h e))) (routed r.now f.2),
    )

    pub choice-of : (load : Load) → heard core.net load ≡ Noticed p.id.publisher p.id.ordinal p.notice → (ch : Choice) → IsChoice publisher ahead found.members ch → IsChoiceOf core publisher ahead load ch
    choice-of load represents Other f = λ x. f (sym x.4 ∙ ap (λ z. matched z filters) (one-notice x.0 x.1 x.2 p.id.publisher p.id.ordinal p.notice (sym x.3 ∙ represents)) ∙ sym members)
    choice-of load represents Outdated f = ((p.id.publisher, p.id.ordinal, p.notice, represents, sym members ∙ sym f.0), f.1)
    choice-of load represents (Agreed r) f = (
      right found.members r.now f.0 f.1 f.2 f.3,
      subst (λ z. RoutesMessage core z r.now) (sym represents) (routed r.now f.2),
    )

-- what a publication of the net says
pub publication-says : (core : CoreParts) (load : Load) (number : ℕ) → load ≡ loads.Publication number → number < length (known_publications 1 core.net.clients)
    → heard core.net load ≡ Noticed (publication_at core.net number).id.publisher (publication_at core.net number).id.ordinal (publication_at core.net number).notice
publication-says core load number e known = ap (heard core.net) e ∙ heard-of core.net (loads.Publication number) known

-- what is no publication of the net carries none
pub carries-none : (net : NetParts) (load : Load) (numbers : List ℕ) → IsPublicationIn net load None → CarriesMatched net (heard net load) numbers → ⊥
carries-none net load numbers none x = go load none (heard-either net load) (x.0, x.1, x.2, x.3)
  where
    other : (m : Message real) → m ≡ Subs [] [] → (publisher : ℕ) × (ordinal : ℕ) × (n : List Attribute) × (m ≡ Noticed publisher ordinal n) → ⊥
    other m is x = let e : Subs [] [] ≡ Noticed x.0 x.1 x.2 = sym is ∙ x.3 in cc

    go : (load : Load) → IsPublicationIn net load None → (IsLoad net load × (heard net load ≡ represented net load)) ⊎ (heard net load ≡ Subs [] [])
        → (publisher : ℕ) × (ordinal : ℕ) × (n : List Attribute) × (heard net load ≡ Noticed publisher ordinal n) → ⊥
    go load none (inr is) x = other (heard net load) is x
    go (loads.Publication number) none (inl h) x = none number refl h.0
    go (loads.Filters change) none (inl h) x = let e : represented net (loads.Filters change) ≡ Noticed x.0 x.1 x.2 = sym h.1 ∙ x.3 in cc
    go (loads.Adverts change) none (inl h) x = let e : represented net (loads.Adverts change) ≡ Noticed x.0 x.1 x.2 = sym h.1 ∙ x.3 in cc
