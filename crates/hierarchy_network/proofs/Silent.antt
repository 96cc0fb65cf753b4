-- A next command that is no publish that is accepted, by its plan in numbers.
use Rattle.std.proofs.Common.{◌≡◌, ℕ, suc, max, ◌+◌, ◌^◌, ◌<◌, List, [], map, length, Some, refl, sym, ap, subst, ◌∙◌}
use Rattle.std.proofs.lemmas.Option.{same_Some}
use Rattle.std.specs.List.Sorted.{IsStrictlyIncreasing}
use Rattle.base.specs.Sets.{Has}
use Rattle.law_machine.specs.Machine.{Does}
use Rattle.law_routing.specs.Step.{NextCommand}
use Rattle.filter_text.specs.declared.semantics.Semantics.TheVariants.{Subscription}
use Rattle.server_message.specs.Parts.{SendingParts}
use Rattle.server_spec.specs.declared.planned.Planned.{Planned}
use Rattle.server_spec.specs.declared.planned.Planned.TheVariants as plans
use Rattle.server_spec.specs.Session.{SessionParts}
use Rattle.server_spec.specs.Plan.{next_plan}
use Rattle.server_session.specs.declared.planned.Planned as numbers
use Rattle.server_session.specs.declared.planned.Planned.TheVariants as plans_by
use Rattle.server_session.specs.Session.{PlansNext}
use Rattle.server_core.specs.Clients.{bare, client_numbers, at_client, stepped}
use Rattle.server_core.specs.Ledger.{LedgerParts}
use Rattle.server_core.specs.Acting.{HasChanged, HasDone, planned_message}
use Rattle.server_core.specs.Core.{core_parts}
use Rattle.server_core.specs.Kept.{IsCore}
use Rattle.server_core.specs.Routed.{RoutesNext}
use Rattle.server_core.proofs.Sessions.{only}
use Rattle.server_core.proofs.Keeping.{changed-net, changed-links}
use Rattle.server_core.proofs.Plans.{done-of}
use Rattle.server_core.proofs.Commands.{planned-bare, numbers-bare}
use Rattle.hierarchy_network.specs.Core.{hierarchy_parts}
use Rattle.hierarchy_network.specs.Step.{MakesHierarchyStep}
use Rattle.hierarchy_network.specs.Acting.{sent_up}
use Rattle.hierarchy_network.specs.CoreKept.{plain}
use Rattle.hierarchy_network.proofs.Plain.{plain-bare, AllOf}
use Rattle.hierarchy_network.proofs.Commanded.{MadeIn, RefusesNone, plain-plan, filters-step, adverts-step, refused-step, commanded-kept, refused-kept}
use Rattle.base.proofs.Sets.{has-map, map-has}

module _ (server clock stamp client master : ℕ) (old new : LedgerParts) (mid : List SessionParts) (all : List SendingParts)
    (kept : IsCore (core_parts server old (map bare (map plain mid)) clock))
    (plainly : old.control.semantics ≡ Subscription) (all-of : AllOf old.net.semantics (map bare mid))
    (lives : Has client (client_numbers (map bare mid)))
    (some-left : (s : SessionParts) → Has s (map bare mid) → s.client ≡ client → s.taken < length s.script)
    (rises : IsStrictlyIncreasing (client_numbers mid)) where
  one : (t : SessionParts) × Has t mid × (t.client ≡ client)
  one = let r = has-map (λ (s : SessionParts). s.client) mid client (subst (Has client) (numbers-bare mid) lives) in (r.0, r.1, sym r.2)

  of-all : (p : Planned) → next_plan one.0 ≡ Some p → (s : SessionParts) → Has s (map bare mid) → s.client ≡ client → next_plan s ≡ Some p
  of-all p q = planned-bare client p mid mid refl (λ s h e. subst (λ z. next_plan z ≡ Some p) (only mid rises one.0 s one.1 h (one.2 ∙ sym e)) q)

  rises-bare : IsStrictlyIncreasing (client_numbers (map bare mid))
  rises-bare = subst IsStrictlyIncreasing (sym (numbers-bare mid)) rises

  there-plain : Has (plain (bare one.0)) (map bare (map plain mid))
  there-plain = subst (Has (plain (bare one.0))) (sym (plain-bare mid)) (map-has plain (map bare mid) (bare one.0) (map-has bare mid one.0 one.1))

  plain-routes : (p : Planned) → RefusesNone p → next_plan one.0 ≡ Some p → ((s : SessionParts) → Has s (map bare (map plain mid)) → s.client ≡ client → next_plan s ≡ Some p)
  plain-routes p none q s h e =
      let r = has-map plain (map bare mid) s (subst (Has s) (plain-bare mid) h) in
      subst (λ z. next_plan z ≡ Some p) (sym r.2) (plain-plan r.0 p none (of-all p q r.0 r.1 (ap (λ (z : SessionParts). z.client) (sym r.2) ∙ e)))

  no-publish : (p : Planned) → ((i : _) (n : _) → p ≡ plans.Publish i n → ⊥) → RefusesNone p → next_plan one.0 ≡ Some p → RoutesNext (core_parts server old (map bare (map plain mid)) clock) client []
  no-publish p never none q = λ s i n h e f. absurd (never i n (same_Some _ _ (sym (plain-routes p none q s h e) ∙ f)))

  -- what the plan by numbers does is what this plan of the plain session does
  done-plain : (q : numbers.Planned) (p : Planned) → next_plan (plain (bare one.0)) ≡ Some p → PlansNext old.net (plain (bare one.0)) q → HasChanged (64 + client) q old new all
      → HasDone (64 + client) (planned_message old.control.semantics p) [] old new (map plain mid) (map plain mid) all
  done-plain q p e n changed =
      let d = done-of server clock client old new (map plain mid) all kept (plain (bare one.0)) there-plain one.2 q n changed in
      subst (λ z. HasDone (64 + client) (planned_message old.control.semantics z) [] old new (map plain mid) (map plain mid) all) (same_Some _ _ (sym d.1 ∙ e)) d.2

  module _ (sent : List SendingParts) (stamps : stamp ≡ suc (max clock 0)) (up : sent ≡ sent_up master all) where
    pub silent-step : (q : numbers.Planned) → ((s : SessionParts) → Has s mid → s.client ≡ client → PlansNext old.net s q) → HasChanged (64 + client) q old new all
        → MadeIn server clock stamp client master old new mid mid [] kept plainly all-of lives some-left sent
    silent-step (plans_by.Filters moved) plans-are changed =
        let n = plans-are one.0 one.1 one.2 in
        let p : Planned = plans.Subs n.0.0 n.0.1 in
        let d = done-plain (plans_by.Filters moved) p (plain-plan (bare one.0) p (λ o e. cc) n.0.2) ((n.0.0, n.0.1, plain-plan (bare one.0) p (λ o e. cc) n.0.2), n.1) changed in
        filters-step server clock stamp client master old new mid mid [] kept plainly all-of lives some-left n.0.0 n.0.1 (of-all p n.0.2) all sent d (no-publish p (λ i m e. cc) (λ o e. cc) n.0.2) stamps up
    silent-step (plans_by.Adverts moved) plans-are changed =
        let n = plans-are one.0 one.1 one.2 in
        let p : Planned = plans.Advs n.0.0 n.0.1 in
        let d = done-plain (plans_by.Adverts moved) p (plain-plan (bare one.0) p (λ o e. cc) n.0.2) ((n.0.0, n.0.1, plain-plan (bare one.0) p (λ o e. cc) n.0.2), n.1) changed in
        adverts-step server clock stamp client master old new mid mid [] kept plainly all-of lives some-left n.0.0 n.0.1 (of-all p n.0.2) all sent d (no-publish p (λ i m e. cc) (λ o e. cc) n.0.2) stamps up
    silent-step (plans_by.Publish id number) plans-are changed = absurd changed
    silent-step (plans_by.Refused o) plans-are changed =
        refused-step server clock stamp client master old new mid mid [] kept plainly all-of lives some-left o (of-all (plans.Refused o) (plans-are one.0 one.1 one.2)) sent changed.0 refl (up ∙ ap (sent_up master) changed.1)

    pub silent-made : (q : numbers.Planned) → ((s : SessionParts) → Has s mid → s.client ≡ client → PlansNext old.net s q) → HasChanged (64 + client) q old new all
        → MakesHierarchyStep (Does (NextCommand client)) 0 (hierarchy_parts (core_parts server old (map bare mid) clock) master) (hierarchy_parts (core_parts server new (map bare (at_client client stepped mid)) stamp) master) stamp sent
    silent-made q plans-are changed = record {
      step = silent-step q plans-are changed;
      stamp_is = stamps;
      clock_is = refl;
      same_net = changed-net (64 + client) q old new all changed;
      same_server = refl;
      same_links = changed-links (64 + client) q old new all changed;
      same_master = refl;
    }

  pub silent-kept : (q : numbers.Planned) → ((s : SessionParts) → Has s mid → s.client ≡ client → PlansNext old.net s q) → HasChanged (64 + client) q old new all → stamp < 2 ^ 62
      → IsCore (core_parts server new (map bare (map plain (at_client client stepped mid))) stamp)
  silent-kept (plans_by.Filters moved) plans-are changed low =
      let n = plans-are one.0 one.1 one.2 in
      let p : Planned = plans.Subs n.0.0 n.0.1 in
      let d = done-plain (plans_by.Filters moved) p (plain-plan (bare one.0) p (λ o e. cc) n.0.2) ((n.0.0, n.0.1, plain-plan (bare one.0) p (λ o e. cc) n.0.2), n.1) changed in
      commanded-kept server clock stamp client master old new mid mid [] kept plainly all-of lives some-left p (λ o e. cc) (of-all p n.0.2) all d low
  silent-kept (plans_by.Adverts moved) plans-are changed low =
      let n = plans-are one.0 one.1 one.2 in
      let p : Planned = plans.Advs n.0.0 n.0.1 in
      let d = done-plain (plans_by.Adverts moved) p (plain-plan (bare one.0) p (λ o e. cc) n.0.2) ((n.0.0, n.0.1, plain-plan (bare one.0) p (λ o e. cc) n.0.2), n.1) changed in
      commanded-kept server clock stamp client master old new mid mid [] kept plainly all-of lives some-left p (λ o e. cc) (of-all p n.0.2) all d low
  silent-kept (plans_by.Publish id number) plans-are changed low = absurd changed
  silent-kept (plans_by.Refused o) plans-are changed low =
      refused-kept server clock stamp client master old new mid mid [] kept plainly all-of lives some-left o (of-all (plans.Refused o) (plans-are one.0 one.1 one.2)) rises-bare changed.0 refl low
