-- Proves that a plan by numbers represents the plan of items.
use Rattle.std.proofs.Common.{◌≡◌, ℕ, suc, ◌+◌, true, List, [], map, Some, refl, sym, ap, subst, ◌∙◌}
use Rattle.filter_types.specs.Before.{list_before}
use Rattle.base.specs.Sets.{Has, union, minus}
use Rattle.base_order.specs.Order.{picked}
use Rattle.filter_text.specs.Messages.{Lists}
use Rattle.filter_text.specs.declared.semantics.Semantics.{Semantics}
use Rattle.filter_text.specs.declared.semantics.Semantics.TheVariants.{Subscription, Advertisement}
use Rattle.net_tables.specs.Known.{known_filters, known_adverts}
use Rattle.server_spec.specs.Control.{by_adverts, subs, advs}
use Rattle.server_spec.specs.declared.planned.Planned.{Planned}
use Rattle.server_spec.specs.declared.planned.Planned.TheVariants as plans
use Rattle.server_spec.specs.Session.{SessionParts}
use Rattle.server_spec.specs.Plan.{next_plan}
use Rattle.server_spec.specs.Turn.{filter_set_at, advert_set_at}
use Rattle.server_spec.proofs.Turning.{filters-turn, adverts-turn}
use Rattle.server_message.specs.Parts.{SendingParts}
use Rattle.server_session.specs.declared.planned.Planned as numbers
use Rattle.server_session.specs.declared.planned.Planned.TheVariants as plans_by
use Rattle.server_session.specs.declared.planned.Moved.{Moved}
use Rattle.server_session.specs.Moved.{IsMoved, gone, come}
use Rattle.server_session.specs.Session.{PlansNext}
use Rattle.server_core.specs.Clients.{bare}
use Rattle.server_core.specs.Ledger.{LedgerParts, FiltersSet, AdvertsSet}
use Rattle.server_core.specs.Acting.{HasDone, HasChanged, HasOffered, planned_message}
use Rattle.server_core.specs.Core.{core_parts}
use Rattle.server_core.specs.Kept.{IsCore}
use Rattle.std.specs.List.Sorted.{IsStrictlyIncreasing}
use Rattle.filter_types.specs.Notice.{Attribute}
use Rattle.filter_text.specs.declared.id.Id.{Id}
use Rattle.net_model.specs.Parts.{NetParts}
use Rattle.server_core.specs.Clients.{client_numbers}
use Rattle.server_core.specs.Acting.{IsChangeIn}
use Rattle.server_core.proofs.Sessions.{only}
use Rattle.server_core.proofs.Commands.{planned-bare}
use Rattle.base.proofs.Sets.{has-map, map-has}

module _ (server clock client : ℕ) (old new : LedgerParts) (clients : List SessionParts) (sent : List SendingParts)
    (kept : IsCore (core_parts server old (map bare clients) clock)) (s : SessionParts) (h : Has s (map bare clients)) (e : s.client ≡ client) where
  own-filters : subs old.control (64 + client) ≡ filter_set_at s s.taken
  own-filters = ap (λ z. subs old.control (64 + z)) (sym e) ∙ kept.own_filters s h

  own-adverts : by_adverts old.control.semantics ≡ true → advs old.control (64 + client) ≡ advert_set_at s s.taken
  own-adverts on = ap (λ z. advs old.control (64 + z)) (sym e) ∙ kept.own_adverts s h on

  -- the change of a set by numbers is that by items
  filters-done : (out add : Lists) → next_plan s ≡ Some (plans.Subs out add) → (moved : Moved)
      → IsMoved list_before (known_filters old.net.clients) (filter_set_at s s.taken) (filter_set_at s (suc s.taken)) moved
      → FiltersSet (64 + client) (picked (known_filters old.net.clients) (gone moved)) (picked (known_filters old.net.clients) (come moved)) old new sent → FiltersSet (64 + client) out add old new sent
  filters-done out add q moved m a = record {
    net = a.net;
    held = a.held ∙ (ap (λ z. union list_before (picked (known_filters old.net.clients) (come moved)) (minus list_before z (picked (known_filters old.net.clients) (gone moved)))) own-filters
        ∙ (m.turned ∙ (sym (filters-turn s out add q) ∙ ap (λ z. union list_before add (minus list_before z out)) (sym own-filters))));
    others = a.others;
    offered = a.offered;
    semantics = a.semantics;
    links = a.links;
    installed = a.installed;
    pending = a.pending;
    sent_are = a.sent_are;
  }

  adverts-done : by_adverts old.control.semantics ≡ true → (out add : Lists) → next_plan s ≡ Some (plans.Advs out add) → (moved : Moved)
      → IsMoved list_before (known_adverts old.net.clients) (advert_set_at s s.taken) (advert_set_at s (suc s.taken)) moved
      → AdvertsSet (64 + client) (picked (known_adverts old.net.clients) (gone moved)) (picked (known_adverts old.net.clients) (come moved)) old new sent → AdvertsSet (64 + client) out add old new sent
  adverts-done on out add q moved m a = record {
    net = a.net;
    held = a.held ∙ (ap (λ z. union list_before (picked (known_adverts old.net.clients) (come moved)) (minus list_before z (picked (known_adverts old.net.clients) (gone moved)))) (own-adverts on)
        ∙ (m.turned ∙ (sym (adverts-turn s out add q) ∙ ap (λ z. union list_before add (minus list_before z out)) (sym (own-adverts on)))));
    others = a.others;
    filters = a.filters;
    semantics = a.semantics;
    links = a.links;
    installed = a.installed;
    pending = a.pending;
    silent = a.silent;
    sent_are = a.sent_are;
  }

  offered : (semantics : Semantics) → semantics ≡ old.control.semantics → (out add : Lists) → next_plan s ≡ Some (plans.Advs out add) → (moved : Moved)
      → IsMoved list_before (known_adverts old.net.clients) (advert_set_at s s.taken) (advert_set_at s (suc s.taken)) moved
      → HasOffered semantics (64 + client) moved old new sent → HasDone (64 + client) (planned_message semantics (plans.Advs out add)) [] old new clients clients sent
  offered Subscription same out add q moved m a = (a.0, refl, a.1)
  offered Advertisement same out add q moved m a = (adverts-done (ap by_adverts (sym same)) out add q moved m a, refl)

  -- WHAT A PLAN BY NUMBERS DOES is what the session's plan does
  pub done-of : (q : numbers.Planned) → PlansNext old.net s q → HasChanged (64 + client) q old new sent
      → (p : Planned) × (next_plan s ≡ Some p) × HasDone (64 + client) (planned_message old.control.semantics p) [] old new clients clients sent
  done-of (plans_by.Filters moved) n a = (plans.Subs n.0.0 n.0.1, n.0.2, (filters-done n.0.0 n.0.1 n.0.2 moved n.1 a, refl))
  done-of (plans_by.Adverts moved) n a = (plans.Advs n.0.0 n.0.1, n.0.2, offered old.control.semantics refl n.0.0 n.0.1 n.0.2 moved n.1 a)
  done-of (plans_by.Publish id number) n a = absurd a
  done-of (plans_by.Refused o) n a = (plans.Refused o, n, (a.0, refl, a.1))

-- nothing is said of room, nor of what is planned
pub plans-bare : (net : NetParts) (s : SessionParts) (q : numbers.Planned) → PlansNext net s q → PlansNext net (bare s) q
plans-bare net s (plans_by.Filters moved) h = h
plans-bare net s (plans_by.Adverts moved) h = h
plans-bare net s (plans_by.Publish id number) h = h
plans-bare net s (plans_by.Refused o) h = h

-- a plan that is no publish is by numbers of items
pub change-in : (net : NetParts) (s : SessionParts) (q : numbers.Planned) → PlansNext net s q → ((id : Id) (n : List Attribute) → next_plan s ≡ Some (plans.Publish id n) → ⊥) → IsChangeIn net q
change-in net s (plans_by.Filters moved) h silent = record { gone_within = h.1.gone_known; come_within = h.1.come_known }
change-in net s (plans_by.Adverts moved) h silent = record { gone_within = h.1.gone_known; come_within = h.1.come_known }
change-in net s (plans_by.Publish id number) h silent = absurd (silent id h.0.notice h.3)
change-in net s (plans_by.Refused o) h silent = tt

-- the plan of a client at a server
module _ (server clock client : ℕ) (old : LedgerParts) (before mid : List SessionParts) (kept : IsCore (core_parts server old (map bare before) clock)) (same : map bare mid ≡ map bare before)
    (rises : IsStrictlyIncreasing (client_numbers before)) (lives : Has client (client_numbers before)) where
  pub here : (s : SessionParts) × Has s before × (s.client ≡ client)
  here = let r = has-map (λ s. s.client) before client lives in (r.0, r.1, sym r.2)

  pub kept-mid : IsCore (core_parts server old (map bare mid) clock)
  kept-mid = subst (λ z. IsCore (core_parts server old z clock)) (sym same) kept

  pub of-all : (p : Planned) → next_plan here.0 ≡ Some p → (s : SessionParts) → Has s (map bare mid) → s.client ≡ client → next_plan s ≡ Some p
  of-all p q = planned-bare client p before mid same (λ s h e. subst (λ z. next_plan z ≡ Some p) (only before rises here.0 s here.1 h (here.2 ∙ sym e)) q)

  module _ (new : LedgerParts) (sent : List SendingParts) (q : numbers.Planned) (plans : (s : SessionParts) → Has s before → s.client ≡ client → PlansNext old.net s q)
      (changed : HasChanged (64 + client) q old new sent) where
    pub commanded : (p : Planned) × ((s : SessionParts) → Has s (map bare mid) → s.client ≡ client → next_plan s ≡ Some p) × HasDone (64 + client) (planned_message old.control.semantics p) [] old new mid mid sent
    commanded =
        let d = done-of server clock client old new mid sent kept-mid (bare here.0) (subst (Has (bare here.0)) (sym same) (map-has bare before here.0 here.1)) here.2 q
        (plans-bare old.net here.0 q (plans here.0 here.1 here.2)) changed in
        (d.0, of-all d.0 d.1, d.2)
