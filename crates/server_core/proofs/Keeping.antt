-- Proves what a core keeps through a step.
use Rattle.std.proofs.Common.{◌≡◌, ℕ, ◌+◌, ◌<◌, Bool, true, false, cond, List, [], ◌∷◌, map, length, slice_get, Option, Some, None, IfSome, IfNone, refl, sym, ap, ap₂, subst, ◌∙◌}
use Rattle.std.specs.List.Sorted.{IsStrictlyIncreasing}
use Rattle.std.proofs.lemmas.Option.{same_Some, slice_get_within, get_or_from_slice_get}
use Rattle.filter_types.specs.Notice.{Attribute}
use Rattle.filter_text.specs.declared.id.Id.{Id}
use Rattle.filter_text.specs.Deliveries.{Delivery}
use Rattle.law_routing.specs.Server.{Message, Subs, Advs, Noticed, is_among}
use Rattle.net_model.specs.Real.{real}
use Rattle.server_spec.specs.declared.planned.Planned.{Planned}
use Rattle.server_spec.specs.declared.planned.Planned.TheVariants as plans
use Rattle.server_spec.specs.Plan.{next_plan}
use Rattle.base.specs.Sets.{Has}
use Rattle.filter_text.specs.declared.semantics.Semantics.{Semantics}
use Rattle.filter_text.specs.declared.semantics.Semantics.TheVariants.{Subscription, Advertisement}
use Rattle.net_model.specs.Parts.{NetParts}
use Rattle.server_spec.specs.Session.{SessionParts, session_parts}
use Rattle.server_message.specs.Parts.{SendingParts}
use Rattle.server_session.specs.declared.planned.Planned as numbers
use Rattle.server_session.specs.declared.planned.Planned.TheVariants as plans_by
use Rattle.server_session.specs.declared.planned.Moved.{Moved}
use Rattle.server_session.specs.Session.{PlansNext}
use Rattle.server_core.specs.Clients.{bare, client_numbers, handed}
use Rattle.server_core.specs.Ledger.{LedgerParts}
use Rattle.server_core.specs.Acting.{HasActed, HasChanged, HasOffered, clients_on, delivered, delivery_under}
use Rattle.server_core.specs.Core.{core_parts}
use Rattle.server_core.specs.Kept.{IsCore, IsKept}
use Rattle.server_core.specs.Linked.{interfaces_on}
use Rattle.server_core.proofs.Sessions.{only}
use Rattle.server_core.proofs.Plans.{plans-bare}
use Rattle.server_core.proofs.Made.{IsOwn, AddsRising}
use Rattle.filter_covering.specs.Laws.{sub_laws, ad_laws}
use Rattle.net_tables.specs.Known.{PublicationParts, publication, known_filters, known_adverts, known_publications}
use Rattle.net_tables.specs.Found.{publication_at}
use Rattle.net_tables.proofs.Counting.{known_filters_rise, known_adverts_rise}
use Rattle.server_stock.proofs.Shown.{picked-rising}
use Rattle.server_message.specs.Message.{IsLoad, represented}
use Rattle.server_message.specs.declared.load.Load.{Load}
use Rattle.server_message.specs.declared.load.Load.TheVariants as loads
use Rattle.base.proofs.Sets.{has-map, map-has}

-- what a change by a plan leaves
offered-net : (semantics : Semantics) (i : ℕ) (moved : Moved) (old new : LedgerParts) (sent : List SendingParts) → HasOffered semantics i moved old new sent → new.net ≡ old.net
offered-net Subscription i moved old new sent h = ap (λ z. z.net) h.0
offered-net Advertisement i moved old new sent h = h.net

offered-links : (semantics : Semantics) (i : ℕ) (moved : Moved) (old new : LedgerParts) (sent : List SendingParts) → HasOffered semantics i moved old new sent → new.control.links ≡ old.control.links
offered-links Subscription i moved old new sent h = ap (λ z. z.control.links) h.0
offered-links Advertisement i moved old new sent h = h.links

offered-semantics : (semantics : Semantics) (i : ℕ) (moved : Moved) (old new : LedgerParts) (sent : List SendingParts) → HasOffered semantics i moved old new sent → new.control.semantics ≡ old.control.semantics
offered-semantics Subscription i moved old new sent h = ap (λ z. z.control.semantics) h.0
offered-semantics Advertisement i moved old new sent h = h.semantics

pub changed-semantics : (i : ℕ) (q : numbers.Planned) (old new : LedgerParts) (sent : List SendingParts) → HasChanged i q old new sent → new.control.semantics ≡ old.control.semantics
changed-semantics i (plans_by.Filters moved) old new sent h = h.semantics
changed-semantics i (plans_by.Adverts moved) old new sent h = offered-semantics old.control.semantics i moved old new sent h
changed-semantics i (plans_by.Publish id number) old new sent h = absurd h
changed-semantics i (plans_by.Refused o) old new sent h = ap (λ z. z.control.semantics) h.0

pub changed-net : (i : ℕ) (q : numbers.Planned) (old new : LedgerParts) (sent : List SendingParts) → HasChanged i q old new sent → new.net ≡ old.net
changed-net i (plans_by.Filters moved) old new sent h = h.net
changed-net i (plans_by.Adverts moved) old new sent h = offered-net old.control.semantics i moved old new sent h
changed-net i (plans_by.Publish id number) old new sent h = absurd h
changed-net i (plans_by.Refused o) old new sent h = ap (λ z. z.net) h.0

pub changed-links : (i : ℕ) (q : numbers.Planned) (old new : LedgerParts) (sent : List SendingParts) → HasChanged i q old new sent → new.control.links ≡ old.control.links
changed-links i (plans_by.Filters moved) old new sent h = h.links
changed-links i (plans_by.Adverts moved) old new sent h = offered-links old.control.semantics i moved old new sent h
changed-links i (plans_by.Publish id number) old new sent h = absurd h
changed-links i (plans_by.Refused o) old new sent h = ap (λ z. z.control.links) h.0

-- a core keeps its interfaces where its links and clients stay
pub keeps : (server clock clock_after : ℕ) (old new : LedgerParts) (before after : List SessionParts) (net net_after : NetParts) → IsKept old.interfaces net (core_parts server old before clock)
    → IsCore (core_parts server new after clock_after) → new.interfaces ≡ old.interfaces → new.net ≡ old.net → net_after ≡ net → new.control.semantics ≡ old.control.semantics → new.control.links ≡ old.control.links → client_numbers after ≡ client_numbers before
    → IsKept new.interfaces net_after (core_parts server new after clock_after)
keeps server clock clock_after old new before after net net_after was kept same nets of semantics links numbers = record {
  kept = kept;
  of_net = of ∙ (was.of_net ∙ sym nets);
  of_semantics = semantics ∙ (was.of_semantics ∙ ap (λ z. z.semantics) (sym nets));
  whole = same ∙ (was.whole ∙ ap₂ (λ ls ns. interfaces_on ls ns) (sym links) (sym numbers));
  linked = λ l h. subst (Has l) (sym same) (was.linked l (subst (Has l) links h));
  reached = λ s h.
      let r = has-map (λ (t : SessionParts). t.client) before s.client (subst (Has s.client) numbers (map-has (λ (t : SessionParts). t.client) after s h)) in
      subst (λ z. Has (64 + z) new.interfaces) (sym r.2) (subst (Has (64 + r.0.client)) (sym same) (was.reached r.0 r.1));
}

-- a plan says the same of what is seen of a session
plans-of : (net : NetParts) (s : SessionParts) (q : numbers.Planned) → PlansNext net (bare s) q → PlansNext net s q
plans-of net s (plans_by.Filters moved) h = h
plans-of net s (plans_by.Adverts moved) h = h
plans-of net s (plans_by.Publish id number) h = h
plans-of net s (plans_by.Refused o) h = h

pub plans-later : (net : NetParts) (client : ℕ) (q : numbers.Planned) (before mid : List SessionParts) → map bare mid ≡ map bare before
    → ((s : SessionParts) → Has s before → s.client ≡ client → PlansNext net s q) → (s : SessionParts) → Has s mid → s.client ≡ client → PlansNext net s q
plans-later net client q before mid same plans s h e =
    let r = has-map bare before (bare s) (subst (Has (bare s)) same (map-has bare mid s h)) in
    plans-of net s q (subst (λ z. PlansNext net z q) (sym r.2) (plans-bare net r.0 q (plans r.0 r.1 (ap (λ (z : SessionParts). z.client) (sym r.2) ∙ e))))

-- a session as its commands say it
abbrev seen : SessionParts → SessionParts
seen s = session_parts s.client s.semantics s.script s.taken [] 0 false

seen-plans : (net : NetParts) (s : SessionParts) (q : numbers.Planned) → PlansNext net s q → PlansNext net (seen s) q
seen-plans net s (plans_by.Filters moved) h = h
seen-plans net s (plans_by.Adverts moved) h = h
seen-plans net s (plans_by.Publish id number) h = h
seen-plans net s (plans_by.Refused o) h = h

plans-seen : (net : NetParts) (s : SessionParts) (q : numbers.Planned) → PlansNext net (seen s) q → PlansNext net s q
plans-seen net s (plans_by.Filters moved) h = h
plans-seen net s (plans_by.Adverts moved) h = h
plans-seen net s (plans_by.Publish id number) h = h
plans-seen net s (plans_by.Refused o) h = h

seen-own : (s t : SessionParts) → IsOwn s t → seen s ≡ seen t
seen-own s t o =
    ap (λ z. session_parts z s.semantics s.script s.taken [] 0 false) o.client
    ∙ (ap (λ z. session_parts t.client z s.script s.taken [] 0 false) o.semantics
    ∙ (ap (λ z. session_parts t.client t.semantics z s.taken [] 0 false) o.script
    ∙ ap (λ z. session_parts t.client t.semantics t.script z [] 0 false) o.taken))

pub plans-own : (net : NetParts) (s t : SessionParts) (q : numbers.Planned) → IsOwn s t → PlansNext net t q → PlansNext net s q
plans-own net s t q o h = plans-seen net s q (subst (λ z. PlansNext net z q) (sym (seen-own s t o)) (seen-plans net t q h))

pub plans-unbare : (net : NetParts) (s : SessionParts) (q : numbers.Planned) → PlansNext net (bare s) q → PlansNext net s q
plans-unbare net s q h = plans-of net s q h

-- the notice of a plan
abbrev notice-in : Planned → List Attribute
notice-in (plans.Subs out add) = []
notice-in (plans.Advs out add) = []
notice-in (plans.Publish id n) = n
notice-in (plans.Refused o) = []

pub one-notice : (s : SessionParts) (a b : Id) (n m : List Attribute) → next_plan s ≡ Some (plans.Publish a n) → next_plan s ≡ Some (plans.Publish b m) → n ≡ m
one-notice s a b n m p q = ap notice-in (same_Some _ _ (sym p ∙ q))

-- deliveries leave the clients' numbers
one-more : (to : List ℕ) (d : Delivery) (s : SessionParts) (ss : List SessionParts) (b : Bool) → client_numbers (map bare (delivered to d ss)) ≡ client_numbers (map bare ss)
    → (cond b (handed d s) s).client ∷ client_numbers (map bare (delivered to d ss)) ≡ s.client ∷ client_numbers (map bare ss)
one-more to d s ss true e = ap (λ z. s.client ∷ z) e
one-more to d s ss false e = ap (λ z. s.client ∷ z) e

pub numbers-delivered : (to : List ℕ) (d : Delivery) (ss : List SessionParts) → client_numbers (map bare (delivered to d ss)) ≡ client_numbers (map bare ss)
numbers-delivered to d [] = refl
numbers-delivered to d (s ∷ ss) = one-more to d s ss (is_among s.client to) (numbers-delivered to d ss)

pub numbers-left : (from : ℕ) (old new : LedgerParts) (clients after : List SessionParts) (route : List ℕ) (sent : List SendingParts) (m : Message real)
    → HasActed from m route old new clients after sent → client_numbers (map bare after) ≡ client_numbers (map bare clients)
numbers-left from old new clients after route sent (Subs out add) a = ap client_numbers a.1
numbers-left from old new clients after route sent (Advs out add) a = ap client_numbers a.1
numbers-left from old new clients after route sent (Noticed publisher ordinal n) a = ap client_numbers a.1.inboxes ∙ numbers-delivered (clients_on route) (delivery_under publisher ordinal n) clients

pub acted-net : (from : ℕ) (old new : LedgerParts) (clients after : List SessionParts) (route : List ℕ) (sent : List SendingParts) (m : Message real) → HasActed from m route old new clients after sent → new.net ≡ old.net
acted-net from old new clients after route sent (Subs out add) a = a.0.net
acted-net from old new clients after route sent (Advs out add) a = a.0.net
acted-net from old new clients after route sent (Noticed publisher ordinal n) a = ap (λ z. z.net) a.0

pub acted-semantics : (from : ℕ) (old new : LedgerParts) (clients after : List SessionParts) (route : List ℕ) (sent : List SendingParts) (m : Message real) → HasActed from m route old new clients after sent → new.control.semantics ≡ old.control.semantics
acted-semantics from old new clients after route sent (Subs out add) a = a.0.semantics
acted-semantics from old new clients after route sent (Advs out add) a = a.0.semantics
acted-semantics from old new clients after route sent (Noticed publisher ordinal n) a = ap (λ z. z.control.semantics) a.0

pub acted-links : (from : ℕ) (old new : LedgerParts) (clients after : List SessionParts) (route : List ℕ) (sent : List SendingParts) (m : Message real) → HasActed from m route old new clients after sent → new.control.links ≡ old.control.links
acted-links from old new clients after route sent (Subs out add) a = a.0.links
acted-links from old new clients after route sent (Advs out add) a = a.0.links
acted-links from old new clients after route sent (Noticed publisher ordinal n) a = ap (λ z. z.control.links) a.0

-- what a message by numbers adds rises
pub adds-rise : (net : NetParts) (load : Load) → IsLoad net load → AddsRising (represented net load)
adds-rise net (loads.Publication number) h = tt
adds-rise net (loads.Filters change) h = picked-rising sub_laws (known_filters net.clients) (known_filters_rise net.clients) change.added h.added_rising
adds-rise net (loads.Adverts change) h = picked-rising ad_laws (known_adverts net.clients) (known_adverts_rise net.clients) change.added h.1.added_rising

-- the next command of a client, whichever of its sessions is looked at
module _ (before : List SessionParts) (rises : IsStrictlyIncreasing (client_numbers before)) (client : ℕ) (t : SessionParts) (there : Has (bare t) (map bare before)) (e : t.client ≡ client) where
  same-plan : (s : SessionParts) → Has s (map bare before) → s.client ≡ client → next_plan s ≡ next_plan t
  same-plan s h f =
      let u = has-map bare before s h in
      let v = has-map bare before (bare t) there in
      let one : u.0 ≡ v.0 = only before rises u.0 v.0 u.1 v.1 (ap (λ (z : SessionParts). z.client) (sym u.2) ∙ (f ∙ (sym e ∙ ap (λ (z : SessionParts). z.client) v.2))) in
      ap next_plan (u.2 ∙ (ap bare one ∙ sym v.2))

  next-is : (net : NetParts) (k : ℕ) (p : PublicationParts) → slice_get (known_publications 1 net.clients) k ≡ Some p → publication_at net k ≡ p
  next-is net k p e = get_or_from_slice_get (known_publications 1 net.clients) k p (publication 0 0 0 []) e

  pub next-known : (net : NetParts) (r : Option ℕ) → IfSome r (λ k. (p : PublicationParts) × (slice_get (known_publications 1 net.clients) k ≡ Some p) × (next_plan t ≡ Some (plans.Publish p.id p.notice)))
      → IfSome r (λ k. k < length (known_publications 1 net.clients))
  next-known net None w = tt
  next-known net (Some k) w = slice_get_within (known_publications 1 net.clients) k w.0 w.1

  pub next-some : (net : NetParts) (r : Option ℕ) → IfSome r (λ k. (p : PublicationParts) × (slice_get (known_publications 1 net.clients) k ≡ Some p) × (next_plan t ≡ Some (plans.Publish p.id p.notice)))
      → IfSome r (λ k. (s : SessionParts) → Has s (map bare before) → s.client ≡ client → next_plan s ≡ Some (plans.Publish (publication_at net k).id (publication_at net k).notice))
  next-some net None w = tt
  next-some net (Some k) w = λ s h f. same-plan s h f ∙ (w.2 ∙ ap (λ (p : PublicationParts). Some (plans.Publish p.id p.notice)) (sym (next-is net k w.0 w.1)))

  pub next-none : (r : Option ℕ) → IfNone r ((id : Id) (n : List Attribute) → next_plan t ≡ Some (plans.Publish id n) → ⊥)
      → IfNone r ((s : SessionParts) (id : Id) (n : List Attribute) → Has s (map bare before) → s.client ≡ client → next_plan s ≡ Some (plans.Publish id n) → ⊥)
  next-none None w = λ s id n h f q. w id n (sym (same-plan s h f) ∙ q)
  next-none (Some k) w = tt
