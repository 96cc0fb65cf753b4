-- The next command of a client, whether a publication goes out or not, is what its plan says.
use Rattle.std.proofs.Common.{◌≡◌, ℕ, ◌+◌, List, [], map, Option, Some, None, sym, ap, subst, ◌∙◌}
use Rattle.std.specs.List.Sorted.{IsStrictlyIncreasing}
use Rattle.base.specs.Sets.{Has}
use Rattle.law_routing.specs.Server.{Noticed}
use Rattle.net_tables.specs.Found.{publication_at}
use Rattle.server_spec.specs.declared.planned.Planned.{Planned}
use Rattle.server_spec.specs.declared.planned.Planned.TheVariants as plans
use Rattle.server_spec.specs.Session.{SessionParts}
use Rattle.server_spec.specs.Plan.{next_plan}
use Rattle.server_message.specs.Parts.{SendingParts}
use Rattle.server_session.specs.declared.planned.Planned as numbers
use Rattle.server_session.specs.Session.{PlansNext}
use Rattle.server_core.specs.declared.acting.Outgoing.{Outgoing}
use Rattle.server_core.specs.Clients.{bare, client_numbers}
use Rattle.server_core.specs.Ledger.{LedgerParts}
use Rattle.server_core.specs.Acting.{HasDone, planned_message}
use Rattle.server_core.specs.Next.{GoesOut, CanGo, HasGone}
use Rattle.server_core.specs.Core.{core_parts, installed_from}
use Rattle.server_core.specs.Routed.{IsRoute, RoutesNext}
use Rattle.server_core.specs.Kept.{IsCore}
use Rattle.server_core.proofs.Made.{own-of}
use Rattle.server_core.proofs.Plans.{change-in, commanded, here, kept-mid, plans-bare}
use Rattle.server_core.proofs.Keeping.{changed-links, changed-net, changed-semantics, numbers-left, one-notice, plans-later, plans-own, plans-unbare}
use Rattle.base.proofs.Sets.{map-has, has-map}

module _ (server clock client : ℕ) (old : LedgerParts) (before mid : List SessionParts) (kept : IsCore (core_parts server old (map bare before) clock))
    (same : map bare mid ≡ map bare before) (rises : IsStrictlyIncreasing (client_numbers before)) (lives : Has client (client_numbers before))
    (plan : numbers.Planned) (plans-are : (s : SessionParts) → Has s before → s.client ≡ client → PlansNext old.net s plan) where
  pub can-go : (out : Option Outgoing) → GoesOut (core_parts server old (map bare before) clock) client out → CanGo old.net plan out
  can-go None silent =
      let r = here server clock client old before mid kept same rises lives in
      change-in old.net (bare r.0) plan (plans-bare old.net r.0 plan (plans-are r.0 r.1 r.2)) (λ id n. silent (bare r.0) id n (map-has bare before r.0 r.1) r.2)
  can-go (Some out) goes = (goes.known, goes.routed.rising)

  module _ (new : LedgerParts) (after : List SessionParts) (sent : List SendingParts) where
    -- what was done is what the session's plan does, and leaves the rest
    pub record IsDone : Type 0 where
      pub plan-is : Planned
      pub planned : (s : SessionParts) → Has s (map bare mid) → s.client ≡ client → next_plan s ≡ Some plan-is
      pub route : List ℕ
      pub done : HasDone (64 + client) (planned_message old.control.semantics plan-is) route old new mid after sent
      pub routes : RoutesNext (core_parts server old (map bare mid) clock) client route
      pub net : new.net ≡ old.net
      pub semantics : new.control.semantics ≡ old.control.semantics
      pub links : new.control.links ≡ old.control.links
      pub numbers : client_numbers (map bare after) ≡ client_numbers (map bare mid)
      pub plans-then : (s : SessionParts) → Has s after → s.client ≡ client → PlansNext old.net s plan

    pub gone-done : (out : Option Outgoing) → GoesOut (core_parts server old (map bare before) clock) client out → HasGone (64 + client) plan out old new mid after sent → IsDone
    gone-done None silent d =
        let deed = commanded server clock client old before mid kept same rises lives new sent plan plans-are d.0 in
        record {
          plan-is = deed.0;
          planned = deed.1;
          route = [];
          done = subst (λ z. HasDone (64 + client) (planned_message old.control.semantics deed.0) [] old new mid z sent) (sym d.1) deed.2;
          routes = λ s id n h e q. absurd (silent s id n (subst (Has s) same h) e q);
          net = changed-net (64 + client) plan old new sent d.0;
          semantics = changed-semantics (64 + client) plan old new sent d.0;
          links = changed-links (64 + client) plan old new sent d.0;
          numbers = ap (λ z. client_numbers (map bare z)) d.1;
          plans-then = subst (λ z. (s : SessionParts) → Has s z → s.client ≡ client → PlansNext old.net s plan) (sym d.1) (plans-later old.net client plan before mid same plans-are);
        }
    gone-done (Some out) goes d =
        let publication = publication_at old.net out.number in
        let message = Noticed publication.id.publisher publication.id.ordinal publication.notice in
        let then = kept-mid server clock client old before mid kept same rises lives in
        let planned : (s : SessionParts) → Has s (map bare mid) → s.client ≡ client → next_plan s ≡ Some (plans.Publish publication.id publication.notice) =
        λ s h e. goes.publish s (subst (Has s) same h) e in
        record {
          plan-is = plans.Publish publication.id publication.notice;
          planned = planned;
          route = out.route.now;
          done = d;
          routes = λ s id n h e q. subst (λ z. IsRoute z (installed_from (core_parts server old (map bare mid) clock)) out.route.now) (one-notice s publication.id id publication.notice n (planned s h e) q) goes.routed;
          net = ap (λ (z : LedgerParts). z.net) d.0;
          semantics = ap (λ (z : LedgerParts). z.control.semantics) d.0;
          links = ap (λ (z : LedgerParts). z.control.links) d.0;
          numbers = numbers-left (64 + client) old new mid after out.route.now sent message d;
          plans-then = λ s m e.
              let t = own-of server clock clock (64 + client) old new mid after out.route.now sent then message d (bare s) (map-has bare after s m) in
              let u = has-map bare mid t.0 t.1 in
              let plan-mid : PlansNext old.net u.0 plan = plans-later old.net client plan before mid same plans-are u.0 u.1 (ap (λ (z : SessionParts). z.client) (sym u.2) ∙ (sym t.2.client ∙ e)) in
              plans-unbare old.net s plan (plans-own old.net (bare s) t.0 plan t.2 (subst (λ z. PlansNext old.net z plan) (sym u.2) (plans-bare old.net u.0 plan plan-mid)));
        }
