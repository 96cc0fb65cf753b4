-- The next command of a client at a server of a hierarchy, whether a publication goes out or not, is the step that its plan says.
use Rattle.std.proofs.Common.{◌≡◌, ℕ, ◌+◌, ◌<◌, ◌^◌, suc, max, List, length, map, Option, Some, None, refl, sym, ap, subst, ◌∙◌}
use Rattle.std.specs.List.Sorted.{IsStrictlyIncreasing}
use Rattle.base.specs.Sets.{Has}
use Rattle.filter_text.specs.declared.semantics.Semantics.TheVariants.{Subscription}
use Rattle.law_machine.specs.Machine.{Does}
use Rattle.law_routing.specs.Server.{Noticed}
use Rattle.law_routing.specs.Step.{NextCommand}
use Rattle.net_tables.specs.Found.{publication_at}
use Rattle.server_spec.specs.declared.planned.Planned.TheVariants as plans
use Rattle.server_spec.specs.Session.{SessionParts}
use Rattle.server_spec.specs.Plan.{next_plan}
use Rattle.server_message.specs.Parts.{SendingParts}
use Rattle.server_session.specs.declared.planned.Planned as numbers
use Rattle.server_session.specs.Session.{PlansNext}
use Rattle.server_core.specs.declared.acting.Outgoing.{Outgoing}
use Rattle.server_core.specs.Clients.{bare, client_numbers, at_client, stepped}
use Rattle.server_core.specs.Ledger.{LedgerParts}
use Rattle.server_core.specs.Acting.{sent_on, links_on, clients_on, delivery_under}
use Rattle.server_core.specs.Next.{GoesOut, CanGo}
use Rattle.server_core.specs.Core.{core_parts}
use Rattle.server_core.specs.Kept.{IsCore}
use Rattle.server_core.proofs.Commands.{numbers-bare}
use Rattle.server_core.proofs.Plans.{change-in, plans-bare}
use Rattle.server_core.proofs.Keeping.{changed-links, changed-net, changed-semantics, numbers-delivered, plans-own, plans-unbare}
use Rattle.hierarchy_network.specs.Core.{hierarchy_parts}
use Rattle.hierarchy_network.specs.Step.{MakesHierarchyStep}
use Rattle.hierarchy_network.specs.Acting.{HasGoneUp}
use Rattle.hierarchy_network.specs.CoreKept.{plain}
use Rattle.hierarchy_network.proofs.Keeping.{changed-installed}
use Rattle.hierarchy_network.proofs.Plain.{AllOf, all-delivered, own-delivered, spread-plainly}
use Rattle.hierarchy_network.proofs.Commanded.{publish-step, commanded-kept}
use Rattle.hierarchy_network.proofs.Silent.{silent-made, silent-kept}
use Rattle.base.proofs.Sets.{map-has, has-map}

module _ (server clock stamp client master : ℕ) (old : LedgerParts) (before mid : List SessionParts) (kept : IsCore (core_parts server old (map bare (map plain mid)) clock))
    (plainly : old.control.semantics ≡ Subscription) (same : map bare mid ≡ map bare before) (all-of : AllOf old.net.semantics (map bare mid))
    (lives : Has client (client_numbers (map bare mid))) (some-left : (s : SessionParts) → Has s (map bare mid) → s.client ≡ client → s.taken < length s.script)
    (rises : IsStrictlyIncreasing (client_numbers mid)) (plan : numbers.Planned) (plans-are : (s : SessionParts) → Has s mid → s.client ≡ client → PlansNext old.net s plan) where
  one : (s : SessionParts) × Has s mid × (s.client ≡ client)
  one = let r = has-map (λ (s : SessionParts). s.client) mid client (subst (Has client) (numbers-bare mid) lives) in (r.0, r.1, sym r.2)

  pub can-go : (out : Option Outgoing) → GoesOut (core_parts server old (map bare before) clock) client out → CanGo old.net plan out
  can-go None silent =
      change-in old.net (bare one.0) plan (plans-bare old.net one.0 plan (plans-are one.0 one.1 one.2))
      (λ id n. silent (bare one.0) id n (subst (Has (bare one.0)) same (map-has bare mid one.0 one.1)) one.2)
  can-go (Some out) goes = (goes.known, goes.routed.rising)

  -- the step that was made, and what is kept then
  pub record IsMade (new : LedgerParts) (after : List SessionParts) (sent : List SendingParts) : Type 0 where
    pub made : MakesHierarchyStep (Does (NextCommand client)) 0 (hierarchy_parts (core_parts server old (map bare mid) clock) master) (hierarchy_parts (core_parts server new (map bare (at_client client stepped after)) stamp) master) stamp sent
    pub kept-then : IsCore (core_parts server new (map bare (map plain (at_client client stepped after))) stamp)
    pub all-then : AllOf old.net.semantics (map bare after)
    pub net : new.net ≡ old.net
    pub semantics : new.control.semantics ≡ old.control.semantics
    pub links : new.control.links ≡ old.control.links
    pub installed : new.installed ≡ old.installed
    pub numbers : client_numbers (map bare after) ≡ client_numbers (map bare mid)
    pub plans-then : (s : SessionParts) → Has s after → s.client ≡ client → PlansNext old.net s plan

  module _ (new : LedgerParts) (after : List SessionParts) (sent : List SendingParts) (stamps : stamp ≡ suc (max clock 0)) (low : stamp < 2 ^ 62) where
    pub gone-made : (out : Option Outgoing) → GoesOut (core_parts server old (map bare before) clock) client out → HasGoneUp master (64 + client) plan out old new mid after sent → IsMade new after sent
    gone-made None silent ((all, changed, up), e) = subst (λ z. IsMade new z sent) (sym e) (record {
      made = silent-made server clock stamp client master old new mid all kept plainly all-of lives some-left rises sent stamps up plan plans-are changed;
      kept-then = silent-kept server clock stamp client master old new mid all kept plainly all-of lives some-left rises plan plans-are changed low;
      all-then = all-of;
      net = changed-net (64 + client) plan old new all changed;
      semantics = changed-semantics (64 + client) plan old new all changed;
      links = changed-links (64 + client) plan old new all changed;
      installed = changed-installed (64 + client) plan old new all changed;
      numbers = refl;
      plans-then = plans-are;
    })
    gone-made (Some out) goes (stays, spread) =
        let publication = publication_at old.net out.number in
        let from = 64 + client in
        let delivery = delivery_under publication.id.publisher publication.id.ordinal publication.notice in
        let planned : (s : SessionParts) → Has s (map bare mid) → s.client ≡ client → next_plan s ≡ Some (plans.Publish publication.id publication.notice) =
        λ s h e. goes.publish s (subst (Has s) same h) e in
        let among = spread-plainly old.net master from publication.id.publisher publication.id.ordinal publication.notice out.route.now old.control.links mid after sent spread in
        let all = sent_on old.net (Noticed publication.id.publisher publication.id.ordinal publication.notice) (links_on old.control.links from out.route.now) in
        record {
          made = record {
            step = publish-step server clock stamp client master old new mid after out.route.now kept plainly all-of lives some-left publication.id publication.notice planned sent stays among goes.routed stamps spread.sent_are;
            stamp_is = stamps;
            clock_is = refl;
            same_net = ap (λ (z : LedgerParts). z.net) stays;
            same_server = refl;
            same_links = ap (λ (z : LedgerParts). z.control.links) stays;
            same_master = refl;
          };
          kept-then = commanded-kept server clock stamp client master old new mid after out.route.now kept plainly all-of lives some-left (plans.Publish publication.id publication.notice) (λ o e. cc) planned all (stays, among) low;
          all-then = subst (AllOf old.net.semantics) (sym spread.inboxes) (all-delivered old.net.semantics (clients_on out.route.now) delivery mid all-of);
          net = ap (λ (z : LedgerParts). z.net) stays;
          semantics = ap (λ (z : LedgerParts). z.control.semantics) stays;
          links = ap (λ (z : LedgerParts). z.control.links) stays;
          installed = ap (λ (z : LedgerParts). z.installed) stays;
          numbers = ap client_numbers spread.inboxes ∙ numbers-delivered (clients_on out.route.now) delivery mid;
          plans-then = λ s m e.
              let t = own-delivered (clients_on out.route.now) delivery mid (bare s) (subst (Has (bare s)) spread.inboxes (map-has bare after s m)) in
              let u = has-map bare mid t.0 t.1 in
              let plan-mid : PlansNext old.net u.0 plan = plans-are u.0 u.1 (ap (λ (z : SessionParts). z.client) (sym u.2) ∙ (sym t.2.client ∙ e)) in
              plans-unbare old.net s plan (plans-own old.net (bare s) t.0 plan t.2 (subst (λ z. PlansNext old.net z plan) (sym u.2) (plans-bare old.net u.0 plan plan-mid)));
        }
