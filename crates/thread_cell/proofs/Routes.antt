-- The route of a client's next command is that of the publication that it is.
use Rattle.std.proofs.Common.{◌≡◌, ℕ, List, [], ◌∷◌, Option, Some, inl, inr, sym, ap, subst, ◌∙◌}
use Rattle.filter_types.specs.Notice.{Attribute}
use Rattle.base.specs.Sets.{Has}
use Rattle.base.specs.Numbers.{IsDistinct}
use Rattle.filter_text.specs.declared.id.Id.{Id}
use Rattle.server_spec.specs.declared.planned.Planned.{Planned}
use Rattle.server_spec.specs.declared.planned.Planned.TheVariants.{Publish}
use Rattle.server_spec.specs.Session.{SessionParts}
use Rattle.server_spec.specs.Plan.{next_plan}
use Rattle.net_tables.specs.Known.{PublicationParts}
use Rattle.server_core.specs.Core.{CoreParts, installed_from}
use Rattle.server_core.specs.Clients.{client_numbers}
use Rattle.server_core.specs.Routed.{IsRoute, RoutesNext}
use Rattle.thread_cell.specs.Kept.{IsSomeServer}
use Rattle.base.proofs.Sets.{map-has, has-map}

-- sessions of one client are one where the numbers differ
pub one-session : (ss : List SessionParts) (s t : SessionParts) → IsDistinct (client_numbers ss) → Has s ss → Has t ss → s.client ≡ t.client → s ≡ t
one-session [] s t d h g e = absurd h
one-session (x ∷ xs) s t d (inl a) (inl b) e = a ∙ sym b
one-session (x ∷ xs) s t d (inl a) (inr g) e = absurd (d.0 (subst (λ z. Has z (client_numbers xs)) (sym e ∙ ap (λ z. z.client) a) (map-has (λ (z : SessionParts). z.client) xs t g)))
one-session (x ∷ xs) s t d (inr h) (inl b) e = absurd (d.0 (subst (λ z. Has z (client_numbers xs)) (e ∙ ap (λ z. z.client) b) (map-has (λ (z : SessionParts). z.client) xs s h)))
one-session (x ∷ xs) s t d (inr h) (inr g) e = one-session xs s t d.1 h g e

-- the numbers of a server's clients differ
pub distinct : (core : CoreParts) → IsSomeServer core → IsDistinct (client_numbers core.clients)
distinct core (net, laws, state, stands) = subst IsDistinct stands.clients (laws.single core.server)

-- one plan is of one notice
pub same-notice : (a b : Id) (n m : List Attribute) → ◌≡◌ {A = Option Planned} (Some (Publish a n)) (Some (Publish b m)) → n ≡ m
same-notice a b n m e = cc

-- a route of the next command is one of the publication that it is
pub route-of-next : (core : CoreParts) (client : ℕ) (r : List ℕ) (p : PublicationParts) → Has client (client_numbers core.clients)
    → ((s : SessionParts) → Has s core.clients → s.client ≡ client → next_plan s ≡ Some (Publish p.id p.notice)) → RoutesNext core client r → IsRoute p.notice (installed_from core) r
route-of-next core client r p lives publish known =
    let m = has-map (λ (s : SessionParts). s.client) core.clients client lives in
    known m.0 p.id p.notice m.1 (sym m.2) (publish m.0 m.1 (sym m.2))
