use Rattle.std.proofs.Common.{◌≡◌, sym, ap, subst, ◌∙◌, IfSome, IfNone, slice_get, Some}
use Rattle.std.specs.List.Sorted.{IsStrictlyIncreasing}
use Rattle.std.proofs.lemmas.List.Sorted.{searched}
use Rattle.base.specs.Sets.{Has}
use Rattle.server_spec.specs.Session.{SessionParts}
use Rattle.server_core.specs.Clients.{ClientsParts, client_numbers}
use Rattle.server_core.proofs.Sessions.{found-session}
use Rattle.server_core.proofs.clients.Clients.search.Goals as goal
use Rattle.match_routes.proofs.Searching.{IsFound, found-none}
use Rattle.base.proofs.Sets.{increasing-get_or}

found : (c : goal.After-ok) → IsFound (client_numbers c.args.self.now.sessions) c.args.client c.binary_search.result
found c =
    let rising : IsStrictlyIncreasing c.deref.result.now = subst IsStrictlyIncreasing (sym c.deref.ensures.value) c.self.invariant.1 in
    let same : c.deref.result.now ≡ client_numbers c.args.self.now.sessions = c.deref.ensures.value ∙ sym c.self.invariant.0 ∙ ap (λ (z : ClientsParts). client_numbers z.sessions) c.self.view_is in
    subst (λ z. IsFound z c.args.client c.binary_search.result) same (searched c.deref.result.now c.args.client c.binary_search.result c.binary_search.ensures.position (increasing-get_or c.deref.result.now rising))

pub returns-clause-session : goal.returns-clause-session
returns-clause-session c = subst (λ r. IfSome r (λ i. (s : SessionParts) → slice_get c.args.self.now.sessions i ≡ Some s → s.client ≡ c.args.client)) (sym c.ok.ensures.value) (found-session c.args.self.now.sessions c.args.client c.binary_search.result (found c))

pub returns-clause-none : goal.returns-clause-none
returns-clause-none c = subst (λ r. IfNone r (Has c.args.client (client_numbers c.args.self.now.sessions) → ⊥)) (sym c.ok.ensures.value) (found-none (client_numbers c.args.self.now.sessions) c.args.client c.binary_search.result (found c))
