use Rattle.std.proofs.Common.{◌<◌, ◌↔◌, ℕ, length, sym, ap, subst, arith}
use Rattle.base.specs.Sets.{Has}
use Rattle.match_routes.specs.Installed.{Installed}
use Rattle.match_routes.specs.Routes.{IsRouteBy}
use Rattle.match_routes.proofs.Joined.{IsJoined, joined-all, joined-route}
use Rattle.match_routes.proofs.forwarding.Forwarding.route.Goals as goal

pub joined-requires-clause-numbers : goal.joined-requires-clause-numbers
joined-requires-clause-numbers c = omega (arith, c.requires, ap (λ (p : Installed). p.width) c.self.view_is, c.self.invariant.0.long)

pub joined-requires-clause-others : goal.joined-requires-clause-others
joined-requires-clause-others c = omega (arith, c.requires, ap (λ (p : Installed). p.width) c.self.view_is, c.self.invariant.2.wide)

pub at_places-requires-clause-within : goal.at_places-requires-clause-within
at_places-requires-clause-within c place h =
    let l = c.in_ok-places.ensures.within place h in
    omega (arith, l, c.self.invariant.1, ap length c.deref.ensures.value)

pub returns : goal.returns
returns c =
    let numbers = c.args.matched.now.members in
    let interfaces = c.self.inside.interfaces.items in
    let columns = c.self.inside.columns.rows in
    let places = c.in_ok-places.places.items in
    let route = c.at_places.result.items in
    let w = ap (λ (p : Installed). p.width) c.self.view_is in
    let below = λ (k : ℕ) (h : Has k numbers). (let l = c.lemma_sorted.ensures.within k h in let g : k < c.self.inside.width = omega (arith, l, c.requires, w) in g) in
    let all = joined-all numbers c.self.inside.width c.self.inside.present columns c.self.invariant.2 in
    let joined : (q : ℕ) → Has q places ↔ IsJoined numbers columns q = λ q. ((λ h. (all q).0 ((c.in_ok-places.ensures.members q).0 h)), (λ h. (c.in_ok-places.ensures.members q).1 ((all q).1 h))) in
    let listed = λ (k : ℕ). rw c.deref.ensures.value at c.at_places.ensures.exact k in
    let r = joined-route numbers c.self.inside.width interfaces columns places route c.self.invariant.0 below joined c.at_places.ensures.rising listed in
    subst (IsRouteBy numbers c.args.self.now.pairs) (sym c.to.ensures) (subst (λ (p : Installed). IsRouteBy numbers p.pairs route) c.self.view_is r)
