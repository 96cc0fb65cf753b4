use Rattle.std.proofs.Common.{◌≡◌, ◌≤◌, false, true, arith, add-one}
use Rattle.server_spec.proofs.Sessions.{publishes-few}
use Rattle.server_session.proofs.Keeping.{plan-inside, filters-within, adverts-within, committed-by}
use Rattle.server_session.proofs.session.Session.commit.Goals as goal

pub commit-requires-clause-filters : goal.commit-requires-clause-filters
commit-requires-clause-filters c = filters-within _ _ _ _ _ _ _ c.self.invariant.0 c.args.planned.now (plan-inside _ _ _ c.self.view_is c.args.planned.now c.requires.plan)

pub commit-requires-clause-adverts : goal.commit-requires-clause-adverts
commit-requires-clause-adverts c = adverts-within _ _ _ _ _ _ _ c.self.invariant.0 c.args.planned.now (plan-inside _ _ _ c.self.view_is c.args.planned.now c.requires.plan)

pub commit-requires-clause-publishes : goal.commit-requires-clause-publishes
commit-requires-clause-publishes c =
    let few : c.self.inside.own.publishes ≤ 100000 = publishes-few _ _ _ _ _ c.self.invariant.0.kept in
    omega (arith, few)

never : false ≡ true → ⊥
never e = cc

pub invariant_of-self : goal.invariant_of-self
invariant_of-self c =
    let e = c.commit.ensures in
    let kept = committed-by _ _ _ _ _ _ _ c.self.invariant.0 c.lemma_sorted.ensures.rising c.lemma_sorted-2.ensures.rising c.args.planned.now (plan-inside _ _ _ c.self.view_is c.args.planned.now c.requires.plan) in
    (rw (e.filters, e.adverts, e.refused, e.publishes, add-one c.self.inside.taken) kept, c.self.invariant.1, λ w. absurd (never w))
