use Rattle.std.proofs.Common.{◌≡◌, ◌∷◌, [], List, not, filter, slice_get, Some, subst}
use Rattle.filter_constraints.specs.Constraint.{ConstraintParts}
use Rattle.filter_types.specs.Before.{list_before}
use Rattle.filter_types.specs.Cover.{filter_covers, advert_covers}
use Rattle.base.specs.Sets.{union}
use Rattle.base_order.specs.Order.{picked}
use Rattle.filter_text.specs.Messages.{Lists}
use Rattle.net_tables.specs.declared.numbered.NumberedCommand.{NumberedCommand}
use Rattle.server_session.specs.declared.planned.Planned.TheVariants.{Filters, Adverts}
use Rattle.server_session.specs.Moved.{IsMoved}
use Rattle.server_session.specs.Session.{IsNextCommand}
use Rattle.server_session.proofs.Keeping.{next-inside, plan-outside, plans-subscribe, plans-unsubscribe, plans-advertise, plans-unadvertise}
use Rattle.server_session.proofs.session.Session.plan_of.Goals as goal

pub returns-in-Subscribe-clause-plan : goal.returns-in-Subscribe-clause-plan
returns-in-Subscribe-clause-plan c =
    let v = c.self.view_is in
    let n = next-inside _ _ _ v _ (subst (λ (z : NumberedCommand). IsNextCommand c.args.self.now.net c.args.self.now.session z) c.in-Subscribe.is c.requires) in
    let row = c.self.inside.own.filters.members in
    plan-outside _ _ _ v (Filters c.added.result) (plans-subscribe _ _ _ _ _ _ _ c.self.invariant.0 c.in-Subscribe.i c.added.result n
    (subst (λ (z : Lists). (x : List ConstraintParts) → slice_get z c.in-Subscribe.i ≡ Some x → IsMoved list_before z (picked z row) (union list_before (x ∷ []) (picked z row)) c.added.result)
    c.filters-filters.ensures c.added.ensures))

pub returns-in_ok-moved-in-Unsubscribe-clause-plan : goal.returns-in_ok-moved-in-Unsubscribe-clause-plan
returns-in_ok-moved-in-Unsubscribe-clause-plan c =
    let v = c.self.view_is in
    let n = next-inside _ _ _ v _ (subst (λ (z : NumberedCommand). IsNextCommand c.args.self.now.net c.args.self.now.session z) c.in-Unsubscribe.is c.requires) in
    let row = c.self.inside.own.filters.members in
    plan-outside _ _ _ v (Filters c.in_ok-moved-in-Unsubscribe.moved) (plans-unsubscribe _ _ _ _ _ _ _ c.self.invariant.0 c.in-Unsubscribe.i c.in_ok-moved-in-Unsubscribe.moved n
    (subst (λ (z : Lists). (x : List ConstraintParts) → slice_get z c.in-Unsubscribe.i ≡ Some x → IsMoved list_before z (picked z row) (filter (λ y. not (filter_covers x y)) (picked z row)) c.in_ok-moved-in-Unsubscribe.moved)
    c.filters-filters.ensures c.in_ok-moved-in-Unsubscribe.ensures))

pub returns-in-Advertise-clause-plan : goal.returns-in-Advertise-clause-plan
returns-in-Advertise-clause-plan c =
    let v = c.self.view_is in
    let n = next-inside _ _ _ v _ (subst (λ (z : NumberedCommand). IsNextCommand c.args.self.now.net c.args.self.now.session z) c.in-Advertise.is c.requires) in
    let row = c.self.inside.own.adverts.members in
    plan-outside _ _ _ v (Adverts c.added-in-Advertise.result) (plans-advertise _ _ _ _ _ _ _ c.self.invariant.0 c.in-Advertise.i c.added-in-Advertise.result n
    (subst (λ (z : Lists). (x : List ConstraintParts) → slice_get z c.in-Advertise.i ≡ Some x → IsMoved list_before z (picked z row) (union list_before (x ∷ []) (picked z row)) c.added-in-Advertise.result)
    c.adverts-adverts.ensures c.added-in-Advertise.ensures))

pub returns-in_ok-moved-in-Unadvertise-clause-plan : goal.returns-in_ok-moved-in-Unadvertise-clause-plan
returns-in_ok-moved-in-Unadvertise-clause-plan c =
    let v = c.self.view_is in
    let n = next-inside _ _ _ v _ (subst (λ (z : NumberedCommand). IsNextCommand c.args.self.now.net c.args.self.now.session z) c.in-Unadvertise.is c.requires) in
    let row = c.self.inside.own.adverts.members in
    plan-outside _ _ _ v (Adverts c.in_ok-moved-in-Unadvertise.moved) (plans-unadvertise _ _ _ _ _ _ _ c.self.invariant.0 c.in-Unadvertise.i c.in_ok-moved-in-Unadvertise.moved n
    (subst (λ (z : Lists). (x : List ConstraintParts) → slice_get z c.in-Unadvertise.i ≡ Some x → IsMoved list_before z (picked z row) (filter (λ y. not (advert_covers x y)) (picked z row)) c.in_ok-moved-in-Unadvertise.moved)
    c.adverts-adverts.ensures c.in_ok-moved-in-Unadvertise.ensures))
