use Rattle.std.proofs.Common.{ℕ, List, Result, Ok, Err, IfOk, subst, arith}
use Rattle.base.specs.declared.memory.NoMemory.{NoMemory}
use Rattle.match_filters.specs.Table.{IsRouteOf}
use Rattle.match_routes.specs.Routes.{IsRouteBy, held_by, AreNumbers}
use Rattle.match_routes.proofs.Routes.{route-of-notice}
use Rattle.match_routes.proofs.law.route.Goals as goal

pub returns : goal.returns
returns c = go c.route.result (rw c.as_set.ensures at c.route.ensures)
  where
    numbers : AreNumbers c.args.matcher.now c.args.forwarding.now.pairs
    numbers x h = (let k = (c.lemma_bounded.ensures.known x h).number in omega (arith, k, c.requires.same))

    go : (r : Result (List ℕ) NoMemory) → IfOk r (IsRouteBy c.matched.new.row.members c.args.forwarding.now.pairs) → IfOk r (IsRouteOf c.args.notice.now (held_by c.args.matcher.now c.args.forwarding.now.pairs))
    go (Ok route) r = route-of-notice c.args.notice.now c.args.matcher.now c.args.forwarding.now.pairs route numbers (subst (λ (ns : List ℕ). IsRouteBy ns c.args.forwarding.now.pairs route) c.in_ok-matched.ensures.members r)
    go (Err e) r = tt
