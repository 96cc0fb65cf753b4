use Rattle.std.proofs.Common.{◌≡◌, ◌++◌, ◌∷◌, [], subst, List}
use Rattle.filter_constraints.specs.Constraint.{ConstraintParts}
use Rattle.match_filters.specs.Goals.{AreEntered, AreGoals}
use Rattle.match_filters.proofs.GoalLaws.{filled-more}
use Rattle.match_filters.proofs.builder.put.Goals as goal

pub returns : goal.returns
returns c filters e is =
    let f = c.args.filter.now in
    let same : c.constraints-constraints.result.now ≡ f = c.constraints-constraints.ensures.same in
    let few = c.constraints-constraints.ensures.whole.few in
    let id = c.args.id in
    let entered = subst (λ (g : List ConstraintParts). AreEntered g id c.args.index.now c.enter.new.index) same c.in_ok-enter.ensures in
    let reached = subst (λ (g : List ConstraintParts). AreGoals c.put_goal.new.goals.items (filters ++ g ∷ [])) same (c.in_ok-put_goal.ensures filters e is.reached) in
    filled-more c.args.index.now c.enter.new.index c.args.goals.now.items c.put_goal.new.goals.items filters f id e few is entered reached
