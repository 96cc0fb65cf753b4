use Rattle.std.proofs.Common.{◌≤◌, sym, subst}
use Rattle.base_tree.specs.Labels.{AreLabelsOf}
use Rattle.base_tree.proofs.Steps.{tree_answer, apart_answer}
use Rattle.base_tree.proofs.labels.Labels.apart.Goals as goal

pub returns-clause-none : goal.returns-clause-none
returns-clause-none c = λ edges p.
    let of = subst (λ s. AreLabelsOf edges s) (sym c.self.view_is) p in
    let some = subst (λ s. 1 ≤ s.count) (sym c.self.view_is) c.requires in
    rw (← c.self.view_is) (tree_answer c.self.inside.count edges c.self.inside.labels c.unlike_first.result some of c.unlike_first.ensures.none c.unlike_first.ensures.some)

pub returns-clause-some : goal.returns-clause-some
returns-clause-some c = λ edges p s.
    let of = subst (λ s. AreLabelsOf edges s) (sym c.self.view_is) p in
    let some = subst (λ s. 1 ≤ s.count) (sym c.self.view_is) c.requires in
    rw (← c.self.view_is) (apart_answer c.self.inside.count edges c.self.inside.labels c.unlike_first.result s some of c.unlike_first.ensures.none c.unlike_first.ensures.some)
