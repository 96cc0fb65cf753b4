use Rattle.std.proofs.Common.{sym, subst}
use Rattle.base_tree.specs.Graph.{IsEdgeWithin}
use Rattle.base_tree.specs.Labels.{AreLabelsOf}
use Rattle.base_tree.proofs.Steps.{joined-alike, join-more}
use Rattle.base_tree.proofs.labels.Labels.join.Goals as goal

pub returns-then-to-from-clause-loops : goal.returns-then-to-from-clause-loops
returns-then-to-from-clause-loops c =
    let of = subst (λ s. AreLabelsOf c.args.earlier.now s) (sym c.self.view_is) c.requires.of in
    (λ e. absurd cc, λ w. absurd (c.if-to-from.true (joined-alike c.self.inside.count c.args.earlier.now c.args.edge c.self.inside.labels of w.0)))

pub returns-then-to-from-clause-none : goal.returns-then-to-from-clause-none
returns-then-to-from-clause-none c =
    let of = subst (λ s. AreLabelsOf c.args.earlier.now s) (sym c.self.view_is) c.requires.of in
    let within = subst (λ s. IsEdgeWithin s.count c.args.edge) (sym c.self.view_is) c.requires.within in
    join-more c.self.inside.count c.args.earlier.now c.args.edge c.self.inside.labels c.relabel.new.labels c.self.invariant within of c.if-to-from.true c.relabel.ensures
