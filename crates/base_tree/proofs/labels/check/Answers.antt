use Rattle.std.proofs.Common.{subst, arith}
use Rattle.base_tree.specs.Graph.{IsApart}
use Rattle.base_tree.proofs.labels.check.Goals as goal

pub returns-in-Some : goal.returns-in-Some
returns-in-Some c =
    let labels = c.in_ok-labels.ensures in
    ((omega arith, omega arith), subst (λ n. IsApart n c.args.edges.now c.in-Some.s) labels.0 ((c.apart.ensures.some c.args.edges.now labels.1 c.in-Some.s).0 c.in-Some.is))
