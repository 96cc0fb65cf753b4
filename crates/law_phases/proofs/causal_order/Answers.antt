use Rattle.std.proofs.Common.{subst, sym}
use Rattle.law_phases.specs.AtMoments.{net_seen}
use Rattle.law_phases.specs.Routes.{IsRoutedOn}
use Rattle.law_phases.proofs.Sequence.{passes-behind, causal-order, happens-passes}
use Rattle.law_phases.proofs.causal_order.Goals as goal

pub returns-clause-routed : goal.returns-clause-routed
returns-clause-routed hold c run two =
    let th = hold.M.Matching.theory in
    passes-behind th hold.M.Matching.laws run two.one.publication two.between two.other.publication two.before two.other.server two.one.moment two.other.moment two.one.interface two.other.interface
    (subst (λ z. IsRoutedOn th run (net_seen th run two.one.moment) two.one.moment z two.one.interface two.one.publication) two.one_server two.one.at) two.other.at

pub returns-clause-behind : goal.returns-clause-behind
returns-clause-behind hold c run = causal-order hold.M.Matching.theory hold.M.Matching.laws run

pub returns-clause-knowing : goal.returns-clause-knowing
returns-clause-knowing hold c run one between other chain =
    causal-order hold.M.Matching.theory hold.M.Matching.laws run one between other (happens-passes hold.M.Matching.theory hold.M.Matching.laws run one between other chain)
