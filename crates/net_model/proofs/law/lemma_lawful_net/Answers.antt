use Rattle.net_model.specs.Real.{real}
use Rattle.law_phases.proofs.Nets.{net-laws as each-net}
use Rattle.net_model.specs.Nets.{phased_net, first_tree, later_trees}
use Rattle.net_model.proofs.SoundNets.{net-laws, phases-low, tree-map}
use Rattle.net_model.proofs.law.lemma_lawful_net.Goals as goal

pub returns-clause-laws : goal.returns-clause-laws
returns-clause-laws c = net-laws

pub returns-clause-each : goal.returns-clause-each
returns-clause-each c = λ net good phase. each-net real (phased_net net) (net-laws net good) phase

pub returns-clause-tree : goal.returns-clause-tree
returns-clause-tree c = λ net phase. tree-map (first_tree net.trees) (later_trees net.trees) phase

pub returns-clause-phases : goal.returns-clause-phases
returns-clause-phases c = phases-low
