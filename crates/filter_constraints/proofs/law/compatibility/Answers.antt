use Rattle.filter_constraints.proofs.Compatible.{symmetric, never_wrong, exact}
use Rattle.filter_constraints.proofs.law.compatibility.Goals as goal

pub returns-clause-symmetric : goal.returns-clause-symmetric
returns-clause-symmetric q c d = symmetric c d

pub returns-clause-never_wrong : goal.returns-clause-never_wrong
returns-clause-never_wrong q c d n s = never_wrong c d n s

pub returns-clause-exact : goal.returns-clause-exact
returns-clause-exact q c d i j n h = exact c d i j n h
