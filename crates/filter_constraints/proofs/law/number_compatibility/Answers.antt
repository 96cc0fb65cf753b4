use Rattle.filter_constraints.proofs.NumberLaws.{never_wrong, exact}
use Rattle.filter_constraints.proofs.law.number_compatibility.Goals as goal

pub returns-clause-never_wrong : goal.returns-clause-never_wrong
returns-clause-never_wrong q k m x h j = never_wrong k m x h j

pub returns-clause-exact : goal.returns-clause-exact
returns-clause-exact q least greatest k m w i j h = exact least greatest k m w i j h
