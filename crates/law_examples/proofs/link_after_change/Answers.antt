use Rattle.std.proofs.Common.{refl}
use Rattle.law_examples.proofs.Phased.{star-lawful, star-drains}
use Rattle.law_examples.proofs.link_after_change.Goals as goal

pub returns-clause-lawful : goal.returns-clause-lawful
returns-clause-lawful c = star-lawful

pub returns-clause-drains : goal.returns-clause-drains
returns-clause-drains c = star-drains

pub returns-clause-trace : goal.returns-clause-trace
returns-clause-trace c = refl

pub returns-clause-given : goal.returns-clause-given
returns-clause-given c = refl

pub returns-clause-publisher : goal.returns-clause-publisher
returns-clause-publisher c = refl

pub returns-clause-from_middle : goal.returns-clause-from_middle
returns-clause-from_middle c = refl

pub returns-clause-at_middle : goal.returns-clause-at_middle
returns-clause-at_middle c = refl

pub returns-clause-at_leaf : goal.returns-clause-at_leaf
returns-clause-at_leaf c = refl

pub returns-clause-old_link : goal.returns-clause-old_link
returns-clause-old_link c = refl
