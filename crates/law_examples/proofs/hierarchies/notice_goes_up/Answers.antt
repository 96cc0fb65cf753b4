use Rattle.std.proofs.Common.{refl}
use Rattle.law_examples.proofs.hierarchies.notice_goes_up.Goals as goal

pub returns-clause-trace : goal.returns-clause-trace
returns-clause-trace c = refl

pub returns-clause-subscriber : goal.returns-clause-subscriber
returns-clause-subscriber c = refl

pub returns-clause-publisher : goal.returns-clause-publisher
returns-clause-publisher c = refl

pub returns-clause-unadvertised : goal.returns-clause-unadvertised
returns-clause-unadvertised c = refl

pub returns-clause-refused : goal.returns-clause-refused
returns-clause-refused c = refl
