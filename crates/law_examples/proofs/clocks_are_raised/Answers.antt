use Rattle.std.proofs.Common.{refl}
use Rattle.law_examples.proofs.Phased.{publishes-lawful}
use Rattle.law_examples.proofs.clocks_are_raised.Goals as goal

pub returns-clause-lawful : goal.returns-clause-lawful
returns-clause-lawful c = publishes-lawful

pub returns-clause-trace : goal.returns-clause-trace
returns-clause-trace c = refl

pub returns-clause-given : goal.returns-clause-given
returns-clause-given c = refl
