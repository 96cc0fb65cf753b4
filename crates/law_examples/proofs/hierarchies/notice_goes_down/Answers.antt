use Rattle.std.proofs.Common.{refl}
use Rattle.law_examples.proofs.hierarchies.notice_goes_down.Goals as goal

pub returns-clause-trace : goal.returns-clause-trace
returns-clause-trace c = refl

pub returns-clause-withdrawn : goal.returns-clause-withdrawn
returns-clause-withdrawn c = refl

pub returns-clause-subscriber : goal.returns-clause-subscriber
returns-clause-subscriber c = refl
