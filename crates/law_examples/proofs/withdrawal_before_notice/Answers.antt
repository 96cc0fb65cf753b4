use Rattle.std.proofs.Common.{refl}
use Rattle.law_examples.proofs.withdrawal_before_notice.Goals as goal

pub returns-clause-wide : goal.returns-clause-wide
returns-clause-wide c = refl

pub returns-clause-narrow : goal.returns-clause-narrow
returns-clause-narrow c = refl

pub returns-clause-trace : goal.returns-clause-trace
returns-clause-trace c = refl
