use Rattle.std.proofs.Common.{refl}
use Rattle.law_examples.proofs.narrow_range_stays.Goals as goal

pub returns-clause-trace : goal.returns-clause-trace
returns-clause-trace c = refl

pub returns-clause-home : goal.returns-clause-home
returns-clause-home c = refl

pub returns-clause-middle : goal.returns-clause-middle
returns-clause-middle c = refl

pub returns-clause-far : goal.returns-clause-far
returns-clause-far c = refl
