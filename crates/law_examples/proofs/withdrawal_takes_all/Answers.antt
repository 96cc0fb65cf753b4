use Rattle.std.proofs.Common.{refl}
use Rattle.law_examples.proofs.Owing.{again-allowed, again-not-owed}
use Rattle.law_examples.proofs.withdrawal_takes_all.Goals as goal

pub returns-clause-given : goal.returns-clause-given
returns-clause-given c = refl

pub returns-clause-publisher : goal.returns-clause-publisher
returns-clause-publisher c = refl

pub returns-clause-list : goal.returns-clause-list
returns-clause-list c = refl

pub returns-clause-allowed : goal.returns-clause-allowed
returns-clause-allowed c = again-allowed

pub returns-clause-not_owed : goal.returns-clause-not_owed
returns-clause-not_owed c = again-not-owed

pub returns-clause-trace : goal.returns-clause-trace
returns-clause-trace c = refl

pub returns-clause-first : goal.returns-clause-first
returns-clause-first c = refl

pub returns-clause-withdrawn : goal.returns-clause-withdrawn
returns-clause-withdrawn c = refl
