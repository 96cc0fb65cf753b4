use Rattle.law_examples.proofs.Owing.{wide-allowed, wide-not-owed, narrow-owed}
use Rattle.law_examples.proofs.withdrawn_and_owed.Goals as goal

pub returns-clause-allowed : goal.returns-clause-allowed
returns-clause-allowed c = wide-allowed

pub returns-clause-not_owed : goal.returns-clause-not_owed
returns-clause-not_owed c = wide-not-owed

pub returns-clause-owed : goal.returns-clause-owed
returns-clause-owed c = narrow-owed
