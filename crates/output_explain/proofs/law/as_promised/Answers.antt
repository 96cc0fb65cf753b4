use Rattle.output_explain.proofs.Promised.{owed_as_promised, allowed_as_promised}
use Rattle.output_explain.proofs.law.as_promised.Goals as goal

pub returns-clause-owed : goal.returns-clause-owed
returns-clause-owed c net client publisher ordinal e is = owed_as_promised net client publisher ordinal e is

pub returns-clause-allowed : goal.returns-clause-allowed
returns-clause-allowed c net client publisher ordinal e is = allowed_as_promised net e is.explained
