use Rattle.output_explain.proofs.Running.{owed_in_runs, never_in_runs}
use Rattle.output_explain.proofs.law.in_runs.Goals as goal

pub returns-clause-owed : goal.returns-clause-owed
returns-clause-owed c net client publisher ordinal e is owed run same drained = owed_in_runs net client publisher ordinal e is owed run same drained

pub returns-clause-never : goal.returns-clause-never
returns-clause-never c net client publisher ordinal e is never run same n has = never_in_runs net client publisher ordinal e is never run same n has
