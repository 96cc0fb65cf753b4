use Rattle.output_explain.proofs.Agreeing.{owed_verdict, verdict_owed, may_verdict, verdict_may, near_verdict}
use Rattle.output_explain.proofs.law.listed_as_explained.Goals as goal

pub returns-clause-owed : goal.returns-clause-owed
returns-clause-owed c net e x prospects are = (owed_verdict net e x prospects are, verdict_owed net e x prospects are)

pub returns-clause-may : goal.returns-clause-may
returns-clause-may c net e x prospects are = (may_verdict net e x prospects are, verdict_may net e x prospects are)

pub returns-clause-near : goal.returns-clause-near
returns-clause-near c net e x prospects are = near_verdict net e x prospects are
