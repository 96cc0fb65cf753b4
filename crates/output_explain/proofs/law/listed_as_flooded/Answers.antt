use Rattle.output_explain.proofs.Agreeing.{owed_row, row_owed, may_row, row_may}
use Rattle.output_explain.proofs.law.listed_as_flooded.Goals as goal

pub returns-clause-owed : goal.returns-clause-owed
returns-clause-owed c net rows refused flooding place list at prospects are publisher ordinal =
    let of = flooding.of_client place list at in
    (owed_row net _ list of prospects are publisher ordinal, row_owed net _ list of prospects are publisher ordinal)

pub returns-clause-may : goal.returns-clause-may
returns-clause-may c net rows refused flooding place list at prospects are publisher ordinal =
    let of = flooding.of_client place list at in
    (may_row net _ list of prospects are publisher ordinal, row_may net _ list of prospects are publisher ordinal)
