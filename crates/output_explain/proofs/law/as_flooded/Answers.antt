use Rattle.std.proofs.Common.{sym, subst}
use Rattle.output_flood.specs.Flooding.{AreRows}
use Rattle.output_explain.proofs.Flooded.{owed_to, owed_from, may_to, may_from}
use Rattle.output_explain.proofs.law.as_flooded.Goals as goal

pub returns-clause-owed : goal.returns-clause-owed
returns-clause-owed c net rows refused flooding e x place list q at =
    let are = subst (λ z. AreRows net z list) (sym q) (flooding.of_client place list at) in (owed_to net e x list are, owed_from net e x list are)

pub returns-clause-may : goal.returns-clause-may
returns-clause-may c net rows refused flooding e x place list q at =
    let are = subst (λ z. AreRows net z list) (sym q) (flooding.of_client place list at) in (may_to net e x list are, may_from net e x list are)
