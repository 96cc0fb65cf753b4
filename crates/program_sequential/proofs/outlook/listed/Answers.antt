use Rattle.std.proofs.Common.{sym, subst}
use Rattle.output_explain.specs.Prospects.{AreProspects, IsOutlook}
use Rattle.program_sequential.proofs.outlook.listed.Goals as goal

pub returns-in-Ok-Some : goal.returns-in-Ok-Some
returns-in-Ok-Some c =
    let found = subst (IsOutlook c.args.net.now c.args.name.now) c.in-Ok-Some.field-0-is c.in-Ok-Some.ensures in
    c.shown.ensures c.args.name.now found.0 found.1 (subst (λ list. AreProspects c.args.net.now found.0 list) (sym c.deref.ensures.value) found.2)
