use Rattle.std.proofs.Common.{length, subst, sym}
use Rattle.server_core.specs.Due.{IsChangeOf, IsCarried}
use Rattle.server_core.proofs.Telling.{no-adverts, adverts-carried}
use Rattle.server_core.proofs.due.AdTelling.load.Goals as goal

pub returns-in_err-change : goal.returns-in_err-change
returns-in_err-change c net items announced ms announces is =
    let none = subst (IsChangeOf (length items) announced) c.in_err-change.was is in
    subst (IsCarried net ms) (sym c.from_residual.ensures) (no-adverts items announced ms announces.announces none.0 none.1)

pub returns : goal.returns
returns c net items announced ms announces is = adverts-carried net items announced ms announces c.in_ok-change.field-0 (subst (IsChangeOf (length items) announced) c.in_ok-change.was is)
