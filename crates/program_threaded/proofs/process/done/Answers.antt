use Rattle.std.proofs.Common.{inr, subst, sym}
use Rattle.program_threaded.specs.Processes.{IsUnread}
use Rattle.program_threaded.proofs.process.done.Goals as goal

pub returns-in-Err : goal.returns-in-Err
returns-in-Err g c =
    let e = c.uncalled.ensures in
    inr (subst (IsUnread c.args.arguments) (sym e.status) c.in-Err.ensures, record { unread = e.input; unwritten = e.output })
