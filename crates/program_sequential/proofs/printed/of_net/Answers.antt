use Rattle.std.proofs.Common.{◌≡◌, [], sym, subst}
use Rattle.document_reader.specs.declared.fault.Fault.TheVariants.{BadTurn}
use Rattle.program_sequential.specs.Faults.{StopsAtLine}
use Rattle.program_sequential.specs.Ran.{turns_for}
use Rattle.program_sequential.proofs.printed.of_net.Goals as goal

pub returns-in-Run-clause-bad : goal.returns-in-Run-clause-bad
returns-in-Run-clause-bad c = λ line kind e.
    subst (λ q. (kind ≡ BadTurn) × StopsAtLine c.args.net [] (turns_for q c.args.net) line) (sym c.in-Run.is) (c.run.ensures.bad line kind e)
