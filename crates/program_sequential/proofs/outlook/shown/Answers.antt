use Rattle.program_sequential.proofs.Explained.{listed-of}
use Rattle.program_sequential.proofs.outlook.shown.Goals as goal

pub returns-in-Ok : goal.returns-in-Ok
returns-in-Ok c = λ name number named are.
    listed-of name c.args.net.now c.in-Ok.printed number c.args.list.now named are c.in-Ok.ensures
