use Rattle.std.proofs.Common.{ap, subst, Err}
use Rattle.program_sequential.specs.declared.subject.Subject.TheVariants.{Client}
use Rattle.program_sequential.specs.Explaining.{ExplainsInput}
use Rattle.program_sequential.proofs.Explained.{listed-by, refused-input}
use Rattle.program_sequential.proofs.outlook.of_client.Goals as goal

pub returns-in-Err : goal.returns-in-Err
returns-in-Err c =
    refused-input (Client c.args.client.now) c.args.bytes.now c.in-Err.fault _ (ap Err c.from.ensures) (λ line kind e. c.in-Err.ensures.bad line kind (ap Err e))

pub returns : goal.returns
returns c =
    subst (λ name. ExplainsInput (Client name) c.args.bytes.now c.listed.result) c.bytes.ensures
    (listed-by c.bytes.result.now c.args.bytes.now c.in-Ok.net c.listed.result c.in-Ok.ensures.net c.listed.ensures)
