use Rattle.std.proofs.Common.{ap, Err}
use Rattle.program_sequential.proofs.Explained.{answered-question, refused-question}
use Rattle.program_sequential.proofs.explanation.explained.Goals as goal

pub returns-in-Err : goal.returns-in-Err
returns-in-Err c =
    refused-question c.args.question.now c.args.net.now c.in-Err.fault _ c.client.result.now c.publisher.result.now c.ordinal.result
    c.client.ensures c.publisher.ensures c.ordinal.ensures (ap Err c.from.ensures)
    (λ e. c.in-Err.ensures.no_client.0 (ap Err e)) (λ e. c.in-Err.ensures.no_publisher.0 (ap Err e)) (λ e. c.in-Err.ensures.no_publication.0 (ap Err e))

pub returns-in-Ok-told : goal.returns-in-Ok-told
returns-in-Ok-told c =
    answered-question c.args.question.now c.args.net.now c.in-Ok.explanation c.in-Ok-told.printed c.client.result.now c.publisher.result.now c.ordinal.result
    c.client.ensures c.publisher.ensures c.ordinal.ensures c.in-Ok.ensures.answer c.in-Ok-told.ensures
