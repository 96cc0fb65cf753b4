use Rattle.std.proofs.Common.{ap, Err}
use Rattle.program_sequential.specs.declared.subject.Subject.TheVariants.{Publication}
use Rattle.program_sequential.specs.declared.words.Schedule.TheVariants.{Walk}
use Rattle.program_sequential.specs.Words.{plain}
use Rattle.program_sequential.proofs.Explained.{by-net, refused-input}
use Rattle.program_sequential.proofs.explanation.of_question.Goals as goal

pub returns-in-Err : goal.returns-in-Err
returns-in-Err c =
    refused-input (Publication c.args.question.now) c.args.bytes.now c.in-Err.fault _ (ap Err c.from.ensures) (λ line kind e. c.in-Err.ensures.bad line kind (ap Err e))

pub returns : goal.returns
returns c =
    let net = c.in-Ok.net in
    let of = c.in-Ok.ensures.net in
    by-net c.args.question.now c.args.bytes.now net c.explained.result of c.in-Ok.ensures.sound c.in-Ok.ensures.notices
    (λ journal. c.lemma_promise.ensures.clients plain c.args.bytes.now net journal of)
    (λ journal whole goes. c.lemma_promise.ensures.network Walk plain net journal whole goes) c.explained.ensures
