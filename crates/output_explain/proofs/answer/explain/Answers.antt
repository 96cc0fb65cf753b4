use Rattle.output_explain.proofs.Answered.{answer_is, no_client_to, no_client_from, no_publisher_to, no_publisher_from, no_publication_to, no_publication_from, memory_to}
use Rattle.output_explain.proofs.answer.explain.Goals as goal

pub returns-clause-answer : goal.returns-clause-answer
returns-clause-answer c =
    answer_is c.args.net.now c.requires c.args.client.now c.args.publisher.now c.args.ordinal c.answered.result c.answered.ensures.fault c.answered.ensures.explained

pub returns-clause-no_client : goal.returns-clause-no_client
returns-clause-no_client c = (
  no_client_to c.args.net.now c.requires c.args.client.now c.args.publisher.now c.args.ordinal c.answered.result c.answered.ensures.fault,
  no_client_from c.args.net.now c.requires c.args.client.now c.args.publisher.now c.args.ordinal c.answered.result c.answered.ensures.fault,
)

pub returns-clause-no_publisher : goal.returns-clause-no_publisher
returns-clause-no_publisher c = (
  no_publisher_to c.args.net.now c.requires c.args.client.now c.args.publisher.now c.args.ordinal c.answered.result c.answered.ensures.fault,
  no_publisher_from c.args.net.now c.requires c.args.client.now c.args.publisher.now c.args.ordinal c.answered.result c.answered.ensures.fault,
)

pub returns-clause-no_publication : goal.returns-clause-no_publication
returns-clause-no_publication c = (
  no_publication_to c.args.net.now c.requires c.args.client.now c.args.publisher.now c.args.ordinal c.answered.result c.answered.ensures.fault,
  no_publication_from c.args.net.now c.requires c.args.client.now c.args.publisher.now c.args.ordinal c.answered.result c.answered.ensures.fault,
)

pub returns-clause-memory : goal.returns-clause-memory
returns-clause-memory c =
    memory_to c.args.net.now c.requires c.args.client.now c.args.publisher.now c.args.ordinal c.answered.result c.answered.ensures.fault
