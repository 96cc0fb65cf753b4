use Rattle.document_generate.specs.Lines.{publish_line}
use Rattle.document_generate.proofs.Rest.{text_step, text_end, six_step, none_left}
use Rattle.document_generate.proofs.document.push_publishes.Goals as goal

pub loop-preserved : goal.loop-preserved
loop-preserved c = (
  text_step (λ n. publish_line) (λ n. 6) c.args.count c.loop.counter c.loop.draws.state c.push_publish.new.draws.state c.loop.out.items c.push_publish.new.out.items _ c.loop-test.true
      c.loop.invariant.0 c.in_ok-push_publish.ensures.text c.in_ok-push_publish.ensures.state,
  six_step c.args.count c.loop.counter c.loop.draws.state c.push_publish.new.draws.state _ c.loop-test.true c.loop.invariant.1 c.in_ok-push_publish.ensures.state,
)

pub returns-clause-text : goal.returns-clause-text
returns-clause-text c = text_end (λ n. publish_line) (λ n. 6) c.args.count c.loop.counter c.loop.draws.state c.loop.out.items _ c.loop-test.false c.loop.invariant.0

pub returns-clause-state : goal.returns-clause-state
returns-clause-state c = none_left 6 c.args.count c.loop.counter c.loop.draws.state _ c.loop-test.false c.loop.invariant.1
