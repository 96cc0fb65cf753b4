use Rattle.document_generate.specs.Lines.{subscribe_line}
use Rattle.document_generate.proofs.Rest.{text_step, text_end, five_step, none_left}
use Rattle.document_generate.proofs.document.push_subscribes.Goals as goal

pub loop-preserved : goal.loop-preserved
loop-preserved c = (
  text_step (λ n. subscribe_line) (λ n. 5) 4 c.loop.counter c.loop.draws.state c.push_subscribe.new.draws.state c.loop.out.items c.push_subscribe.new.out.items _ c.loop-test.true
      c.loop.invariant.0 c.in_ok-push_subscribe.ensures.text c.in_ok-push_subscribe.ensures.state,
  five_step 4 c.loop.counter c.loop.draws.state c.push_subscribe.new.draws.state _ c.loop-test.true c.loop.invariant.1 c.in_ok-push_subscribe.ensures.state,
)

pub returns-clause-text : goal.returns-clause-text
returns-clause-text c = text_end (λ n. subscribe_line) (λ n. 5) 4 c.loop.counter c.loop.draws.state c.loop.out.items _ c.loop-test.false c.loop.invariant.0

pub returns-clause-state : goal.returns-clause-state
returns-clause-state c = none_left 5 4 c.loop.counter c.loop.draws.state _ c.loop-test.false c.loop.invariant.1
