use Rattle.document_generate.specs.Lines.{edge_line}
use Rattle.document_generate.proofs.Rest.{text_step, text_end, one_step}
use Rattle.document_generate.proofs.document.push_edges.Goals as goal

pub loop-i-preserved : goal.loop-i-preserved
loop-i-preserved c = (
  text_step edge_line (λ n. 1) 15 c.loop-i.i c.loop-i.draws.state c.push_edge.new.draws.state c.loop-i.out.items c.push_edge.new.out.items _ c.loop-i-test.true
      c.loop-i.invariant.0 c.in_ok-push_edge.ensures.text c.in_ok-push_edge.ensures.state,
  one_step 15 c.loop-i.i c.loop-i.draws.state c.push_edge.new.draws.state _ c.loop-i-test.true c.loop-i.invariant.1 c.in_ok-push_edge.ensures.state,
)

pub returns-clause-text : goal.returns-clause-text
returns-clause-text c = text_end edge_line (λ n. 1) 15 c.loop-i.i c.loop-i.draws.state c.loop-i.out.items _ c.loop-i-test.false c.loop-i.invariant.0
