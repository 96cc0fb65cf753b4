use Rattle.document_generate.specs.Document.{script_text, script_draws}
use Rattle.document_generate.proofs.Rest.{text_step, text_end}
use Rattle.document_generate.proofs.document.push_scripts.Goals as goal

pub loop-i-preserved : goal.loop-i-preserved
loop-i-preserved c =
    text_step script_text script_draws 64 c.loop-i.i c.loop-i.draws.state c.push_script.new.draws.state c.loop-i.out.items c.push_script.new.out.items _ c.loop-i-test.true
    c.loop-i.invariant c.in_ok-push_script.ensures.text c.in_ok-push_script.ensures.state

pub returns : goal.returns
returns c = text_end script_text script_draws 64 c.loop-i.i c.loop-i.draws.state c.loop-i.out.items _ c.loop-i-test.false c.loop-i.invariant
