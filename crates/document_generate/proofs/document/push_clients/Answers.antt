use Rattle.std.proofs.Common.{refl}
use Rattle.document_generate.specs.Lines.{client_line}
use Rattle.document_generate.proofs.Rest.{text_step, text_end}
use Rattle.document_generate.proofs.document.push_clients.Goals as goal

pub loop-i-preserved : goal.loop-i-preserved
loop-i-preserved c = λ seed.
    text_step client_line (λ n. 0) 64 c.loop-i.i seed seed c.loop-i.out.items c.push_client.new.out.items _ c.loop-i-test.true
    (c.loop-i.invariant seed) (c.in_ok-push_client.ensures seed) refl

pub returns : goal.returns
returns c = λ seed. text_end client_line (λ n. 0) 64 c.loop-i.i seed c.loop-i.out.items _ c.loop-i-test.false (c.loop-i.invariant seed)
