use Rattle.std.proofs.Common.{◌∙◌, ◌++◌, ap}
use Rattle.document_generate.specs.Lines.{texts_drawn}
use Rattle.document_generate.specs.Document.{generated, script_text, script_draws}
use Rattle.document_generate.proofs.Chain.{join}
use Rattle.document_generate.proofs.document.generate.Goals as goal

pub returns : goal.returns
unfolding generated
returns c =
    join _ _ _ _
    (join _ _ _ _ (join _ _ _ _ c.in_ok-out.ensures.items c.in_ok-push_edges.ensures.text) (c.in_ok-push_clients.ensures c.args.seed))
    (c.in_ok-push_scripts.ensures
    ∙ ap (λ s. c.push_clients.new.out.items ++ texts_drawn script_text script_draws 64 0 s) c.in_ok-push_edges.ensures.state)
