use Rattle.std.proofs.lemmas.Result.{on_ok_weaker}
use Rattle.document_generate.specs.Lines.{subscribe_text}
use Rattle.document_generate.proofs.lines.push_filter.Goals as goal
use Rattle.base.proofs.Lists.{append-chain}

pub returns : goal.returns
unfolding subscribe_text
returns c = on_ok_weaker c.push_text.result
    (λ h. append-chain _ _ _ _ _ (append-chain _ _ _ _ _ (append-chain _ _ _ _ _ c.in_ok-push_labelled.ensures c.in_ok-push_test.ensures) c.in_ok-push_prefix.ensures) h)
    c.push_text.ensures
