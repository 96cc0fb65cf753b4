use Rattle.std.proofs.Common.{◌++◌, ap, ◌∙◌}
use Rattle.output_explain.specs.Text.{explanation_text}
use Rattle.program_sequential.specs.Explanations.{is_received, received_at, walk_line}
use Rattle.program_sequential.specs.Explaining.{IsTold}
use Rattle.program_sequential.proofs.Ended.{if-ok}
use Rattle.program_sequential.proofs.Explained.{told-of}
use Rattle.program_sequential.proofs.explanation.told.Goals as goal

pub returns : goal.returns
returns c =
    let ran = c.in_ok-journal.field-0 in
    let r = c.in_ok-journal.ensures.ran in
    let net = c.args.net.now in
    let e = c.args.explanation.now in
    let printed =
    c.in_ok-text.ensures ∙ ap (λ l. explanation_text net.clients e ++ walk_line (is_received e.id (received_at l e.client))) c.deref.ensures.value in
    if-ok c.make.result _ (λ p. IsTold net e p.text p.journal)
    (λ p is. told-of net e p c.in_ok-text.text.items ran.received.items ran.journal.entries is printed r.collected.received r.goes_by r.collected.legal r.drained)
    c.make.ensures
