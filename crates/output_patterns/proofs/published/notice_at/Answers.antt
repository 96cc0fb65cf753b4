use Rattle.std.proofs.Common.{◌-◌, get_or, ap, ◌∙◌, arith}
use Rattle.output_report.specs.Published.{by_number}
use Rattle.output_patterns.proofs.Lookup.{numbered, within}
use Rattle.output_patterns.proofs.published.notice_at.Goals as goal

pub bounds-of_client-id : goal.bounds-of_client-id
bounds-of_client-id c =
    let w = within c.args.notices.now c.args.id.publisher c.args.id.ordinal c.requires in
    rw (c.as_slice-of_client.ensures ∙ c.index-notices-id.is ∙ numbered c.args.notices.now c.args.id.publisher c.index-notices-id.result w.2 w.3) (omega (arith, w.0, w.1))

pub returns : goal.returns
returns c =
    let w = within c.args.notices.now c.args.id.publisher c.args.id.ordinal c.requires in
    c.index-of_client-id.is
    ∙ ap (λ z. get_or z (c.args.id.ordinal - 1) c.index-of_client-id.result)
    (c.as_slice-of_client.ensures ∙ c.index-notices-id.is ∙ numbered c.args.notices.now c.args.id.publisher c.index-notices-id.result w.2 w.3)
    ∙ numbered (by_number c.args.notices.now c.args.id.publisher) c.args.id.ordinal c.index-of_client-id.result w.0 w.1
