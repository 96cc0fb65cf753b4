use Rattle.std.proofs.Common.{◌≡◌, ◌++◌, subst}
use Rattle.output_report.specs.Summary.{summary_text}
use Rattle.output_report.proofs.summary.summary_text.Goals as goal
use Rattle.base.proofs.Lists.{append-chain}

pub returns : goal.returns
unfolding summary_text
returns c =
    subst (λ z. c.extend_from_slice.new.self.items ≡ z ++ summary_text c.args.publications c.args.deliveries c.args.entries c.args.messages) c.new-out.ensures.items
    (append-chain _ _ _ _ _
    (append-chain _ _ _ _ _
    (append-chain _ _ _ _ _ (append-chain _ _ _ _ _ c.in_ok-push_labelled_total.ensures c.in_ok-push_labelled_total-2.ensures) c.in_ok-push_labelled.ensures)
    c.in_ok-push_labelled_total-3.ensures)
    c.in_ok-extend_from_slice.ensures.items)
