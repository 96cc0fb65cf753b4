use Rattle.output_report.specs.Summary.{counts_text}
use Rattle.output_report.proofs.summary.push_counts.Goals as goal
use Rattle.base.proofs.Lists.{append-chain}

pub returns : goal.returns
unfolding counts_text
returns c =
    append-chain _ _ _ _ _
    (append-chain _ _ _ _ _
    (append-chain _ _ _ _ _
    (append-chain _ _ _ _ _
    (append-chain _ _ _ _ _ (append-chain _ _ _ _ _ c.in_ok-push_labelled.ensures c.in_ok-push_labelled-2.ensures) c.in_ok-push_labelled-3.ensures)
    c.in_ok-push_labelled-4.ensures)
    c.in_ok-push_labelled-5.ensures)
    c.in_ok-push_labelled-6.ensures)
    c.in_ok-extend_from_slice.ensures.items
