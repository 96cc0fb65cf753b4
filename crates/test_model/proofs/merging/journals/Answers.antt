use Rattle.test_model.proofs.Pushing.{next-journal}
use Rattle.test_model.proofs.merging.journals.Goals as goal

pub loop-place-preserved : goal.loop-place-preserved
loop-place-preserved c =
    rw c.in_ok-push.ensures.items
    (next-journal (λ entries. entries.items) c.loop-place.all.items c.in_ok-journal.field-0 c.loop-place.place c.in_ok-journal.ensures c.loop-place.invariant)
