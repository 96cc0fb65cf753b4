use Rattle.base_devices.proofs.Outlets.{went-then}
use Rattle.output_traffic.specs.Text.{direction_arrow}
use Rattle.output_traffic.proofs.directions.put_arrow.Goals as goal

pub returns : goal.returns
unfolding direction_arrow
returns g c =
    went-then _ _ _ _ _
    (went-then _ _ _ _ _
    (went-then _ _ _ _ _
    (went-then _ _ _ _ _
    (went-then _ _ _ _ _ (went-then _ _ _ _ _ c.put_labelled.ensures c.put_labelled-2.ensures) c.put_labelled-3.ensures)
    c.put_labelled-4.ensures)
    c.put_labelled-5.ensures)
    (rw c.width.ensures at c.put_labelled-6.ensures))
    c.put.ensures
