use Rattle.base_devices.proofs.Outlets.{went-then}
use Rattle.output_traffic.specs.Text.{counts_end}
use Rattle.output_traffic.proofs.line.put_counts.Goals as goal

pub returns : goal.returns
unfolding counts_end
returns g c =
    went-then _ _ _ _ _
    (went-then _ _ _ _ _ (went-then _ _ _ _ _ c.put_labelled.ensures c.put_labelled-2.ensures) c.put_labelled-3.ensures)
    c.put.ensures
