use Rattle.base_devices.proofs.Outlets.{went-then}
use Rattle.output_traffic.specs.Text.{direction_line}
use Rattle.output_traffic.proofs.directions.put_line.Goals as goal

pub returns : goal.returns
unfolding direction_line
returns g c = went-then _ _ _ _ _ (went-then _ _ _ _ _ c.put_labelled.ensures c.put_labelled-2.ensures) c.put_counts.ensures
