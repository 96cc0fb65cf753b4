use Rattle.base_devices.proofs.Outlets.{went-then}
use Rattle.output_traffic.proofs.directions.put_link.Goals as goal

pub returns : goal.returns
returns g c = went-then _ _ _ _ _ (rw c.direction.ensures.value at c.put_direction.ensures) (rw c.direction-2.ensures.value at c.put_direction-2.ensures)
