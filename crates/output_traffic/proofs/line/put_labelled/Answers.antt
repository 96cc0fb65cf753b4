use Rattle.base_devices.proofs.Outlets.{went-then}
use Rattle.base.specs.Text.{labelled}
use Rattle.output_traffic.proofs.line.put_labelled.Goals as goal

pub returns : goal.returns
unfolding labelled
returns g c = went-then _ _ _ _ _ c.put.ensures (rw (c.as_bytes.ensures.value, c.format.ensures.text) at c.put-2.ensures)
