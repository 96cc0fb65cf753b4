use Rattle.base_devices.proofs.Outlets.{went-then}
use Rattle.output_traffic.specs.Text.{total_line}
use Rattle.output_traffic.proofs.text.put_totals.Goals as goal

pub returns : goal.returns
unfolding total_line
returns g c = went-then _ _ _ _ _ c.put.ensures c.put_counts.ensures
