use Rattle.base_devices.proofs.Outlets.{went-then}
use Rattle.output_traffic.proofs.text.put_text.Goals as goal

pub returns : goal.returns
returns g c = went-then _ _ _ _ _ c.put_links.ensures c.put_totals.ensures
