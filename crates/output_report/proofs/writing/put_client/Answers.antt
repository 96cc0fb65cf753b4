use Rattle.base_devices.proofs.Outlets.{went-then}
use Rattle.output_report.specs.Lines.{client_line}
use Rattle.output_report.proofs.writing.put_client.Goals as goal

pub returns : goal.returns
unfolding client_line
returns g c = went-then _ _ _ _ _ c.put.ensures (went-then _ _ _ _ _ (rw c.bytes.ensures.bytes at c.put-2.ensures) c.put-3.ensures)
