use Rattle.base_devices.proofs.Outlets.{went-then}
use Rattle.output_report.specs.Lines.{refused_line}
use Rattle.output_report.proofs.writing.put_refusal.Goals as goal

pub returns : goal.returns
unfolding refused_line
returns g c = went-then _ _ _ _ _ c.put.ensures (went-then _ _ _ _ _ (rw c.from.ensures at c.put_number.ensures) c.put-2.ensures)
