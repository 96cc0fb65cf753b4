use Rattle.base_devices.proofs.Outlets.{went-then}
use Rattle.document_format.proofs.line.put_numbered.Goals as goal

pub returns : goal.returns
returns g c = went-then _ _ _ _ _ (went-then _ _ _ _ _ c.put.ensures (rw c.from.ensures at c.put_number.ensures)) c.put-2.ensures
