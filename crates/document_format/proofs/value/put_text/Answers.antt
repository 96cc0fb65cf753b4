use Rattle.base_devices.proofs.Outlets.{went-then}
use Rattle.document_format.proofs.value.put_text.Goals as goal

pub returns : goal.returns
returns g c = went-then _ _ _ _ _ (went-then _ _ _ _ _ c.put.ensures (rw c.bytes.ensures.bytes at c.put_bytes.ensures)) c.put-2.ensures
