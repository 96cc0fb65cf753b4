use Rattle.base_devices.proofs.Outlets.{went-then}
use Rattle.document_format.proofs.command.put_command.Goals as goal

pub returns : goal.returns
returns g c = went-then _ _ _ _ _ c.put_text.ensures c.put.ensures
