use Rattle.base_devices.proofs.Outlets.{went-then}
use Rattle.filter_text.specs.FilterText.{constraints_text}
use Rattle.document_format.proofs.command.put_control.Goals as goal

pub returns : goal.returns
unfolding constraints_text
returns g c = went-then _ _ _ _ _ c.put.ensures c.put_parts.ensures
