use Rattle.document_script.proofs.UniqueLaws.{command_once}
use Rattle.document_script.proofs.law.one_command.Goals as goal

pub returns : goal.returns
returns c = command_once
