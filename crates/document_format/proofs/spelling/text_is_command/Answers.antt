use Rattle.document_format.proofs.CommandLaws.{command_spelled}
use Rattle.document_format.proofs.spelling.text_is_command.Goals as goal

pub returns : goal.returns
returns c = command_spelled
