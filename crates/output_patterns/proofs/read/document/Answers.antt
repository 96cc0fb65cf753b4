use Rattle.document_reader.proofs.SoundDocuments.{document_is_sound}
use Rattle.output_patterns.proofs.read.document.Goals as goal

pub returns-in-Ok-clause-few : goal.returns-in-Ok-clause-few
returns-in-Ok-clause-few c = (document_is_sound c.args.bytes.now c.in-Ok.net c.in-Ok.ensures.net).few
