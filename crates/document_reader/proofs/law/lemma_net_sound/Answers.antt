use Rattle.document_reader.proofs.SoundDocuments.{document_is_sound}
use Rattle.document_reader.proofs.law.lemma_net_sound.Goals as goal

pub returns : goal.returns
returns c = document_is_sound
