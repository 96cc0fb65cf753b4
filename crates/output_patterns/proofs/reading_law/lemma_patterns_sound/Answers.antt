use Rattle.output_patterns.proofs.Sound.{watch_sound}
use Rattle.output_patterns.proofs.reading_law.lemma_patterns_sound.Goals as goal

pub returns-clause-sound : goal.returns-clause-sound
returns-clause-sound c bytes net patterns w = (watch_sound bytes net patterns w).0

pub returns-clause-few : goal.returns-clause-few
returns-clause-few c bytes net patterns w = (watch_sound bytes net patterns w).1
