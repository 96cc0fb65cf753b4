use Rattle.std.proofs.Common.{arith}
use Rattle.program_sequential.specs.declared.words.Schedule.TheVariants.{Walk}
use Rattle.program_sequential.specs.Words.{plain}
use Rattle.program_sequential.proofs.Searched.{patterns-of}
use Rattle.program_sequential.proofs.patterns.of_patterns.Goals as goal

pub searched-requires-clause-sound : goal.searched-requires-clause-sound
searched-requires-clause-sound c = c.lemma_net_sound.ensures c.in-Ok.ensures.watch.document c.in-Ok.field-0.net c.in-Ok.ensures.watch.well_formed

pub returns-in-Ok-searched : goal.returns-in-Ok-searched
returns-in-Ok-searched c =
    let net = c.in-Ok.field-0.net in
    let w = c.in-Ok.ensures.watch in
    let journal = c.in-Ok-searched.printed.journal in
    patterns-of c.args.bytes.now c.in-Ok-searched.printed.text net c.in-Ok.field-0.patterns.items journal (omega arith) w (c.lemma_net_sound.ensures w.document net w.well_formed) c.lemma_notices.ensures
    c.in-Ok-searched.ensures (c.lemma_promise.ensures.clients plain w.document net journal w.well_formed)
    (λ whole. c.lemma_promise.ensures.network Walk plain net journal whole c.in-Ok-searched.ensures.goes_by)
