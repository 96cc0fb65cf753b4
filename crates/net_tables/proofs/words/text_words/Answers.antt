use Rattle.net_tables.specs.Words.{text_word}
use Rattle.net_tables.proofs.Kept.{mapped_next}
use Rattle.net_tables.proofs.words.text_words.Goals as goal

pub loop-i-preserved : goal.loop-i-preserved
loop-i-preserved c =
    mapped_next text_word c.args.subs.now c.loop-i.i c.at-sub.result.now c.text_word.result c.loop-i.words.items c.push.new.self.items c.at-sub.ensures c.text_word.ensures c.loop-i.invariant
    c.in_ok-push.ensures.items
