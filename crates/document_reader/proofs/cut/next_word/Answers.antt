use Rattle.std.proofs.Common.{arith}
use Rattle.document_reader.proofs.Cutting.{first_word, no_word_of, word_of}
use Rattle.document_reader.proofs.cut.next_word.Goals as goal

pub returns-then-text-eq0 : goal.returns-then-text-eq0
returns-then-text-eq0 c = no_word_of c.args.bytes.now _ c.blanks_len.result c.split_at.ensures.back c.if-text-eq0.true c.blanks_len.ensures.within c.blanks_len.ensures.before

pub returns : goal.returns
returns c = word_of c.args.bytes.now c.split_at.result.1.now _ _ c.blanks_len.result c.word_len.result c.split_at.ensures.back c.blanks_len.ensures.within c.blanks_len.ensures.before c.split_at-2.ensures.front c.split_at-2.ensures.back (first_word c.args.bytes.now c.split_at.result.1.now c.blanks_len.result c.word_len.result c.split_at.ensures.back (omega arith) c.blanks_len.ensures.at (omega arith) c.word_len.ensures.at) c.word_len.ensures.within c.word_len.ensures.before c.word_len.ensures.at
