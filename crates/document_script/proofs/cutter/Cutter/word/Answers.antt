use Rattle.std.proofs.Common.{ap}
use Rattle.document_script.specs.Form.{word_in}
use Rattle.document_script.proofs.TokenLaws.{no_word, none_word, word_cut}
use Rattle.document_script.proofs.cutter.Cutter.word.Goals as goal

pub returns-in-empty : goal.returns-in-empty
returns-in-empty c = none_word c.args.self.now.rest.now c.skip.new.self.rest.now c.skip.ensures c.in-empty.len_below

pub returns-then-is_word_byte : goal.returns-then-is_word_byte
returns-then-is_word_byte c = ap word_in (word_cut c.args.self.now.rest.now c.skip.new.self.rest.now c.run.result.now c.run.new.self.rest.now c.skip.ensures c.in-len1-up.len_at_least (let t = c.if-is_word_byte.true in let e = c.is_word_byte.ensures in cc) c.run.ensures)

pub returns-else-is_word_byte : goal.returns-else-is_word_byte
returns-else-is_word_byte c = no_word c.args.self.now.rest.now c.skip.new.self.rest.now c.skip.ensures c.in-len1-up.len_at_least (let t = c.if-is_word_byte.false in let e = c.is_word_byte.ensures in cc)
