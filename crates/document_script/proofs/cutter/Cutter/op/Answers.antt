use Rattle.document_script.proofs.TokenLaws.{first_and_rest, none_op, sign_op, word_op}
use Rattle.document_script.proofs.cutter.Cutter.op.Goals as goal

pub returns-in-empty : goal.returns-in-empty
returns-in-empty c = none_op c.args.self.now.rest.now c.skip.new.self.rest.now c.skip.ensures c.in-empty.len_below

pub returns-then-is_word_byte : goal.returns-then-is_word_byte
returns-then-is_word_byte c = word_op c.op_named.result c.args.self.now.rest.now c.skip.new.self.rest.now c.run.result.now c.run.new.self.rest.now c.op_named.ensures c.skip.ensures c.in-len1-up.len_at_least (let t = c.if-is_word_byte.true in let e = c.is_word_byte.ensures in cc) c.run.ensures

pub returns-else-is_word_byte : goal.returns-else-is_word_byte
returns-else-is_word_byte c = sign_op c.sign.result c.args.self.now.rest.now c.skip.new.self.rest.now _ _ c.sign.new.self.rest.now c.skip.ensures (first_and_rest c.skip.new.self.rest.now c.in-len1-up.len_at_least) c.sign.ensures
