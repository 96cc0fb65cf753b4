use Rattle.document_script.proofs.HeadLaws.{bad_no_name, empty_no_name, head_is, long_no_name, no_head}
use Rattle.document_script.proofs.tokens.Tokens.head.Goals as goal

pub returns-in-Ok : goal.returns-in-Ok
returns-in-Ok c = rw c.in-Ok.ensures.value (head_is c.args.version c.args.self.now c.word.new.self c.kind.new.self c.in-Some.word.now c.in-Some-kind.kind c.in-Some.ensures c.in-Some-kind.ensures c.in-Ok.ensures.ok)

pub returns-in-Err-Empty : goal.returns-in-Err-Empty
returns-in-Err-Empty c = no_head c.args.version c.args.self.now c.word.new.self c.kind.new.self c.in-Some.word.now c.in-Some-kind.kind c.in-Some.ensures c.in-Some-kind.ensures (empty_no_name c.in-Some.word.now (c.in-Err-Empty.ensures.empty.0 (let h = c.in-Err-Empty.field-0-is in cc)))

pub returns-in-Err-TooLong : goal.returns-in-Err-TooLong
returns-in-Err-TooLong c = no_head c.args.version c.args.self.now c.word.new.self c.kind.new.self c.in-Some.word.now c.in-Some-kind.kind c.in-Some.ensures c.in-Some-kind.ensures (long_no_name c.in-Some.word.now (c.in-Err-TooLong.ensures.too_long.0 (let h = c.in-Err-TooLong.field-0-is in cc)))

pub returns-in-Err-BadByte : goal.returns-in-Err-BadByte
returns-in-Err-BadByte c = no_head c.args.version c.args.self.now c.word.new.self c.kind.new.self c.in-Some.word.now c.in-Some-kind.kind c.in-Some.ensures c.in-Some-kind.ensures (bad_no_name c.in-Some.word.now c.in-Err-BadByte.field-0-0 ((c.in-Err-BadByte.ensures.bad_byte c.in-Err-BadByte.field-0-0).0 (let h = c.in-Err-BadByte.field-0-is in cc)))
