use Rattle.document_script.proofs.IntLaws.{word_utf8, parsed_given, wide_given}
use Rattle.document_script.proofs.number.parsed_int.Goals as goal

pub returns-in_default : goal.returns-in_default
returns-in_default c = absurd (c.in_default.ensures.cases.0 (word_utf8 c.args.word.now c.requires))

pub returns-in-Ok-parse : goal.returns-in-Ok-parse
returns-in-Ok-parse c = parsed_given c.args.word.now c.in-Ok.text.now c.in-Ok-parse.n c.parse.result c.requires c.in-Ok.ensures.cases.0 c.parse.ensures.value.0 c.in-Ok-parse.is

pub returns-in-Err : goal.returns-in-Err
returns-in-Err c = wide_given c.args.word.now c.in-Ok.text.now c.in-Err.field-0 c.parse.result c.requires c.in-Ok.ensures.cases.0 c.parse.ensures.value.0 c.in-Err.is
