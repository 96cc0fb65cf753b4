use Rattle.std.proofs.Common.{◌∙◌}
use Rattle.document_script.proofs.IntLaws.{digits_utf8, parsed_long}
use Rattle.document_script.proofs.number.long_digits.Goals as goal

pub returns-in_default : goal.returns-in_default
returns-in_default c = absurd (c.in_default.ensures.cases.0 (digits_utf8 c.args.bytes.now c.requires))

pub returns : goal.returns
returns c = c.ok.ensures.value ∙ parsed_long c.args.bytes.now c.in-Ok.text.now c.parse.result c.requires c.in-Ok.ensures.cases.0 c.parse.ensures.value.0
