use Rattle.std.proofs.Common.{◌∙◌}
use Rattle.filter_text.proofs.Ints.{IsUtf8-signed, parsed, same_text}
use Rattle.filter_text.proofs.int.spelled_int.Goals as goal

pub returns-in_default : goal.returns-in_default
returns-in_default c z fits e = c.in_default.ensures.cases.0 (IsUtf8-signed z _ fits e)

pub returns-in_default-parse : goal.returns-in_default-parse
returns-in_default-parse c z fits e =
    c.in_default-parse.not-Ok z (parsed z c.in-Ok.text.now _ fits (c.in-Ok.ensures.cases.0 ∙ e) c.parse.ensures.value.0)

pub returns-else-eq : goal.returns-else-eq
returns-else-eq c z fits e =
    let equal = same_text z c.in-Ok-parse.value c.args.bytes.now c.in-Ok.text.now c.format-spelled.result.now c.parse.result fits e c.in-Ok.ensures.cases.0 c.parse.ensures.value.0 c.in-Ok-parse.is c.format-spelled.ensures.text in
    cc (equal, c.if-eq.false, c.eq.ensures)
