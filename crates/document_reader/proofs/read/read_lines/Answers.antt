use Rattle.std.proofs.Common.{◌∙◌, arith, sym}
use Rattle.document_reader.specs.Lines.{lines}
use Rattle.document_reader.proofs.Reading.{next_read}
use Rattle.document_reader.proofs.SoundDocuments.{end_has, line_stands}
use Rattle.document_reader.proofs.read.read_lines.Goals as goal

pub lines-preserved : goal.lines-preserved
lines-preserved c =
    let n = c.lines.number in
    let left = next_read n c.lines.state c.line.new.state (lines c.lines.rest.now) (lines c.in-Some.after.now) c.in-Some.text.now c.in-Some.ensures.cut c.in-Ok.ensures in
    (sym left ∙ c.lines.invariant.0, omega arith, omega (arith, c.lines.invariant.2, c.in-Some.ensures.shorter), line_stands c.lines.state c.line.new.state n c.in-Some.text.now c.in-Ok.ensures c.lines.invariant.3)

pub net-requires-clause-servers : goal.net-requires-clause-servers
net-requires-clause-servers c = c.lines.invariant.3.servers (end_has c.lines.state c.in-Ok-end.ensures.steps)
