use Rattle.std.proofs.Common.{◌-◌, length, sym, ◌∙◌, arith}
use Rattle.document_reader.proofs.Cutting.{with_cr, no_cr, no_cr_empty}
use Rattle.document_reader.proofs.cut.without_return.Goals as goal

pub returns-then-line-eq0-clause-value : goal.returns-then-line-eq0-clause-value
returns-then-line-eq0-clause-value c = sym (no_cr_empty c.args.line.now (omega arith))

pub returns-then-line-before-ne13-clause-value : goal.returns-then-line-before-ne13-clause-value
returns-then-line-before-ne13-clause-value c = sym (no_cr c.args.line.now (length c.args.line.now - 1) (omega arith) c.if-line-before-ne13.true)

pub returns-clause-value : goal.returns-clause-value
returns-clause-value c = c.split_at.ensures.front ∙ sym (with_cr c.args.line.now (length c.args.line.now - 1) (omega arith) c.if-line-before-ne13.false)
