use Rattle.std.proofs.Common.{ap, ◌∙◌, arith, add-one}
use Rattle.document_reader.specs.Lines.{lines, without_return}
use Rattle.document_reader.proofs.Cutting.{no_lines}
use Rattle.document_reader.proofs.Cutting.{is_nil, last_is_first, last_of, line_is_first, line_of}
use Rattle.document_reader.proofs.cut.next_line.Goals as goal

pub returns-then-bytes-eq0-clause-cut : goal.returns-then-bytes-eq0-clause-cut
returns-then-bytes-eq0-clause-cut c = ap lines (is_nil c.args.bytes.now (omega arith)) ∙ no_lines

pub returns-then-end-eq0-clause-cut : goal.returns-then-end-eq0-clause-cut
returns-then-end-eq0-clause-cut c =
    last_of c.args.bytes.now _ _ c.line_len-at.result c.split_at.ensures.front c.split_at.ensures.back (omega arith) (omega arith) (omega (arith, c.split_at.ensures.back_len)) c.line_len-at.ensures.before

pub returns-clause-cut : goal.returns-clause-cut
returns-clause-cut c =
    line_of c.args.bytes.now _ _ c.line_len-at.result _ (add-one _) (c.without_return.ensures.value ∙ ap without_return c.split_at.ensures.front) c.split_at-2.ensures.back (omega arith) (c.line_len-at.ensures.at (omega arith)) c.line_len-at.ensures.before

pub returns-then-end-eq0-clause-parts : goal.returns-then-end-eq0-clause-parts
returns-then-end-eq0-clause-parts c =
    last_is_first c.args.bytes.now _ _ c.line_len-at.result c.split_at.ensures.front c.split_at.ensures.back (omega arith) (omega arith) (omega (arith, c.split_at.ensures.back_len)) c.line_len-at.ensures.before

pub returns-clause-parts : goal.returns-clause-parts
returns-clause-parts c =
    line_is_first c.args.bytes.now _ _ c.line_len-at.result _ (add-one _) (c.without_return.ensures.value ∙ ap without_return c.split_at.ensures.front) c.split_at-2.ensures.back (omega arith) (c.line_len-at.ensures.at (omega arith)) c.line_len-at.ensures.before
