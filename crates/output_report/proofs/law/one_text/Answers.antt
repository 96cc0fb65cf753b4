-- A text is read as the lists that it was made of.
use Rattle.output_report.proofs.OneText.{one-text, trace-follows}
use Rattle.output_report.proofs.law.one_text.Goals as goal

pub returns-clause-lists : goal.returns-clause-lists
returns-clause-lists c = one-text

pub returns-clause-trace : goal.returns-clause-trace
returns-clause-trace c = trace-follows
