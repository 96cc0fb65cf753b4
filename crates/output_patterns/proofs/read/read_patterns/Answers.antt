use Rattle.output_patterns.proofs.Reading.{bad_read, document_read, given_read, refused_document, refused_pattern, watch_read}
use Rattle.output_patterns.proofs.read.read_patterns.Goals as goal

pub returns-clause-watch : goal.returns-clause-watch
returns-clause-watch c = watch_read (λ w. w.net) (λ w. w.patterns.items) c.args.bytes.now c.requires c.answered.result c.answered.ensures

pub returns-clause-given : goal.returns-clause-given
returns-clause-given c = given_read (λ w. w.net) (λ w. w.patterns.items) c.args.bytes.now c.requires c.answered.result c.answered.ensures

pub returns-clause-document : goal.returns-clause-document
returns-clause-document c = document_read (λ w. w.net) (λ w. w.patterns.items) c.args.bytes.now c.requires c.answered.result c.answered.ensures

pub returns-clause-bad : goal.returns-clause-bad
returns-clause-bad c = bad_read (λ w. w.net) (λ w. w.patterns.items) c.args.bytes.now c.requires c.answered.result c.answered.ensures

pub returns-clause-refused_document : goal.returns-clause-refused_document
returns-clause-refused_document c = refused_document (λ w. w.net) (λ w. w.patterns.items) c.args.bytes.now c.requires c.answered.result c.answered.ensures

pub returns-clause-refused_pattern : goal.returns-clause-refused_pattern
returns-clause-refused_pattern c = refused_pattern (λ w. w.net) (λ w. w.patterns.items) c.args.bytes.now c.requires c.answered.result c.answered.ensures
