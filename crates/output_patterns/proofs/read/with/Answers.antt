use Rattle.std.proofs.Common.{inl, refl}
use Rattle.document_reader.specs.Lines.{lines}
use Rattle.output_patterns.specs.declared.pattern.Watch.{Watch}
use Rattle.output_patterns.proofs.Reading.{refused_first}
use Rattle.output_patterns.proofs.read.with.Goals as goal

pub returns-in-Err : goal.returns-in-Err
returns-in-Err c bytes cut = refused_first (λ (w : Watch). w.net) (λ (w : Watch). w.patterns.items) bytes c.args.cut.before.now (lines c.args.cut.after.now) c.in-Err.fault (inl (c.args.cut.after.now, cut, refl)) c.in-Err.ensures.read
