use Rattle.std.proofs.Common.{inr, [], refl}
use Rattle.output_patterns.specs.declared.pattern.Watch.{Watch}
use Rattle.output_patterns.proofs.Reading.{all_read, refused_first}
use Rattle.output_patterns.proofs.read.without.Goals as goal

pub returns-in-Ok : goal.returns-in-Ok
returns-in-Ok c = all_read c.args.bytes.now c.in-Ok.net c.new.result.items c.requires.none c.in-Ok.ensures.read c.new.ensures.items

pub returns-in-Err : goal.returns-in-Err
returns-in-Err c = refused_first (λ (w : Watch). w.net) (λ (w : Watch). w.patterns.items) c.args.bytes.now c.args.bytes.now [] c.in-Err.fault (inr (c.requires.none, refl, refl)) c.in-Err.ensures.read
