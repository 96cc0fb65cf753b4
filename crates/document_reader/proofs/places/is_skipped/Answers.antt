use Rattle.document_reader.proofs.Scripting.{skips_all, skips_at, skips_on}
use Rattle.document_reader.proofs.places.is_skipped.Goals as goal

pub returns-then-not-is_blank : goal.returns-then-not-is_blank
returns-then-not-is_blank c = skips_at c.args.line.now c.loop-i.i c.loop-i-test.true (let t = c.if-not-is_blank.true in let e = c.is_blank.ensures in cc) c.loop-i.invariant

pub loop-i-preserved : goal.loop-i-preserved
loop-i-preserved c = skips_on c.args.line.now c.loop-i.i c.loop-i-test.true (let t = c.if-not-is_blank.false in let e = c.is_blank.ensures in cc) c.loop-i.invariant

pub returns : goal.returns
returns c = skips_all c.args.line.now c.loop-i.i c.loop-i-test.false c.loop-i.invariant
