use Rattle.std.proofs.Common.{ap}
use Rattle.match_texts.specs.declared.marks.Mark.{Mark}
use Rattle.match_texts.proofs.Marking.{no-suffix}
use Rattle.match_texts.proofs.meet.is_suffix.Goals as goal

pub returns-then-mark-ne-SHORT : goal.returns-then-mark-ne-SHORT
returns-then-mark-ne-SHORT c = no-suffix c.args.x.now c.args.key.now c.args.last c.args.pair c.args.mark.last c.requires.last c.requires.pair (ap (λ (m : Mark). m.last) c.requires.marked) c.if-mark-last.true c.if-mark-pair.true c.if-mark-ne-SHORT.true
