use Rattle.std.proofs.Common.{ap}
use Rattle.match_texts.specs.declared.marks.Mark.{Mark}
use Rattle.match_texts.proofs.Marking.{no-prefix}
use Rattle.match_texts.proofs.meet.is_prefix.Goals as goal

pub returns-then-mark-ne-SHORT : goal.returns-then-mark-ne-SHORT
returns-then-mark-ne-SHORT c = no-prefix c.args.x.now c.args.key.now c.args.first c.args.pair c.args.mark.first c.requires.first c.requires.pair (ap (λ (m : Mark). m.first) c.requires.marked) c.if-mark-first.true c.if-mark-pair.true c.if-mark-ne-SHORT.true
