use Rattle.std.proofs.Common.{ap}
use Rattle.match_texts.specs.declared.marks.Mark.{Mark}
use Rattle.match_texts.proofs.Marking.{no-part-first, no-part-last}
use Rattle.match_texts.proofs.meet.is_part.Goals as goal

pub returns-then-not-is_marked : goal.returns-then-not-is_marked
returns-then-not-is_marked c = no-part-first c.args.x.now c.args.key.now c.args.words.now c.args.mark.first c.requires.places (ap (λ (m : Mark). m.first) c.requires.marked) c.if-not-is_marked.ensures

pub returns-then-not-is_marked-2 : goal.returns-then-not-is_marked-2
returns-then-not-is_marked-2 c = no-part-last c.args.x.now c.args.key.now c.args.words.now c.args.mark.last c.requires.places (ap (λ (m : Mark). m.last) c.requires.marked) c.if-not-is_marked-2.ensures
