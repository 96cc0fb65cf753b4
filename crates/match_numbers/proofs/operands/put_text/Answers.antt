use Rattle.std.proofs.Common.{◌∙◌, ap}
use Rattle.match_index.specs.Lines.{on_side}
use Rattle.match_index.specs.Keys.{key_of}
use Rattle.match_numbers.specs.Kinds.{sides_for}
use Rattle.match_numbers.proofs.TextPutting.{texts-more}
use Rattle.match_numbers.proofs.operands.put_text.Goals as goal

pub returns : goal.returns
returns c pairs is =
    let e = c.in_ok-put_ask.ensures in
    let sides = c.sides_for.ensures ∙ ap sides_for c.op.ensures.op in
    let same = c.in_ok-key.ensures ∙ (c.key_of.ensures ∙ ap key_of c.operand.ensures) in
    texts-more c.args.constraint.now c.op.ensures.whole c.args.id _ same c.of-ask.result c.of-ask.ensures.id (λ o. c.of-ask.ensures.met o ∙ ap (λ s. on_side s o) sides) c.args.texts.now.items c.put_ask.new.cuts.items c.args.groups.now.items c.put_ask.new.groups.items pairs is e.paired e.rising e.missed e.asked e.known e.total
