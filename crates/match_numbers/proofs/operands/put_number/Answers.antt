use Rattle.std.proofs.Common.{◌≡◌, ◌∙◌, ap, ℤ, to_z, of_z, rules}
use Rattle.std.specs.Int.{w64}
use Rattle.std.proofs.lemmas.Int.{to_z-of_z}
use Rattle.match_index.specs.Lines.{on_side}
use Rattle.match_numbers.specs.Keys.{key_of}
use Rattle.match_numbers.specs.Kinds.{sides_for}
use Rattle.match_numbers.proofs.Putting.{told-more}
use Rattle.match_numbers.proofs.operands.put_number.Goals as goal

pub returns : goal.returns
returns c pairs is =
    let e = c.in_ok-put_ask.ensures in
    let sides = c.sides_for.ensures ∙ ap sides_for c.op.ensures.op in
    let key : ℤ = to_z w64 (of_z w64 c.key_of-key.result) in
    let same : key ≡ key_of c.args.constraint.now.operand = to_z-of_z w64 c.key_of-key.result (search rules) ∙ (c.key_of-key.ensures ∙ ap key_of c.operand.ensures) in
    told-more c.args.constraint.now c.op.ensures.whole c.args.id key same c.of-ask.result c.of-ask.ensures.id (λ o. c.of-ask.ensures.met o ∙ ap (λ s. on_side s o) sides) c.args.cuts.now.items c.put_ask.new.cuts.items c.args.groups.now.items c.put_ask.new.groups.items pairs is e.paired e.rising e.missed e.asked e.known e.total
