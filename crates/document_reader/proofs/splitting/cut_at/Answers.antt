use Rattle.std.proofs.Common.{◌≡◌, refl, sym, ◌∙◌, arith}
use Rattle.filter_constraints.proofs.BytesLemmas.{bytes_eq-tells}
use Rattle.document_reader.specs.Cut.{IsCutAt, first_number}
use Rattle.document_reader.proofs.Searching.{begun, found, searched}
use Rattle.document_reader.proofs.splitting.cut_at.Goals as goal

pub lines-init : goal.lines-init
lines-init c = begun c.args.bytes.now c.args.word.now

told : (c : goal.After-before-1) → IsCutAt c.args.word.now c.args.bytes.now c.split_at.result.0.now c.in-Some.after.now × (c.lines.number ≡ first_number c.split_at.result.0.now)
told c =
    found c.args.bytes.now c.args.word.now c.lines.rest.now c.in-Some.line.now c.in-Some.after.now c.split_at.result.0.now c.lines.number _
    c.lines.invariant c.in-Some.ensures.cut c.in-Some.ensures.parts (bytes_eq-tells c.in-Some.line.now c.args.word.now (sym c.eq.ensures ∙ c.if-eq.true)) c.split_at.ensures.front refl

pub returns-then-eq-clause-cut : goal.returns-then-eq-clause-cut
returns-then-eq-clause-cut c = (told c).0

pub returns-then-eq-clause-number : goal.returns-then-eq-clause-number
returns-then-eq-clause-number c = (told c).1

pub lines-preserved : goal.lines-preserved
lines-preserved c =
    searched c.args.bytes.now c.args.word.now c.lines.rest.now c.in-Some.line.now c.in-Some.after.now c.lines.number _
    c.lines.invariant c.in-Some.ensures.cut c.in-Some.ensures.parts refl (omega (arith, c.lines.invariant.bound, c.in-Some.ensures.shorter)) (sym c.eq.ensures ∙ c.if-eq.false)
