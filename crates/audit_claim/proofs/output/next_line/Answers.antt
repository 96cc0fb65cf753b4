use Rattle.std.proofs.Common.{◌≡◌, ◌==◌, Bool, true, false, eqb-true, length, sym, ◌∙◌, arith, ap}
use Rattle.audit_claim.proofs.Pieces.{first_line, no_lines, whole_line}
use Rattle.audit_claim.proofs.output.next_line.Goals as goal

pub returns-then-is_empty-clause-cut : goal.returns-then-is_empty-clause-cut
returns-then-is_empty-clause-cut c = no_lines c.args.bytes.now (eqb-true (length c.args.bytes.now) 0 (sym c.is_empty.ensures ∙ c.if-is_empty.true))

pub returns-in-Some-clause-cut : goal.returns-in-Some-clause-cut
returns-in-Some-clause-cut c = first_line c.args.bytes.now c.in-Some.parts.0.now c.in-Some.parts.1.now c.in-Some.ensures.parts

clash : (b : Bool) → b ≡ true → b ≡ false → ⊥
clash b p q = cc

pub returns-in-None-clause-cut : goal.returns-in-None-clause-cut
returns-in-None-clause-cut c =
    whole_line c.args.bytes.now c.split_at.result.0.now c.split_at.result.1.now (λ z. clash c.is_empty.result (c.is_empty.ensures ∙ ap (λ n. n == 0) z) c.if-is_empty.false) c.in-None.ensures.parts c.split_at.ensures.front (omega (arith, c.split_at.ensures.back_len))
