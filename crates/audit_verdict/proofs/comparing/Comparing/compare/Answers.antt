use Rattle.std.proofs.Common.{sym, ap, ◌∙◌}
use Rattle.audit_verdict.specs.Comparing.{comparing}
use Rattle.audit_verdict.proofs.Pieces.{goes_apart}
use Rattle.audit_verdict.proofs.comparing.Comparing.compare.Goals as goal

pub returns-in-Some : goal.returns-in-Some
returns-in-Some c =
    goes_apart c.args.self.now c.self.inside.claimed.now c.args.piece.now c.split_at.result.1.now c.self.inside.at c.in-Some.place
    (ap (comparing c.self.inside.claimed.now c.self.inside.at) (sym c.if-self.false) ∙ c.self.view_is) c.self.invariant c.split_at.ensures.back (sym c.in-Some.ensures.value)
