use Rattle.std.proofs.Common.{inl, inr}
use Rattle.audit_verdict.proofs.Pieces.{placed_all, placed_some}
use Rattle.audit_verdict.proofs.comparing.Comparing.place.Goals.{else-not-self-via-then-not-self+else-self, else-not-self-via-else-not-self}
use Rattle.audit_verdict.proofs.comparing.Comparing.place.Goals as goal

pub returns-then-self-clause-value : goal.returns-then-self-clause-value
returns-then-self-clause-value c = placed_all c.args.self.now c.self.inside.claimed.now c.self.inside.at c.self.inside.apart c.self.view_is c.if-not-self.true c.if-self.true

pub returns-else-not-self-clause-value : goal.returns-else-not-self-clause-value
returns-else-not-self-clause-value c =
    placed_some c.args.self.now c.self.inside.claimed.now c.self.inside.at c.self.inside.apart c.self.view_is
    (elim c.else-not-self.branch [ else-not-self-via-then-not-self+else-self w ↦ inr w.if-self.false | else-not-self-via-else-not-self w ↦ inl w.if-not-self.false ])
