use Rattle.std.proofs.Common.{drop, sym, ap, subst, ◌∙◌}
use Rattle.audit_verdict.specs.Comparing.{ComparingParts, IsComparedTo, comparing}
use Rattle.audit_verdict.proofs.Pieces.{follows_at}
use Rattle.audit_verdict.proofs.comparing.Comparing.follow.Goals as goal

pub returns-clause-went : goal.returns-clause-went
returns-clause-went c = λ piece h.
    follows_at c.args.self.now c.self.inside.claimed.now c.self.inside.at (comparing c.part.inside.claimed.now c.part.inside.at c.part.inside.apart) piece
    (ap (comparing c.self.inside.claimed.now c.self.inside.at) (sym c.if-self.false) ∙ c.self.view_is)
    (ap (λ (z : ComparingParts). z.claimed) c.part.view_is
    ∙ (c.requires.part
    ∙ (ap (λ (z : ComparingParts). drop c.args.from z.claimed) (sym c.self.view_is) ∙ ap (λ n. drop n c.self.inside.claimed.now) (sym c.if-self-from.false))))
    (subst (λ z. IsComparedTo z piece) (sym c.part.view_is) h)
