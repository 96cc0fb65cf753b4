use Rattle.audit_verdict.proofs.MadeRuns.{IsMadeTo}
use Rattle.audit_verdict.proofs.traced.make_compared.Given as goal

-- so far the turns were made, and the text of their entries was compared behind the head
abbrev pub invariant-loop-line : goal.invariant-loop-line
invariant-loop-line g l = IsMadeTo g.K.NetworkKind.kind l.line-index l.turns l.fn.tables l.network l.initial.text l.text
