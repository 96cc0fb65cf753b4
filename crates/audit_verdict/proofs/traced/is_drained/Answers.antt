use Rattle.audit_verdict.proofs.MadeRuns.{stays_drained, tells_drained}
use Rattle.audit_verdict.proofs.traced.is_drained.Goals as goal

pub returns-in-Ok-clause-drained : goal.returns-in-Ok-clause-drained
returns-in-Ok-clause-drained g c =
    tells_drained g.K.NetworkKind.kind g.P.Ruled.trying g.P.Ruled.walking g.P.Ruled.telling g.P.Ruled.ruling c.requires.laws
    c.in-Ok.more c.args.network.now c.walk_phase.new.self c.in-Ok.ensures.walked c.journal.ensures.legal

pub returns-in-Ok-clause-same : goal.returns-in-Ok-clause-same
returns-in-Ok-clause-same g c =
    stays_drained g.K.NetworkKind.kind g.P.Ruled.trying g.P.Ruled.walking g.P.Ruled.telling g.P.Ruled.ruling c.requires.laws
    c.in-Ok.more c.args.network.now c.walk_phase.new.self c.in-Ok.ensures.walked
