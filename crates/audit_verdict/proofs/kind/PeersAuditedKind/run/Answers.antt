use Rattle.std.proofs.Common.{refl}
use Rattle.audit_verdict.proofs.PeersLaws.{peers-make}
use Rattle.audit_verdict.proofs.kind.PeersAuditedKind.run.Goals as goal

pub make_run-requires : goal.make_run-requires
make_run-requires c = λ κs. ((refl, tt), (peers-make, (c.requires.sound, (c.requires.first, c.requires.short))))
