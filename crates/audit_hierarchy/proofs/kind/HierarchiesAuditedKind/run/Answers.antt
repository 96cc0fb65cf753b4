use Rattle.std.proofs.Common.{refl}
use Rattle.audit_hierarchy.proofs.Laws.{hierarchies-make}
use Rattle.audit_hierarchy.proofs.kind.HierarchiesAuditedKind.run.Goals as goal

pub make_run-requires : goal.make_run-requires
make_run-requires c = λ κs. ((refl, tt), (hierarchies-make, (c.requires.sound, (c.requires.first, c.requires.short))))
