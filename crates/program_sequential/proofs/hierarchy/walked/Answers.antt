use Rattle.std.proofs.Common.{IfOk, sym, subst}
use Rattle.net_model.specs.Parts.{NetParts}
use Rattle.net_model.specs.Sound.{IsSound}
use Rattle.program_sequential.specs.HierarchyRan.{IsHierarchyRan}
use Rattle.program_sequential.proofs.hierarchy.walked.Goals as goal

pub walked_over-requires : goal.walked_over-requires
walked_over-requires g c = record { sound = subst IsSound (sym c.in_ok-tables.ensures) c.requires.sound }

pub returns-clause-ran : goal.returns-clause-ran
returns-clause-ran g c = subst (λ (n : NetParts). IfOk c.walked_over.result (λ ran. IsHierarchyRan n ran)) c.in_ok-tables.ensures c.walked_over.ensures.ran
