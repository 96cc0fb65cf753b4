use Rattle.std.proofs.Common.{refl}
use Rattle.law_phases.proofs.Star.{star-walks}
use Rattle.law_phases.proofs.tree_after_barrier.Goals as goal

pub returns-clause-legal : goal.returns-clause-legal
returns-clause-legal c = record { end = record { state = star-walks.0; phase = star-walks.1 }; run = star-walks.2; drained = star-walks.3 }

pub returns-clause-trace : goal.returns-clause-trace
returns-clause-trace c = refl

pub returns-clause-given : goal.returns-clause-given
returns-clause-given c = refl
