use Rattle.std.proofs.Common.{subst}
use Rattle.law_phases.specs.Moments.{opening_moment}
use Rattle.law_phases.specs.Runs.{IsPhasedRun}
use Rattle.law_phases.specs.Trees.{net_at}
use Rattle.net_model.specs.Real.{real}
use Rattle.net_journal.proofs.Runs.{one-merge}
use Rattle.net_journal.proofs.law.merged_is_the_run.Goals as goal

pub returns : goal.returns
returns c = λ net journals merged merge end last next sofar between.
    subst (λ entries. IsPhasedRun real net (opening_moment real net).state 0 entries end last)
    (one-merge (net_at real net 0) journals merged sofar (merge (net_at real net 0)) between.merge)
    between.run
