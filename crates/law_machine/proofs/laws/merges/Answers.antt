use Rattle.std.proofs.Common.{subst, sym}
use Rattle.law_machine.specs.Journals.{IsReplay}
use Rattle.law_machine.proofs.Merge.{merged-parts}
use Rattle.law_machine.proofs.laws.merges.Goals as goal

pub returns : goal.returns
returns hold c k cells ends journals all g = merged-parts hold.M.LocalStep.machine k all g.merge.order cells ends (λ t. subst (λ z. IsReplay hold.M.LocalStep.machine k t (cells t) z (ends t)) (sym (g.merge.parts t)) (g.replay t)) g.took
