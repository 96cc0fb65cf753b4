use Rattle.std.proofs.Common.{subst, sym}
use Rattle.law_machine.specs.Journals.{IsReplay}
use Rattle.law_machine.proofs.Merge.{merged-parts}
use Rattle.law_routing.specs.Routing.{routing_machine}
use Rattle.law_routing.proofs.runs.merge_runs.Goals as goal

pub returns : goal.returns
returns hold c net k cells ends journals all g = merged-parts (routing_machine hold.M.Matching.theory net) k all g.merge.order cells ends (λ t. subst (λ z. IsReplay (routing_machine hold.M.Matching.theory net) k t (cells t) z (ends t)) (sym (g.merge.parts t)) (g.replay t)) g.took
