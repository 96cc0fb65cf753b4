use Rattle.std.proofs.Common.{◌∙◌, sym}
use Rattle.law_machine.proofs.Order.{merge-once}
use Rattle.law_machine.proofs.laws.once.Goals as goal

pub returns : goal.returns
returns hold c journals all others g h = merge-once hold.M.LocalStep.machine all others g.order h.order (λ t. g.parts t ∙ sym (h.parts t))
