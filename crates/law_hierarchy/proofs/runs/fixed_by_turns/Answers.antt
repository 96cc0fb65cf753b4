use Rattle.law_machine.proofs.Tried.{by-turns}
use Rattle.law_hierarchy.specs.Step.{hierarchy_machine}
use Rattle.law_hierarchy.proofs.runs.fixed_by_turns.Goals as goal

pub returns : goal.returns
returns hold c net = by-turns (hierarchy_machine hold.M.Matching.theory net)
