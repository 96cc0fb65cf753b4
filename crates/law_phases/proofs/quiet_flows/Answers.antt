use Rattle.law_phases.proofs.Again.{quiet-flows}
use Rattle.law_phases.proofs.quiet_flows.Goals as goal

pub returns : goal.returns
returns hold c = record {
  filters = λ run n server neighbour link. (quiet-flows hold.M.Matching.theory hold.M.Matching.laws run n link.quiet server neighbour link.near).0;
  adverts = λ run n server neighbour link. (quiet-flows hold.M.Matching.theory hold.M.Matching.laws run n link.quiet server neighbour link.near).1;
}
