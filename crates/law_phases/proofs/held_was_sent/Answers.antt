use Rattle.law_phases.proofs.Looks.{held}
use Rattle.law_phases.proofs.held_was_sent.Goals as goal

pub returns : goal.returns
returns hold c = record {
  filters = λ run m from to link. (held hold.M.Matching.theory hold.M.Matching.laws run m link.within from to link.near).0;
  adverts = λ run m from to link. (held hold.M.Matching.theory hold.M.Matching.laws run m link.within from to link.near).1;
}
