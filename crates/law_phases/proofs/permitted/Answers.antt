use Rattle.law_phases.proofs.Turned.{permitted-happens, happens-permitted, found-is}
use Rattle.law_phases.proofs.permitted.Goals as goal

pub returns : goal.returns
returns hold c = record {
  tells = λ net before after turn entry p. (let x = permitted-happens hold.M.Matching.theory net before turn entry after p in (x.0, x.1));
  happens = λ net before after turn entry p. (permitted-happens hold.M.Matching.theory net before turn entry after p).2;
  only = λ net. happens-permitted hold.M.Matching.theory net;
  found = λ net before found own. found-is hold.M.Matching.theory net before own found;
}
