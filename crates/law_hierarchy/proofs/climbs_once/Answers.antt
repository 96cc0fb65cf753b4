use Rattle.law_hierarchy.proofs.Climbing.{put-up, put-nowhere-else}
use Rattle.law_hierarchy.proofs.Ways.{on-the-way}
use Rattle.law_hierarchy.proofs.climbs_once.Goals as goal

pub returns : goal.returns
returns hold c = record {
  once = λ run d p x. put-up hold.M.Matching.theory hold.M.Matching.laws run p x d;
  nowhere_else = λ run n p x. put-nowhere-else hold.M.Matching.theory hold.M.Matching.laws run p x n;
  way = on-the-way hold.M.Matching.theory hold.M.Matching.laws;
}
