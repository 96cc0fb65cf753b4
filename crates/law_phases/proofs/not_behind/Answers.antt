use Rattle.std.proofs.Common.{◌≡◌, eqb-true}
use Rattle.law_routing.specs.Theory.{Theory}
use Rattle.law_phases.specs.Trees.{trees_by}
use Rattle.law_phases.specs.Runs.{PhasedRun}
use Rattle.law_phases.specs.AtMoments.{phase_seen}
use Rattle.law_phases.specs.Looking.{LooksBack}
use Rattle.law_phases.proofs.Looks.{not-behind}
use Rattle.law_phases.proofs.not_behind.Goals as goal

one : (th : Theory) (run : PhasedRun th) (back : LooksBack th run) → trees_by run.net.later (phase_seen th run back.rest) ≡ trees_by run.net.later (phase_seen th run back.moment)
one th run back = eqb-true (trees_by run.net.later (phase_seen th run back.rest)) (trees_by run.net.later (phase_seen th run back.moment)) back.one_tree

pub returns : goal.returns
returns hold c = record {
  installed = λ run back. (not-behind hold.M.Matching.theory hold.M.Matching.laws run back.moment back.within back.rest back.before back.server back.path back.earlier (one hold.M.Matching.theory run back) back.rests back.way).0;
  now = λ run back. (not-behind hold.M.Matching.theory hold.M.Matching.laws run back.moment back.within back.rest back.before back.server back.path back.earlier (one hold.M.Matching.theory run back) back.rests back.way).1;
}
