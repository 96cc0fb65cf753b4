use Rattle.std.proofs.Common.{ap, ◌∙◌}
use Rattle.law_routing.specs.LegalRun.{states}
use Rattle.law_routing.proofs.Started.{installed-run, calm-now}
use Rattle.law_routing.proofs.installed_is_held.Goals as goal

pub returns : goal.returns
returns hold c = record {
  then = λ run t m i. installed-run hold.M.Matching.theory hold.M.Matching.laws run t m i;
  now = λ run t m i e. installed-run hold.M.Matching.theory hold.M.Matching.laws run t m i ∙ ap (λ z. ((states hold.M.Matching.theory run z).state t).subs i) (calm-now hold.M.Matching.theory hold.M.Matching.laws run t m e);
}
