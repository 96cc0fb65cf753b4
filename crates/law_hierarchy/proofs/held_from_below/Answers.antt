use Rattle.law_hierarchy.proofs.Told.{kept, held-lower, held-above, up-all}
use Rattle.law_hierarchy.proofs.Given.{unheld}
use Rattle.law_hierarchy.proofs.held_from_below.Goals as goal

pub returns : goal.returns
returns hold c = record { below = λ run. held-lower hold.M.Matching.theory hold.M.Matching.laws run; above = λ run. held-above hold.M.Matching.theory hold.M.Matching.laws run; all = λ run. up-all hold.M.Matching.theory hold.M.Matching.laws run; on_its_way = λ run. (kept hold.M.Matching.theory hold.M.Matching.laws run).1; adverts = λ run server m. unheld hold.M.Matching.theory hold.M.Matching.laws run m server }
