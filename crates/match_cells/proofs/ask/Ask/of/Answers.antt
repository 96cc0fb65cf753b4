use Rattle.std.proofs.Common.{refl}
use Rattle.std.specs.declared.cmp.Ordering.TheVariants.{Less, Equal, Greater}
use Rattle.match_cells.proofs.ask.Ask.of.Goals as goal

pub returns-clause-met : goal.returns-clause-met
returns-clause-met c Less = refl
returns-clause-met c Equal = refl
returns-clause-met c Greater = refl
