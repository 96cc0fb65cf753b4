use Rattle.std.proofs.Common.{inl, refl}
use Rattle.law_routing.proofs.Witness.{numbers-laws, line-laws}
use Rattle.law_hierarchy.proofs.Nets.{pair-laws, chain-laws}
use Rattle.law_hierarchy.proofs.can_be_met.Goals as goal

pub returns : goal.returns
returns c = record { theory = numbers-laws; line = λ adverts. record { lawful = line-laws adverts; topped = inl refl }; pair = pair-laws; chain = chain-laws }
