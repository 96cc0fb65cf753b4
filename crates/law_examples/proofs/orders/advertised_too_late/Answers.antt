use Rattle.std.proofs.Common.{ℕ, [], take, inl, refl, subst, arith}
use Rattle.std.proofs.Common.{◌≡◌}
use Rattle.base.specs.Sets.{Has}
use Rattle.law_routing.specs.Clients.{filters_after}
use Rattle.law_examples.specs.Ranges.{Any, ranges}
use Rattle.law_examples.specs.SmallNets.{in_phase, advertised_late}
use Rattle.law_routing.specs.Net.{Publish}
use Rattle.law_examples.proofs.LawfulNets.{advertised_late-lawful}
use Rattle.law_examples.proofs.orders.advertised_too_late.Goals as goal

pub returns-clause-lawful : goal.returns-clause-lawful
returns-clause-lawful c = advertised_late-lawful

pub returns-clause-accepted : goal.returns-clause-accepted
returns-clause-accepted c = record { index = 1; command = in_phase 1 (Publish 9); at = refl; publishes = refl; ordinal = refl; allowed = refl; phase = refl }

listed : (count : ℕ) → 1 ≡ count → Has Any (filters_after ranges [] (take count (advertised_late.script 2)))
listed count e = subst (λ k. Has Any (filters_after ranges [] (take k (advertised_late.script 2)))) e (inl refl)

pub returns-clause-wanted : goal.returns-clause-wanted
returns-clause-wanted c count m = listed count (omega (arith, m.from, m.upto))

pub returns-clause-not_due : goal.returns-clause-not_due
returns-clause-not_due c due = let e = due.allowed 0 (omega arith) (omega arith) in absurd cc

pub returns-clause-trace : goal.returns-clause-trace
returns-clause-trace c = refl

pub returns-clause-given : goal.returns-clause-given
returns-clause-given c = refl
