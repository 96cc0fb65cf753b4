use Rattle.std.proofs.Common.{◌≡◌, ℕ, true, [], take, refl, sym, subst, arith}
use Rattle.law_routing.specs.Clients.{some_pass, filters_after, adverts_after, accepts}
use Rattle.law_examples.specs.Ranges.{ranges}
use Rattle.law_examples.specs.SmallNets.{advertised_until}
use Rattle.law_examples.proofs.LawfulNets.{advertised_until-lawful}
use Rattle.law_examples.proofs.orders.advertised_till_published.Goals as goal

pub returns-clause-lawful : goal.returns-clause-lawful
returns-clause-lawful c = advertised_until-lawful

wants : (count : ℕ) → 1 ≡ count → some_pass (ranges.matches 9) (filters_after ranges [] (take count (advertised_until.script 2))) ≡ true
wants count e = subst (λ k. some_pass (ranges.matches 9) (filters_after ranges [] (take k (advertised_until.script 2))) ≡ true) e refl

may : (count : ℕ) → 1 ≡ count → accepts ranges advertised_until (adverts_after ranges [] (take count (advertised_until.script 1))) 9 ≡ true
may count e = subst (λ k. accepts ranges advertised_until (adverts_after ranges [] (take k (advertised_until.script 1))) 9 ≡ true) e refl

pub returns-clause-due : goal.returns-clause-due
returns-clause-due c = record {
  wanted = λ count m. wants count (omega (arith, m.from, m.upto));
  allowed = λ count from upto. may count (omega (arith, from, upto));
}

pub returns-clause-not_owed : goal.returns-clause-not_owed
returns-clause-not_owed c owed = let a = owed.allowed refl in a.always 3 (record { from = omega arith; upto = omega arith })

pub returns-clause-given : goal.returns-clause-given
returns-clause-given c = refl
