use Rattle.std.proofs.Common.{◌≡◌, ℕ, true, inl, refl, subst, arith}
use Rattle.law_routing.specs.Net.{Publish}
use Rattle.law_phases.specs.Flooding.{is_wanted_by}
use Rattle.law_examples.specs.Ranges.{ranges}
use Rattle.law_examples.specs.SmallNets.{in_phase, ranges_publication}
use Rattle.law_examples.specs.Flooding.{flooded_net}
use Rattle.law_examples.proofs.Floods.{run, drained}
use Rattle.law_examples.proofs.orders.flooding_delivers.Goals as goal

pub returns-clause-runs : goal.returns-clause-runs
returns-clause-runs c = record { run = run; of_net = refl; many = refl; drained = drained; gives = refl }

wants : (count : ℕ) → 1 ≡ count → is_wanted_by ranges flooded_net (ranges_publication 1 1 9) 2 count ≡ true
wants count e = subst (λ k. is_wanted_by ranges flooded_net (ranges_publication 1 1 9) 2 k ≡ true) e refl

pub returns-clause-owed : goal.returns-clause-owed
returns-clause-owed c = record {
  phase = 1;
  published = record { index = 1; command = in_phase 1 (Publish 9); at = refl; publishes = refl; ordinal = refl; allowed = refl; phase = refl };
  wanted = λ count m. wants count (omega (arith, m.from, m.upto));
  here = inl refl;
  lives = inl refl;
}
