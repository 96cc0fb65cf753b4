use Rattle.std.proofs.Common.{◌≡◌, ℕ, [], ◌∷◌, inl, refl, sym, subst}
use Rattle.law_machine.specs.Machine.{Did}
use Rattle.law_routing.specs.Net.{Publish}
use Rattle.law_routing.specs.Step.{NextCommand}
use Rattle.law_phases.specs.Trees.{off}
use Rattle.law_phases.specs.Moments.{Moment, opening_moment}
use Rattle.law_phases.specs.Runs.{IsRunTo, PhasedRun}
use Rattle.law_examples.specs.Ranges.{ranges}
use Rattle.law_examples.specs.SmallNets.{in_phase, both_publish, answers}
use Rattle.law_examples.specs.Phased.{answered, answered_journal}
use Rattle.law_examples.proofs.Lawful.{ranges-laws}
use Rattle.law_examples.proofs.LawfulNets.{both_publish-lawful}
use Rattle.law_examples.proofs.Replayed.{replay-runs}
use Rattle.law_examples.proofs.Phased.{single-laws, single-runs}
use Rattle.law_examples.proofs.orders.answer_comes_behind.Goals as goal

pub returns-clause-one : goal.returns-clause-one
returns-clause-one c = refl

pub returns-clause-three : goal.returns-clause-three
returns-clause-three c = refl

after : Moment ranges answered
after = let r = replay-runs ranges ranges-laws both_publish both_publish-lawful ([] ∷ answers ∷ []) in record { state = off ranges both_publish r.0; phase = r.1 }

legal : IsRunTo ranges answered (opening_moment ranges answered) answered_journal after
unfolding after
legal = let r = replay-runs ranges ranges-laws both_publish both_publish-lawful ([] ∷ answers ∷ []) in single-runs ranges both_publish (Rattle.law_examples.specs.Trace.replay ranges both_publish ([] ∷ answers ∷ [])) r.0 r.1 r.2

abbrev run : PhasedRun ranges
run = record { net = answered; laws = single-laws ranges both_publish both_publish-lawful; journal = answered_journal; end = after.state; last = after.phase; legal = legal }

pub returns-clause-knowing : goal.returns-clause-knowing
returns-clause-knowing c = record {
  run = run;
  of_net = refl;
  of_journal = refl;
  knowing = record {
    made = 13;
    makes = record {
      entry = record { stamp = 9; server = 1; act = Did (NextCommand 1); outs = 2 ∷ [] };
      at = refl;
      server = refl;
      act = refl;
      phase = 1;
      published = record { index = 1; command = in_phase 1 (Publish 1); at = refl; publishes = refl; ordinal = refl; allowed = refl; phase = refl };
      next = refl;
    };
    known = inl refl;
  };
}
