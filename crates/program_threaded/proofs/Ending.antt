-- A phase that is entered and ended leaves a team between two phases.
use Rattle.std.proofs.Common.{◌≡◌, ℕ, suc, List, sym, subst, ◌∙◌}
use Rattle.law_machine.specs.Journals.{Cell}
use Rattle.net_model.specs.Parts.{NetParts}
use Rattle.thread_cell.specs.Cell.{CellParts, machine_in}
use Rattle.thread_cell.specs.Coming.{HaveCommand}
use Rattle.thread_cell.specs.InHand.{AreAllInHand}
use Rattle.thread_cell.specs.Together.{AreBegun, AreTogether, IsFinished, cell_roots}
use Rattle.thread_outcome.specs.Outcome.{AreInHand, AreKept, IsPhaseBegun, IsPhaseDone, StandBetween}
use Rattle.thread_workers.specs.declared.server_workers.Viewers.{Viewers}
use Rattle.thread_workers.specs.ServerWorkers.{AreViewersOf, Pairwise}
use Rattle.program_threaded.specs.Teams.{AreUnderWay, HaveStarted, IsTeam}

pub phase-ended : (net : NetParts) (last phase : ℕ) (old started now : List CellParts) (viewers : List Viewers) → AreInHand net last old → HaveStarted net last phase old started → HaveCommand old phase
    → cell_roots now ≡ cell_roots started → AreKept now → ((begun : ℕ → Cell (machine_in net phase)) → AreBegun net phase now begun → IsFinished net phase now begun) → Pairwise AreViewersOf (cell_roots now) viewers
    → (IsPhaseDone net last phase old started now → StandBetween net phase (suc phase) now) → IsTeam net phase now viewers
phase-ended net last phase old started now viewers hand have some stay kept finished looks done = record {
  between = record {
    next = suc phase;
    stand = done (record {
      hand = hand;
      stood = have.stood;
      some = some;
      enters = have.enters;
      journals = have.journals;
      starts = have.starts;
      roots_stay = stay;
      kept = kept;
      finished = finished;
    });
    hand = record { sound = hand.sound; together = subst (AreTogether net phase) (sym stay) have.together; kept = kept };
  };
  viewers_of = looks;
}

-- with all cells in hand a phase that is under way has begun
pub phase-begun : (net : NetParts) (last phase : ℕ) (before started handed now : List CellParts) → AreUnderWay net last phase before started handed → cell_roots now ≡ cell_roots handed
    → (AreTogether net phase (cell_roots handed) → (begun : ℕ → Cell (machine_in net phase)) → AreBegun net phase now begun → AreAllInHand net phase now begun)
    → IsPhaseBegun net last phase before started now
phase-begun net last phase before started handed now way same reached = record {
  hand = way.hand;
  stood = way.have.stood;
  enters = way.have.enters;
  roots_stay = same ∙ way.roots_stay;
  reached = reached (subst (AreTogether net phase) (sym way.roots_stay) way.have.together);
}
