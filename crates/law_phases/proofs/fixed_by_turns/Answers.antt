use Rattle.std.proofs.Common.{◌≡◌, ℕ, ap₂}
use Rattle.law_phases.specs.Trees.{State, PhasedNet}
use Rattle.law_phases.specs.Moments.{Moment}
use Rattle.law_phases.specs.Runs.{SameTurns}
use Rattle.law_phases.proofs.Fixed.{by-turns}
use Rattle.law_routing.specs.Theory.{Theory}
use Rattle.law_phases.proofs.fixed_by_turns.Goals as goal

module _ (th : Theory) (net : PhasedNet th) (runs : SameTurns th net) where
  both : (runs.entries ≡ runs.others) × (runs.after.state ≡ runs.otherwise.state) × (runs.after.phase ≡ runs.otherwise.phase)
  both = by-turns th net runs.before.state runs.before.phase runs.entries runs.others runs.after.state runs.otherwise.state runs.after.phase runs.otherwise.phase runs.run runs.other runs.turns

  made : State th → ℕ → Moment th net
  made state phase = record { state = state; phase = phase }

  ends : runs.after ≡ runs.otherwise
  unfolding made
  ends = ap₂ made both.1 both.2

pub returns : goal.returns
returns hold c = record { entries = λ net runs. (both hold.M.Matching.theory net runs).0; end = λ net runs. ends hold.M.Matching.theory net runs }
