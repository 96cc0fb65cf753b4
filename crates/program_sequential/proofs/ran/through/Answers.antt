use Rattle.std.proofs.Common.{◌≡◌, Result, Err, sym, ap, ◌∙◌}
use Rattle.net_model.specs.Parts.{NetParts}
use Rattle.program_sequential.specs.Runs.{turns_first}
use Rattle.program_sequential.proofs.Schedules.{through, stops-at, told-turn}
use Rattle.program_sequential.proofs.ran.through.Goals as goal

unerr : {T E : Type 0} {a b : E} → ◌≡◌ {A = Result T E} (Err a) (Err b) → a ≡ b
unerr e = cc

pub returns-in-Err-clause-bad : goal.returns-in-Err-clause-bad
returns-in-Err-clause-bad g c = λ line kind e.
    let t = told-turn c.in-Err.fault line kind (sym c.told.ensures ∙ unerr e) in (
      t.0,
      stops-at c.args.schedule c.args.tables.now c.in_ok-network.network c.replay.new.self c.turns_first.result.now line c.in_ok-network.ensures (c.turns_first.ensures ∙ ap (λ (n : NetParts). turns_first c.args.schedule n) c.net.ensures)
          (c.in-Err.ensures.bad line (ap Err t.1)),
    )

pub returns-clause-through : goal.returns-clause-through
returns-clause-through g c =
    through c.args.schedule c.requires.quiet c.args.tables.now c.in_ok-network.network c.replay.new.self c.walk.new.self c.turns_first.result.now c.in_ok-network.ensures (c.turns_first.ensures ∙ ap (λ (n : NetParts). turns_first c.args.schedule n) c.net.ensures)
    c.in-Ok.ensures.made c.in_ok-walk.ensures.walked
